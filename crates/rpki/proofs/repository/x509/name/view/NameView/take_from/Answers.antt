use Rattle.rpki_der.proofs.TriedLaws.{tried-refused}
use Rattle.rpki.proofs.NameLaws.{borrowed-name, name-borrowed}
use Rattle.rpki.proofs.NameFaultLaws.{view-refused}
use Rattle.rpki.proofs.repository.x509.name.view.NameView.take_from.Goals as goal

pub returns-in_err-skip_name : goal.returns-in_err-skip_name
returns-in_err-skip_name c =
    tried-refused _ _ _ _ _ _ _ c.from_residual.ensures
    (view-refused _ _ c.in_err-skip_name.field-0.0 c.in_err-skip_name.ensures)

pub returns : goal.returns
returns c = name-borrowed _ _ _ _ c.in_ok-skip_name.ensures c.rest-octets.ensures c.rest.ensures

pub invariant_of-result : goal.invariant_of-result
invariant_of-result c = borrowed-name _ _ _ _ c.in_ok-skip_name.ensures c.rest-octets.ensures c.rest.ensures
