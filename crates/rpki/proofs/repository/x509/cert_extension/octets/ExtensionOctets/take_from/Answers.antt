use Rattle.rpki_der.proofs.TriedLaws.{tried-refused}
use Rattle.rpki.proofs.ExtensionFaultLaws.{extension-refused}
use Rattle.rpki.proofs.repository.x509.cert_extension.octets.ExtensionOctets.take_from.Goals as goal

pub returns-in_err-placed : goal.returns-in_err-placed
returns-in_err-placed g c =
    tried-refused _ _ _ _ _ _ _ c.from_residual.ensures
    (extension-refused _ _ c.in_err-placed.field-0.0 c.in_err-placed.ensures.reads)
