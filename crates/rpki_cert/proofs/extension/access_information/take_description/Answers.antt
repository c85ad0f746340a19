use Rattle.std.proofs.Common.{true, false}
use Rattle.std.specs.Option.{option_copied}
use Rattle.rpki_der.specs.TagName.{oid, sequence}
use Rattle.rpki_der.specs.Leaves.{IsOidOf}
use Rattle.rpki_der.specs.Parts.{Then}
use Rattle.rpki_der.specs.Values.{SpellsLeaf}
use Rattle.rpki_cert.specs.GeneralName.{SpellsName}
use Rattle.rpki_cert.specs.Access.{SpellsDescription}
use Rattle.rpki_cert.proofs.GatherLaws.{leaf-gives}
use Rattle.rpki_x509.proofs.NameViewLaws.{leaf-missing}
use Rattle.rpki_x509.proofs.TriedLaws.{tried-gives}
use Rattle.rpki_cert.proofs.extension.access_information.take_description.Goals as goal

pub returns-in_err-contents-clause-gives : goal.returns-in_err-contents-clause-gives
returns-in_err-contents-clause-gives c =
    tried-gives (λ d. (d.0.0.now, option_copied d.1)) SpellsDescription _ _ _ _ c.from_residual.ensures
    (leaf-missing sequence true (Then (SpellsLeaf oid false IsOidOf) SpellsName) _ _ c.in_err-contents.field-0.0
    c.in_err-contents.ensures)

pub returns-clause-gives : goal.returns-clause-gives
returns-clause-gives c =
    leaf-gives sequence true (Then (SpellsLeaf oid false IsOidOf) SpellsName) _ (λ d. (d.0.0.now, option_copied d.1)) _
    _ c.description_in.result c.in_ok-contents.ensures c.description_in.ensures.gives
