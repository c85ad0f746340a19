use Rattle.std.proofs.Common.{true}
use Rattle.rpki_der.specs.TagName.{sequence}
use Rattle.rpki_der.specs.Each.{SpellsSome}
use Rattle.rpki_cert.specs.Access.{Through, SpellsDescription, SpellsAccess}
use Rattle.rpki_cert.specs.AccessInformation.{access_parts, parts_of}
use Rattle.rpki_cert.proofs.GatherLaws.{leaf-all, leaf-none}
use Rattle.rpki_x509.proofs.TriedLaws.{tried-all}
use Rattle.rpki_cert.proofs.extension.access_information.AccessInformation.read.Goals as goal

pub returns-in_err-contents-clause-gives : goal.returns-in_err-contents-clause-gives
returns-in_err-contents-clause-gives c =
    tried-all parts_of (SpellsAccess access_parts) _ _ _ c.from_residual.ensures
    (leaf-none sequence true (Through access_parts (SpellsSome SpellsDescription)) _
    c.in_err-contents.ensures.gives)

pub returns-clause-gives : goal.returns-clause-gives
returns-clause-gives c = leaf-all sequence true (Through access_parts (SpellsSome SpellsDescription)) _ parts_of _
    c.gather.result c.in_ok-contents.ensures.gives c.gather.ensures.gives
