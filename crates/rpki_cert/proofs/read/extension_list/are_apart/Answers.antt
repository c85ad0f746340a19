use Rattle.std.proofs.Common.{refl, ap}
use Rattle.std.specs.Prelude.{is_some}
use Rattle.rpki_cert.proofs.ListedLaws.{too-many, no-room}
use Rattle.rpki_cert.proofs.read.extension_list.are_apart.Goals as goal

pub returns-in-Err-clause-err : goal.returns-in-Err-clause-err
returns-in-Err-clause-err c =
    no-room _ _ c.requires _ _ (ap is_some c.in-Some.is) c.if-count-le-MOST_EXTENSIONS.false refl
    c.in-Err.ensures.refused

pub returns-in-None-clause-err : goal.returns-in-None-clause-err
returns-in-None-clause-err c =
    too-many _ _ c.requires _ _ (ap is_some c.in-None.is) c.if-count-le-MOST_EXTENSIONS.false refl
    (rw c.content.ensures refl)
