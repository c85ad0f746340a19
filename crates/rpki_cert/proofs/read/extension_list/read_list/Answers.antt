use Rattle.std.proofs.Common.{refl}
use Rattle.rpki_cert.specs.View.IsListWrong.{NotListed}
use Rattle.rpki_cert.proofs.ListedLaws.{twice}
use Rattle.rpki_cert.proofs.read.extension_list.read_list.Goals as goal

pub returns-in-Err-clause-err : goal.returns-in-Err-clause-err
returns-in-Err-clause-err c = NotListed c.in-Err.ensures.err refl

pub returns-then-not-branch-clause-err : goal.returns-then-not-branch-clause-err
returns-then-not-branch-clause-err c =
    twice _ _ c.in-Ok.ensures.ok.count _ _ _ c.in_ok-are_apart.ensures.ok c.if-not-branch.true refl
    (rw c.content.ensures refl)
