use Rattle.std.proofs.Common.{map, take}
use Rattle.rpkicert.specs.Output.{IsSeenIn}
use Rattle.rpkicert.specs.OutputView.{parts_of}
use Rattle.rpkicert.specs.RequirementsView.{terms_of}
use Rattle.rpkicert.proofs.SeenLaws.{HasSeen}
use Rattle.rpkicert.proofs.files.seen_each.Given as goal

abbrev pub invariant-loop-at : goal.invariant-loop-at
invariant-loop-at l =
    HasSeen (IsSeenIn l.check l.form (terms_of l.terms)) l.name (map (λ t. t.now) (take l.at l.texts)) (parts_of l.all)
