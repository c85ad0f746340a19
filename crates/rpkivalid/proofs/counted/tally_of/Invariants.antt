use Rattle.std.proofs.Common.{◌≡◌, ◌+◌, length}
use Rattle.rpkivalid.specs.Counted.{objects_in, points_in}
use Rattle.rpkivalid.proofs.counted.tally_of.Given as goal

abbrev pub invariant-rejections : goal.invariant-rejections
invariant-rejections l =
    (points_in l.rejections ≡ l.points + points_in l.rest) × (objects_in l.rejections ≡ l.objects + objects_in l.rest)
    × (length l.rejections ≡ l.points + l.objects + length l.rest)

abbrev pub decreases-rejections : goal.decreases-rejections
decreases-rejections l = length l.rest
