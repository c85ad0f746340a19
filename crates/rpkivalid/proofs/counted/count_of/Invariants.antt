use Rattle.std.proofs.Common.{◌≡◌, ◌+◌, ◌≤◌, length}
use Rattle.rpkivalid.specs.Counted.{count_of}
use Rattle.rpkivalid.proofs.counted.count_of.Given as goal

abbrev pub invariant-rejections : goal.invariant-rejections
invariant-rejections l =
    (count_of l.kind l.rejections ≡ l.count + count_of l.kind l.rest)
    × (l.count + length l.rest ≤ length l.rejections)

abbrev pub decreases-rejections : goal.decreases-rejections
decreases-rejections l = length l.rest
