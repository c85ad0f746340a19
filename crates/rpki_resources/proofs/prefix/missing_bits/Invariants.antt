use Rattle.rpki_resources.proofs.PrefixLaws.{Counting}
use Rattle.rpki_resources.proofs.prefix.missing_bits.Given as goal

-- the numbers without the bits that were counted are still a prefix
abbrev pub invariant-bits : goal.invariant-bits
invariant-bits l = Counting l.low l.high l.first l.last l.count

abbrev pub decreases-bits : goal.decreases-bits
decreases-bits l = l.last
