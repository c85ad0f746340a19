use Rattle.std.proofs.Common.{◌≡◌}
use Rattle.rpki_resources.specs.Encoded.{without_end}
use Rattle.rpki_resources.proofs.encode.stripped.without_bits.Given as goal

-- the rest has the same bits
abbrev pub invariant-bits : goal.invariant-bits
invariant-bits l = without_end l.bit l.size l.number ≡ without_end l.bit l.width l.whole

abbrev pub decreases-bits : goal.decreases-bits
decreases-bits l = l.size
