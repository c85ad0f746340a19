use Rattle.std.proofs.Common.{◌<◌, ◌^◌, ◌+◌, ℕ, length}
use Rattle.rpki_der.specs.Members.{AreValues}
use Rattle.rpki_der.specs.Listed.{listed_octets, EachHas}
use Rattle.rpki_der.proofs.encode.each.listed_count.Given as goal

-- the items that were seen are so many values, and the rest have the rest of the octets
abbrev pub invariant-each : goal.invariant-each
invariant-each g l = record {
  counted : (n : ℕ) → AreValues n (listed_octets g.T.Values.encoded l.rest)
      → AreValues (l.total + n) (listed_octets g.T.Values.encoded l.items);
  few : l.total + length (listed_octets g.T.Values.encoded l.rest) < 2 ^ 63;
  left : EachHas g.T.Values.is_short l.rest;
}

abbrev pub decreases-each : goal.decreases-each
decreases-each g l = length l.rest
