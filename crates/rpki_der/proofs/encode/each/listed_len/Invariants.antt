use Rattle.std.proofs.Common.{◌≡◌, ◌<◌, ◌^◌, ◌+◌, length}
use Rattle.rpki_der.specs.Listed.{listed_octets, EachHas}
use Rattle.rpki_der.proofs.encode.each.listed_len.Given as goal

-- the octets of the items that were seen, and of the rest
abbrev pub invariant-each : goal.invariant-each
invariant-each g l = record {
  sum : length (listed_octets g.T.Values.encoded l.items)
      ≡ l.total + length (listed_octets g.T.Values.encoded l.rest);
  below : l.total < 2 ^ 63;
  left : EachHas g.T.Values.is_short l.items → EachHas g.T.Values.is_short l.rest;
  all : EachHas g.T.Values.is_short l.rest → EachHas g.T.Values.is_short l.items;
}

abbrev pub decreases-each : goal.decreases-each
decreases-each g l = length l.rest
