use Rattle.std.proofs.Common.{◌<◌, ◌^◌, length}
use Rattle.rpki_der.specs.Written.{AppendsAllBut}
use Rattle.rpki_der.specs.Listed.{listed_octets, EachHas}
use Rattle.rpki_der.proofs.encode.each.write_listed.Given as goal

-- all but the remaining items is written
abbrev pub invariant-each : goal.invariant-each
invariant-each g l = record {
  written : AppendsAllBut (g.W.Write.contents l.initial.out) (g.W.Write.contents l.out)
      (listed_octets g.T.Values.encoded l.items) (listed_octets g.T.Values.encoded l.rest);
  few : length (listed_octets g.T.Values.encoded l.rest) < 2 ^ 63;
  left : EachHas g.T.Values.is_short l.rest;
}

abbrev pub decreases-each : goal.decreases-each
decreases-each g l = length l.rest
