use Rattle.std.proofs.Common.{◌≡◌, ◌+◌, ◌<◌, ◌^◌, length}
use Rattle.rpki_contents.specs.EncodedAspa.{numbers_octets}
use Rattle.rpki_contents.proofs.aspa_encoder.numbers_len.Given as goal

-- the octets of the numbers that were seen, and of the rest
abbrev pub invariant-each : goal.invariant-each
invariant-each l = record {
  sum : length (numbers_octets l.numbers) ≡ l.total + length (numbers_octets l.rest);
  below : l.total < 2 ^ 63;
}

abbrev pub decreases-each : goal.decreases-each
decreases-each l = length l.rest
