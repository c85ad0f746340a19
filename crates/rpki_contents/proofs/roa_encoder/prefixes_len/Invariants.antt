use Rattle.std.proofs.Common.{◌≡◌, ◌+◌, ◌<◌, ◌^◌, length}
use Rattle.rpki_contents.specs.RoaAddress.{AreAddressesIn}
use Rattle.rpki_contents.specs.EncodedRoa.{prefixes_octets}
use Rattle.rpki_contents.proofs.roa_encoder.prefixes_len.Given as goal

-- the octets of the prefixes that were seen, and of the rest
abbrev pub invariant-each : goal.invariant-each
invariant-each l = record {
  sum : length (prefixes_octets l.addresses) ≡ l.total + length (prefixes_octets l.rest);
  below : l.total < 2 ^ 63;
  fit : AreAddressesIn 128 l.rest;
}

abbrev pub decreases-each : goal.decreases-each
decreases-each l = length l.rest
