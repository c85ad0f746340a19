use Rattle.std.proofs.Common.{length}
use Rattle.rpki_der.specs.Written.{AppendsAllBut}
use Rattle.rpki_contents.specs.RoaAddress.{AreAddressesIn}
use Rattle.rpki_contents.specs.EncodedRoa.{prefixes_octets}
use Rattle.rpki_contents.proofs.roa_encoder.write_prefixes.Given as goal

-- all but the remaining prefixes is written
abbrev pub invariant-each : goal.invariant-each
invariant-each g l = record {
  written : AppendsAllBut (g.W.Write.contents l.initial.out) (g.W.Write.contents l.out)
      (prefixes_octets l.addresses) (prefixes_octets l.rest);
  fit : AreAddressesIn 128 l.rest;
}

abbrev pub decreases-each : goal.decreases-each
decreases-each g l = length l.rest
