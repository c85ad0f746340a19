use Rattle.std.proofs.Common.{length}
use Rattle.rpki_resources.specs.Address.{width}
use Rattle.rpki_contents.specs.RoaAddress.{AreAddressesIn}
use Rattle.rpki_contents.proofs.roa_address.are_addresses_in.Given as goal

-- all are of the family exactly where the rest are
abbrev pub invariant-each : goal.invariant-each
invariant-each l = record {
  there : AreAddressesIn (width l.family) l.rest → AreAddressesIn (width l.family) l.addresses;
  back : AreAddressesIn (width l.family) l.addresses → AreAddressesIn (width l.family) l.rest;
}

abbrev pub decreases-each : goal.decreases-each
decreases-each l = length l.rest
