use Rattle.std.proofs.Common.{◌≡◌, ◌++◌, length}
use Rattle.rpki_resources.specs.Address.{width}
use Rattle.rpki_contents.specs.RoaAddress.{AreAddressesIn}
use Rattle.rpki_contents.specs.Within.{blocks_of}
use Rattle.rpki_contents.proofs.coverage.blocks_of.Given as goal

-- the blocks of those that were seen, and the rest are of the family
abbrev pub invariant-each : goal.invariant-each
invariant-each l =
    (blocks_of (width l.family) l.addresses ≡ l.blocks.items ++ blocks_of (width l.family) l.rest)
    × AreAddressesIn (width l.family) l.rest

abbrev pub decreases-each : goal.decreases-each
decreases-each l = length l.rest
