-- Whether what an attestation says is within resources (RFC 9582 5).
use Rattle.std.specs.Prelude.{ℕ, List, map}
use Rattle.rpki_resources.specs.declared.block.Block.{Block}
use Rattle.rpki_resources.specs.Address.{prefix_block}
use Rattle.rpki_resources.specs.Blocks.{IsSubset}
use Rattle.rpki_contents.specs.declared.roa_address.RoaIpAddress.{RoaIpAddress}
use Rattle.rpki_contents.specs.Roa.{AttestationParts}

-- the addresses of a prefix, and of prefixes
abbrev pub block_of : ℕ → RoaIpAddress → Block
block_of w x = prefix_block w x.prefix

abbrev pub blocks_of : ℕ → List RoaIpAddress → List Block
blocks_of w xs = map (block_of w) xs

-- each address of each prefix is one of its family's resources
pub record AreWithin (x : AttestationParts) (v4 v6 : List Block) : Type 0 where
  pub in_v4 : IsSubset (blocks_of 32 x.v4) v4
  pub in_v6 : IsSubset (blocks_of 128 x.v6) v6
