-- Addresses of prefixes, as sets of numbers.
use Rattle.std.specs.Prelude.{◌≡◌, ◌+◌, ◌-◌, ◌*◌, ◌^◌, ◌↔◌, ℕ, List}
use Rattle.std.specs.List.{Contains}
use Rattle.rpki_resources.specs.declared.block.Block.{Block}
use Rattle.rpki_resources.specs.declared.ip_text.Prefix.{Prefix}
use Rattle.rpki_resources.specs.Blocks.{IsAmong, IsIn}
use Rattle.rpki_resources.specs.IpRead.{address_width}
use Rattle.rpki_payloads.specs.Covered.{shared_bits}

-- the numbers that begin with these bits, in front of so many others
abbrev pub block_from : (bits others : ℕ) → Block
block_from bits others = record { low = bits * 2 ^ others; high = bits * 2 ^ others + (2 ^ others - 1) }

-- the numbers of the addresses of a prefix
abbrev pub block_of : Prefix → Block
block_of p = block_from (shared_bits p p.len) (address_width p.addr - p.len)

-- the address of so many bits that is this number is one of the prefix
abbrev pub HasAddress : (width : ℕ) → Prefix → ℕ → Type 0
HasAddress width p n = (address_width p.addr ≡ width) × IsIn n (block_of p)

-- the numbers of the addresses of so many bits that these prefixes have
abbrev pub AreAddressesOf : (width : ℕ) → List Prefix → (found : List Block) → Type 0
AreAddressesOf width ps found = (n : ℕ) → IsAmong n found ↔ ((p : Prefix) × Contains ps p × HasAddress width p n)

-- one of these prefixes and one of the others have an address of so many bits in common
abbrev pub AreSharing : (width : ℕ) → (ps qs : List Prefix) → Prefix × Prefix → Type 0
AreSharing width ps qs both =
    Contains ps both.0 × Contains qs both.1
    × ((n : ℕ) × HasAddress width both.0 n × HasAddress width both.1 n)
