-- Texts of addresses, AS numbers and blocks of them.
use Rattle.std.specs.Prelude.{◌≡◌, ◌≤◌, ◌<◌, ◌-◌, ◌*◌, ◌^◌, ℕ, suc, List, ◌∷◌, ◌++◌, codes, decimal}
use Rattle.std.specs.Net.Text.{ip_text}
use Rattle.std.specs.Net.Addr.{IsIpv4OfBits, IsIpv6OfBits}
use Rattle.std.specs.declared.net.ip_addr.IpAddr.{IpAddr}
use Rattle.std.specs.declared.net.ip_addr.IpAddr.TheVariants.{V4, V6}
use Rattle.rpki_resources.specs.declared.family.AddressFamily.{AddressFamily}
use Rattle.rpki_resources.specs.declared.family.AddressFamily.TheVariants.{Ipv4, Ipv6}
use Rattle.rpki_resources.specs.declared.ip_text.Prefix.{Prefix}
use Rattle.rpki_resources.specs.Address.{width, IsPrefix}
use Rattle.rpki_resources.specs.declared.block.Block.{Block}
use Rattle.rpki_resources.specs.declared.as_text.AsBlock.{AsBlock}
use Rattle.rpki_resources.specs.declared.as_text.AsBlock.TheVariants.{Id, Range}
use Rattle.rpki_resources.specs.declared.ip_text.IpBlock.{IpBlock}
use Rattle.rpki_resources.specs.declared.ip_text.IpBlock.TheVariants.{Prefix as PrefixBlock, Range as RangeBlock}

-- `AS64496`
abbrev pub as_number_text : ℕ → List ℕ
as_number_text n = codes "AS" ++ decimal n

-- the one end, a hyphen, and the other
abbrev pub range_text : List ℕ → List ℕ → List ℕ
range_text low high = low ++ 45 ∷ high

-- the lowest address, a slash, and how many bits are shared
abbrev pub prefix_text : List ℕ → ℕ → List ℕ
prefix_text low size = low ++ 47 ∷ decimal size

-- a number, or a range of numbers
abbrev pub as_block_text : AsBlock → List ℕ
as_block_text (Id a) = as_number_text a.0
as_block_text (Range r) = range_text (as_number_text r.min.0) (as_number_text r.max.0)

-- a prefix, or a range of addresses
abbrev pub ip_block_text : IpBlock → List ℕ
ip_block_text (PrefixBlock p) = prefix_text (ip_text p.addr) p.len
ip_block_text (RangeBlock r) = range_text (ip_text r.min) (ip_text r.max)

-- b has the numbers of the block, which are below 2^32: one, or a range of two at least
abbrev pub IsAsBlockOf : AsBlock → Block → Type 0
IsAsBlockOf (Id a) block = (block.low ≡ a.0) × (block.high ≡ a.0) × (block.high < 2 ^ 32)
IsAsBlockOf (Range r) block =
    (block.low ≡ r.min.0) × (block.high ≡ r.max.0) × (block.low < block.high) × (block.high < 2 ^ 32)

-- the address of the family whose octets write the number
abbrev pub IsAddressOfNumber : AddressFamily → IpAddr → ℕ → Type 0
IsAddressOfNumber Ipv4 (V4 a) n = IsIpv4OfBits a n
IsAddressOfNumber Ipv4 (V6 a) n = ⊥
IsAddressOfNumber Ipv6 (V4 a) n = ⊥
IsAddressOfNumber Ipv6 (V6 a) n = IsIpv6OfBits a n

-- the prefix of all addresses from the one number to the other, which share its bits and no more
pub record IsPrefixOf (family : AddressFamily) (p : Prefix) (low high : ℕ) : Type 0 where
  pub addr : IsAddressOfNumber family p.addr low
  pub len : p.len ≤ width family
  pub shared : (q : ℕ) × (low ≡ q * 2 ^ (width family - p.len)) × (suc high ≡ suc q * 2 ^ (width family - p.len))

-- numbers of addresses of the family, one at least
abbrev pub IsBlockOfFamily : AddressFamily → Block → Type 0
IsBlockOfFamily family block = (block.low ≤ block.high) × (block.high < 2 ^ width family)

-- b has these addresses: as a prefix, or as a range that isn't one
abbrev pub IsIpBlockOf : AddressFamily → IpBlock → Block → Type 0
IsIpBlockOf family (PrefixBlock p) block = IsPrefixOf family p block.low block.high
IsIpBlockOf family (RangeBlock r) block =
    IsAddressOfNumber family r.min block.low × IsAddressOfNumber family r.max block.high
    × (IsPrefix block.low block.high → ⊥)
