-- Texts of prefixes and blocks of addresses, as they are read: `10.0.0.0/8`, `10.0.0.0-10.0.0.5`.
use Rattle.std.specs.Prelude.{◌≡◌, ◌≤◌, ◌⊎◌, ◌-◌, ◌^◌, ◌%◌, ℕ, List, ◌∷◌, ◌++◌}
use Rattle.std.specs.Str.Parse.{IsNumeral, digits_value, without_leading_plus}
use Rattle.std.specs.Net.Addr.{MatchIp, IsIpv4Addr, IsIpv6Addr, ipv4_bits, ipv6_bits}
use Rattle.std.specs.Net.Grammar.{IsIpText}
use Rattle.std.specs.declared.net.ip_addr.IpAddr.{IpAddr}
use Rattle.std.specs.declared.net.ip_addr.IpAddr.TheVariants.{V4, V6}
use Rattle.rpki_resources.specs.declared.block.Block.{Block}
use Rattle.rpki_resources.specs.declared.family.AddressFamily.{AddressFamily}
use Rattle.rpki_resources.specs.declared.family.AddressFamily.TheVariants.{Ipv4, Ipv6}
use Rattle.rpki_resources.specs.declared.ip_text.Prefix.{Prefix}
use Rattle.rpki_resources.specs.declared.ip_text.AddressRange.{AddressRange}
use Rattle.rpki_resources.specs.declared.ip_text.IpBlock.{IpBlock}
use Rattle.rpki_resources.specs.declared.ip_text.IpBlock.TheVariants.{Prefix as PrefixBlock, Range as RangeBlock}
use Rattle.rpki_resources.specs.Text.{IsIpBlockOf}

-- how many bits an address has
abbrev pub address_width : IpAddr → ℕ
address_width (V4 a) = 32
address_width (V6 a) = 128

-- the number that they make
abbrev pub address_number : IpAddr → ℕ
address_number (V4 a) = ipv4_bits a
address_number (V6 a) = ipv6_bits a

-- an address; and how many of its first bits are shared, which are as many as it has at most: the others are 0
pub record IsPrefixOfTexts (address size : List ℕ) (p : Prefix) : Type 0 where
  pub is_address : IsIpText address p.addr
  pub digits : IsNumeral 10 (without_leading_plus size)
  pub value : digits_value 10 (without_leading_plus size) ≡ p.len
  pub few : p.len ≤ address_width p.addr
  pub zeros : address_number p.addr % 2 ^ (address_width p.addr - p.len) ≡ 0

-- these, with a slash between them
abbrev pub IsPrefixText : List ℕ → Prefix → Type 0
IsPrefixText text p = (address size : List ℕ) × (text ≡ address ++ 47 ∷ size) × IsPrefixOfTexts address size p

-- ---- a block

abbrev pub family_of : IpAddr → AddressFamily
family_of (V4 a) = Ipv4
family_of (V6 a) = Ipv6

abbrev pub block_between : IpAddr → IpAddr → Block
block_between low high = record { low = address_number low; high = address_number high }

-- two addresses of one family, of which the first is not above the second, and the block of those from one to the other
pub record IsIpRangeOfTexts (low_text high_text : List ℕ) (b : IpBlock) : Type 0 where
  pub low : IpAddr
  pub high : IpAddr
  pub is_low : IsIpText low_text low
  pub is_high : IsIpText high_text high
  pub one_family : family_of high ≡ family_of low
  pub order : address_number low ≤ address_number high
  pub is_block : IsIpBlockOf (family_of low) b (block_between low high)

-- all of the bits of an address
abbrev pub whole_prefix : IpAddr → Prefix
whole_prefix a = record { addr = a; len = address_width a }

-- a prefix; an address; or two of them with a hyphen between them
abbrev pub IsIpBlockText : List ℕ → IpBlock → Type 0
IsIpBlockText text b =
    ((p : Prefix) × IsPrefixText text p × (b ≡ PrefixBlock p))
    ⊎ (((a : IpAddr) × IsIpText text a × (b ≡ PrefixBlock (whole_prefix a)))
    ⊎ ((low high : List ℕ) × (text ≡ low ++ 45 ∷ high) × IsIpRangeOfTexts low high b))

-- ---- what is read back of what is written

-- its address is one, and no bit is 1 but those that are shared
pub record IsWholePrefix (p : Prefix) : Type 0 where
  pub address : MatchIp p.addr IsIpv4Addr IsIpv6Addr
  pub few : p.len ≤ address_width p.addr
  pub zeros : address_number p.addr % 2 ^ (address_width p.addr - p.len) ≡ 0

-- its addresses are of one family and in order, and it is no prefix
pub record IsWholeRange (r : AddressRange) : Type 0 where
  pub min : MatchIp r.min IsIpv4Addr IsIpv6Addr
  pub max : MatchIp r.max IsIpv4Addr IsIpv6Addr
  pub one_family : family_of r.max ≡ family_of r.min
  pub order : address_number r.min ≤ address_number r.max
  pub is_block : IsIpBlockOf (family_of r.min) (RangeBlock r) (block_between r.min r.max)
