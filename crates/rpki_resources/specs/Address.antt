-- Addresses as bit strings, and the blocks that they stand for (RFC 3779 2.1.1, 2.1.2, 2.2.3.7 to 2.2.3.9).
use Rattle.std.specs.Prelude.{◌≡◌, ◌≤◌, ◌<◌, ◌⊎◌, ◌+◌, ◌*◌, ◌-◌, ◌^◌, ◌%◌, ℕ, suc, List, [], ◌∷◌, length}
use Rattle.rpki_der.specs.Prelude.{number_of, bit_string, sequence, Bits, IsBits, Format, leaf, around, either}
use Rattle.rpki_resources.specs.Composing.{standing_for, ends}
use Rattle.rpki_resources.specs.declared.family.AddressFamily.{AddressFamily}
use Rattle.rpki_resources.specs.declared.family.AddressFamily.TheVariants.{Ipv4, Ipv6}
use Rattle.rpki_resources.specs.declared.address.Address.{Address}
use Rattle.rpki_resources.specs.declared.block.Block.{Block}

-- how many bits an address has
abbrev pub width : AddressFamily → ℕ
width Ipv4 = 32
width Ipv6 = 128

-- the octets that name a family: its AFI, and no SAFI (RFC 3779 2.2.3.3, RFC 6487 4.8.10)
abbrev pub family_octets : AddressFamily → List ℕ
family_octets Ipv4 = 0 ∷ 1 ∷ []
family_octets Ipv6 = 0 ∷ 2 ∷ []

-- the bits of a bit string: as many as `size`, which make the number; so it is small (a consequence, for its users)
pub record HasBits (x : Address) (b : Bits) : Type 0 where
  pub size : 8 * length b.octets ≡ x.size + b.unused
  pub number : number_of b.octets ≡ x.number * 2 ^ b.unused
  pub below : x.number < 2 ^ x.size

-- contents of a BIT STRING of at most w bits
pub record IsAddress (w : ℕ) (x : Address) (c : List ℕ) : Type 0 where
  pub bits : Bits
  pub spelled : IsBits bits c
  pub has : HasBits x bits
  pub few : x.size ≤ w

abbrev pub address : ℕ → Format Address
address w = leaf bit_string (IsAddress w)

-- the lowest and the highest address of w bits that begins with these: the bits that are missing are 0, or 1
abbrev pub low_end : ℕ → Address → ℕ
low_end w x = x.number * 2 ^ (w - x.size)

abbrev pub high_end : ℕ → Address → ℕ
high_end w x = suc x.number * 2 ^ (w - x.size) - 1

-- the numbers are all those that begin alike: from some number followed by k zeros to that followed by k ones
abbrev pub IsPrefix : ℕ → ℕ → Type 0
IsPrefix low high = (q k : ℕ) × (low ≡ q * 2 ^ k) × (suc high ≡ suc q * 2 ^ k)

-- ---- a block as a prefix

abbrev pub prefix_block : ℕ → Address → Block
prefix_block w x = record { low = low_end w x; high = high_end w x }

abbrev pub prefix : ℕ → Format Block
prefix w = standing_for (λ b x. b ≡ prefix_block w x) (address w)

-- ---- a block as a range

-- no zero, or no one, could be left out at the end
abbrev pub HasNoZeros : Address → Type 0
HasNoZeros x = (x.size ≡ 0) ⊎ (x.number % 2 ≡ 1)

abbrev pub HasNoOnes : Address → Type 0
HasNoOnes x = (x.size ≡ 0) ⊎ (x.number % 2 ≡ 0)

-- bits of an address of w bits
abbrev pub IsAddressOf : ℕ → Address → Type 0
IsAddressOf w x = (x.size ≤ w) × (x.number < 2 ^ x.size)

-- The block from one address to another: zeros at the end of the lowest and ones at the end of the highest are left
-- out, and the block is no prefix.
pub record IsRange (w : ℕ) (b : Block) (x : Address × Address) : Type 0 where
  pub low : b.low ≡ low_end w x.0
  pub high : b.high ≡ high_end w x.1
  pub no_zeros : HasNoZeros x.0
  pub no_ones : HasNoOnes x.1
  pub some : b.low ≤ b.high
  pub no_prefix : IsPrefix b.low b.high → ⊥

abbrev pub range_ends : ℕ → Format Block
range_ends w = ends (IsRange w) (address w)

abbrev pub range : ℕ → Format Block
range w = around sequence (range_ends w)

-- a block: a range where a SEQUENCE is there, and else a prefix
abbrev pub block : ℕ → Format Block
block w = either sequence (range w) (prefix w)
