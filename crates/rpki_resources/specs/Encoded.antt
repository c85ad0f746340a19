-- What is written of resources (RFC 3779 2.2.3, 3.2.3): laws say that it is read as them, and is their only spelling.
use Rattle.std.specs.Prelude.{◌≤◌, ◌<◌, ◌+◌, ◌-◌, ◌*◌, ◌/◌, ◌%◌, ◌^◌, ◌==◌, nat_lt, if◌then◌else◌, ℕ, zero, suc, true}
use Rattle.std.specs.Prelude.{false, List, [], ◌∷◌, ◌++◌, Option, Some, None}
use Rattle.rpki_der.specs.Number.{low_octets}
use Rattle.rpki_der.specs.TagName.{bit_string, integer, sequence}
use Rattle.rpki_der.specs.Header.{tlv}
use Rattle.rpki_der.specs.Leaves.{Bits, bits_of}
use Rattle.rpki_der.specs.Contents.{bits_contents}
use Rattle.rpki_resources.specs.declared.address.Address.{Address}
use Rattle.rpki_resources.specs.declared.block.Block.{Block}
use Rattle.rpki_resources.specs.declared.kind.ResourceKind.{ResourceKind}
use Rattle.rpki_resources.specs.declared.kind.ResourceKind.TheVariants.{Addresses, AsNumbers}
use Rattle.rpki_resources.specs.Address.{width}
use Rattle.rpki_resources.specs.Text.{IsBlockOfFamily}

-- ---- an address, as the contents of a BIT STRING (RFC 3779 2.1.1, 2.2.3.8; X.690 8.6.2)

-- as many octets as hold so many bits, and how many bits of the last octet are left over
abbrev pub octet_count : ℕ → ℕ
octet_count size = (size + 7) / 8

abbrev pub unused_bits : ℕ → ℕ
unused_bits size = 8 * octet_count size - size

-- the bits, and zeros for those left over
abbrev pub address_bits : Address → Bits
address_bits x = bits_of (unused_bits x.size) (low_octets (octet_count x.size) (x.number * 2 ^ unused_bits x.size))

abbrev pub address_contents : Address → List ℕ
address_contents x = bits_contents (address_bits x)

abbrev pub address_octets : Address → List ℕ
address_octets x = tlv bit_string false (address_contents x)

-- ---- the ends of a range (RFC 3779 2.2.3.9)

abbrev pub bits_at : ℕ → ℕ → Address
bits_at number size = record { number = number; size = size }

-- a number of so many bits without those at its end that are all 0, or all 1
unfoldable pub without_end : (bit size n : ℕ) → Address
without_end bit zero n = bits_at n zero
without_end bit (suc size) n = if n % 2 == bit then without_end bit size (n / 2) else bits_at n (suc size)

abbrev pub without_zeros : ℕ → ℕ → Address
without_zeros = without_end 0

abbrev pub without_ones : ℕ → ℕ → Address
without_ones = without_end 1

-- ---- a block of addresses (RFC 3779 2.2.3.7)

-- the bits that two numbers of so many bits share, where nothing but zeros follows in the one and nothing but ones in
-- the other
unfoldable pub shared_bits : ℕ → ℕ → ℕ → Option Address
shared_bits zero low high = if low == high then Some (bits_at low zero) else None
shared_bits (suc k) low high =
    if low == high then Some (bits_at low (suc k))
    else if low % 2 == 1 then None
    else if high % 2 == 0 then None
    else shared_bits k (low / 2) (high / 2)

-- one value, or a SEQUENCE of two
abbrev pub pair_octets : List ℕ → List ℕ → List ℕ
pair_octets low high = tlv sequence true (low ++ high)

-- a prefix where the addresses are one, else a range
abbrev pub prefix_or_range : ℕ → Block → Option Address → List ℕ
prefix_or_range w b (Some x) = address_octets x
prefix_or_range w b None = pair_octets (address_octets (without_zeros w b.low)) (address_octets (without_ones w b.high))

abbrev pub ip_block_octets : ℕ → Block → List ℕ
ip_block_octets w b = prefix_or_range w b (shared_bits w b.low b.high)

-- ---- AS numbers (RFC 3779 3.2.3.6 to 3.2.3.9; X.690 8.3)

-- the fewest octets that hold a number below 2^39 with the first bit 0
abbrev pub integer_size : ℕ → ℕ
integer_size n =
    if nat_lt n 128 then 1
    else if nat_lt n 32768 then 2
    else if nat_lt n 8388608 then 3
    else if nat_lt n 2147483648 then 4
    else 5

abbrev pub as_contents : ℕ → List ℕ
as_contents n = low_octets (integer_size n) n

abbrev pub as_number_octets : ℕ → List ℕ
as_number_octets n = tlv integer false (as_contents n)

-- a number, or a range of two numbers at least
abbrev pub as_block_octets : Block → List ℕ
as_block_octets b =
    if b.low == b.high then as_number_octets b.low else pair_octets (as_number_octets b.low) (as_number_octets b.high)

-- ---- a block of a kind, and blocks in sequence

-- numbers of the kind, one at least
abbrev pub IsBlockOf : ResourceKind → Block → Type 0
IsBlockOf (Addresses family) b = IsBlockOfFamily family b
IsBlockOf AsNumbers b = (b.low ≤ b.high) × (b.high < 2 ^ 32)

abbrev pub AreBlocksOf : ResourceKind → List Block → Type 0
AreBlocksOf kind [] = Unit {0}
AreBlocksOf kind (b ∷ bs) = IsBlockOf kind b × AreBlocksOf kind bs

abbrev pub block_octets : ResourceKind → Block → List ℕ
block_octets (Addresses family) b = ip_block_octets (width family) b
block_octets AsNumbers b = as_block_octets b

abbrev pub blocks_octets : ResourceKind → List Block → List ℕ
blocks_octets kind [] = []
blocks_octets kind (b ∷ bs) = block_octets kind b ++ blocks_octets kind bs

-- a list of blocks, and the kind of their numbers
pub record KindBlocks : Type 0 where
  pub kind : ResourceKind
  pub blocks : List Block

abbrev pub kind_blocks : ResourceKind → List Block → KindBlocks
kind_blocks kind blocks = record { kind = kind; blocks = blocks }
