-- Texts of lists of blocks: `10.0.0.0/8, 192.0.2.0-192.0.2.9`, `AS1, AS3-AS5`.
use Rattle.std.specs.Prelude.{ℕ, zero, suc, ◌+◌, ◌-◌, ◌^◌, ◌%◌, ◌==◌, ◌&&◌, if◌then◌else◌, Bool, List, [], codes}
use Rattle.std.specs.List.{join_by}
use Rattle.std.specs.Int.{w32, w128, to_be_bytes}
use Rattle.std.specs.Net.Addr.{segments_of}
use Rattle.std.specs.Net.Text.{ipv4_text, ipv6_text}
use Rattle.rpki_resources.specs.declared.family.AddressFamily.{AddressFamily}
use Rattle.rpki_resources.specs.declared.family.AddressFamily.TheVariants.{Ipv4, Ipv6}
use Rattle.rpki_resources.specs.declared.block.Block.{Block}
use Rattle.rpki_resources.specs.declared.kind.ResourceKind.{ResourceKind}
use Rattle.rpki_resources.specs.declared.kind.ResourceKind.TheVariants.{Addresses, AsNumbers}
use Rattle.rpki_resources.specs.declared.choice.ResourcesChoice.{ResourcesChoice}
use Rattle.rpki_resources.specs.declared.choice.ResourcesChoice.TheVariants.{Missing, Inherit, Blocks}
use Rattle.rpki_resources.specs.Address.{width}
use Rattle.rpki_resources.specs.Text.{as_number_text, range_text, prefix_text}
use Rattle.rpki_resources.specs.Encoded.{AreBlocksOf}

-- ---- one block

-- the address of the family that is this number: with dots, or as RFC 5952 says
unfoldable pub address_text : AddressFamily → ℕ → List ℕ
address_text Ipv4 n = ipv4_text (to_be_bytes w32 n)
address_text Ipv6 n = ipv6_text (segments_of (to_be_bytes w128 n))

-- the addresses of the block are all those of the family that begin with the same bits, as many as this
abbrev pub shares : AddressFamily → Block → ℕ → Bool
shares family b bits =
    (b.low % 2 ^ (width family - bits) == 0) && (suc b.high == b.low + 2 ^ (width family - bits))

abbrev pub address_range_text : AddressFamily → Block → List ℕ
address_range_text family b = range_text (address_text family b.low) (address_text family b.high)

-- as a prefix, where it is one of at most so many bits; else as a range
unfoldable pub address_block_text : AddressFamily → Block → ℕ → List ℕ
address_block_text family b zero =
    if shares family b zero then prefix_text (address_text family b.low) zero else address_range_text family b
address_block_text family b (suc bits) =
    if shares family b (suc bits) then prefix_text (address_text family b.low) (suc bits)
    else address_block_text family b bits

-- one number, or a range of them
abbrev pub number_block_text : Block → List ℕ
number_block_text b =
    if b.low == b.high then as_number_text b.low else range_text (as_number_text b.low) (as_number_text b.high)

abbrev pub block_text : ResourceKind → Block → List ℕ
block_text (Addresses family) b = address_block_text family b (width family)
block_text AsNumbers b = number_block_text b

-- ---- lists

-- the blocks in order, with a comma and a space between two of them
abbrev pub blocks_text : ResourceKind → List Block → List ℕ
blocks_text kind bs = join_by (block_text kind) (codes ", ") bs

-- nothing where the kind isn't named; a word where the resources are those of the issuer; else the blocks
abbrev pub choice_text : ResourceKind → ResourcesChoice → List ℕ
choice_text kind Missing = []
choice_text kind Inherit = codes "inherit"
choice_text kind (Blocks bs) = blocks_text kind bs

-- the blocks, where there are any, have numbers of the kind
abbrev pub IsChoiceOfKind : ResourceKind → ResourcesChoice → Type 0
IsChoiceOfKind kind Missing = Unit {0}
IsChoiceOfKind kind Inherit = Unit {0}
IsChoiceOfKind kind (Blocks bs) = AreBlocksOf kind bs
