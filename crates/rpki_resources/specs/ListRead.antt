-- Texts of lists of blocks, as they are read: `10.0.0.0/8, 192.0.2.0-192.0.2.9`, `AS3-AS5, AS1`.
use Rattle.std.specs.Prelude.{◌≡◌, ◌⊎◌, ◌==◌, ◌-◌, ◌^◌, ℕ, List, [], ◌∷◌, Option, Some, None, map, codes}
use Rattle.std.specs.Int.Bits.{bit_or}
use Rattle.std.specs.List.{AllByRecursion, join_by, slice_split}
use Rattle.std.specs.Str.{trim}
use Rattle.rpki_resources.specs.declared.block.Block.{Block}
use Rattle.rpki_resources.specs.declared.kind.ResourceKind.{ResourceKind}
use Rattle.rpki_resources.specs.declared.kind.ResourceKind.TheVariants.{Addresses, AsNumbers}
use Rattle.rpki_resources.specs.declared.as_text.AsBlock.{AsBlock}
use Rattle.rpki_resources.specs.declared.as_text.AsBlock.TheVariants.{Id, Range}
use Rattle.rpki_resources.specs.declared.family.AddressFamily.{AddressFamily}
use Rattle.rpki_resources.specs.declared.ip_text.IpBlock.{IpBlock}
use Rattle.rpki_resources.specs.declared.ip_text.IpBlock.TheVariants.{Prefix as PrefixBlock, Range as RangeBlock}
use Rattle.rpki_resources.specs.declared.list_read.ParseBlocksError.{ParseBlocksError}
use Rattle.rpki_resources.specs.declared.list_read.ParseBlocksError.TheVariants.{BadIpBlock, BadAsBlock, OutOfMemory}
use Rattle.rpki_resources.specs.Blocks.{AreNumbersOf}
use Rattle.rpki_resources.specs.Text.{ip_block_text}
use Rattle.rpki_resources.specs.AsRead.{IsAsBlockText, IsAsBlockError, as_block_error_text}
use Rattle.rpki_resources.specs.IpRead.{address_width, address_number, family_of, block_between, IsIpBlockText}
use Rattle.rpki_resources.specs.IpRead.{IsWholePrefix, IsWholeRange}

-- ---- one block

-- the family of the addresses of a block
abbrev pub family_of_block : IpBlock → AddressFamily
family_of_block (PrefixBlock p) = family_of p.addr
family_of_block (RangeBlock r) = family_of r.min

-- The numbers of a block of addresses. The highest address of a prefix has ones after the bits that are shared.
abbrev pub ip_numbers : IpBlock → Block
ip_numbers (PrefixBlock p) =
    record {
      low = address_number p.addr;
      high = bit_or (address_number p.addr) (2 ^ (address_width p.addr - p.len) - 1);
    }
ip_numbers (RangeBlock r) = block_between r.min r.max

-- the numbers of a block of AS numbers
abbrev pub as_numbers : AsBlock → Block
as_numbers (Id a) = record { low = a.0; high = a.0 }
as_numbers (Range r) = record { low = r.min.0; high = r.max.0 }

-- the text writes a block of the kind, which has these numbers
abbrev pub IsBlockText : ResourceKind → List ℕ → Block → Type 0
IsBlockText (Addresses family) text b =
    (x : IpBlock) × IsIpBlockText text x × (family_of_block x ≡ family) × (b ≡ ip_numbers x)
IsBlockText AsNumbers text b = (x : AsBlock) × IsAsBlockText text x × (b ≡ as_numbers x)

-- no block of addresses of the family is there; or what isn't there of a block of AS numbers
abbrev pub IsBlockTextError : ResourceKind → List ℕ → ParseBlocksError → Type 0
IsBlockTextError (Addresses family) text BadIpBlock = (b : Block) → IsBlockText (Addresses family) text b → ⊥
IsBlockTextError (Addresses family) text (BadAsBlock e) = ⊥
IsBlockTextError (Addresses family) text OutOfMemory = ⊥
IsBlockTextError AsNumbers text BadIpBlock = ⊥
IsBlockTextError AsNumbers text (BadAsBlock e) = IsAsBlockError text e
IsBlockTextError AsNumbers text OutOfMemory = ⊥

-- ---- lists

-- the parts of a text at its commas
abbrev pub parts_at_commas : List ℕ → List (List ℕ)
parts_at_commas text = slice_split (λ c. c == 44) text

-- those of the rest of a text; none where nothing is
abbrev pub parts_of_rest : Option (List ℕ) → List (List ℕ)
parts_of_rest None = []
parts_of_rest (Some text) = parts_at_commas text

-- each part writes a block, white space at its ends aside
abbrev pub AreBlockTexts : ResourceKind → List (List ℕ) → List Block → Type 0
AreBlockTexts kind [] [] = Unit {0}
AreBlockTexts kind [] (b ∷ bs) = ⊥
AreBlockTexts kind (part ∷ parts) [] = ⊥
AreBlockTexts kind (part ∷ parts) (b ∷ bs) = IsBlockText kind (trim part) b × AreBlockTexts kind parts bs

-- The error is that of the first part that writes none. Allocation fails only after a part that writes one.
abbrev pub AreBlockTextsError : ResourceKind → List (List ℕ) → ParseBlocksError → Type 0
AreBlockTextsError kind [] e = ⊥
AreBlockTextsError kind (part ∷ parts) e =
    IsBlockTextError kind (trim part) e
    ⊎ ((b : Block) × IsBlockText kind (trim part) b × ((e ≡ OutOfMemory) ⊎ AreBlockTextsError kind parts e))

-- The set is that of the blocks that the parts at commas write, in any order. A text of white space writes the empty
-- set.
pub data IsBlocksText (kind : ResourceKind) (text : List ℕ) (found : List Block) : Type 0 where
  Blank : trim text ≡ [] → found ≡ [] → IsBlocksText kind text found
  Listed : (blocks : List Block) → (trim text ≡ [] → ⊥) → AreBlockTexts kind (parts_at_commas text) blocks
      → AreNumbersOf blocks found → IsBlocksText kind text found

pub record IsBlocksTextError (kind : ResourceKind) (text : List ℕ) (e : ParseBlocksError) : Type 0 where
  pub some : trim text ≡ [] → ⊥
  pub first : AreBlockTextsError kind (parts_at_commas text) e

-- ---- the text of an error

abbrev pub blocks_error_text : ParseBlocksError → List ℕ
blocks_error_text BadIpBlock = codes "invalid block of addresses"
blocks_error_text (BadAsBlock e) = as_block_error_text e
blocks_error_text OutOfMemory = codes "allocation failed"

-- ---- what is read back of what is written

-- A block of addresses of the family as it is written: a prefix whose other bits are 0, or a range from an address to
-- one that is not below it, which is no prefix.
abbrev pub IsWholeBlock : AddressFamily → IpBlock → Type 0
IsWholeBlock family (PrefixBlock p) = (family_of p.addr ≡ family) × IsWholePrefix p
IsWholeBlock family (RangeBlock r) = (family_of r.min ≡ family) × IsWholeRange r

-- the numbers of blocks of the family, each as it is written
pub record AreWholeBlocks (family : AddressFamily) (xs : List IpBlock) (found : List Block) : Type 0 where
  pub whole : AllByRecursion (IsWholeBlock family) xs
  pub numbers : AreNumbersOf (map ip_numbers xs) found

-- their texts, with a comma and a space between two of them
abbrev pub ip_list_text : List IpBlock → List ℕ
ip_list_text xs = join_by ip_block_text (codes ", ") xs
