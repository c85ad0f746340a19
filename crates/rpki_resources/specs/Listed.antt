-- Lists of blocks in canonical form, as contents of a SEQUENCE (RFC 3779 2.2.3.5, 2.2.3.6, 3.2.3.3, 3.2.3.4).
use Rattle.std.specs.Prelude.{◌≡◌, ◌≢◌, ◌<◌, ℕ, suc, List, [], ◌∷◌, Option, Some, None}
use Rattle.rpki_der.specs.declared.error.DecodeError.{DecodeError}
use Rattle.rpki_der.specs.Prelude.{Spells, Accepts, Refuses, SpellsEach, IsContentError, Format}
use Rattle.rpki_resources.specs.declared.block.Block.{Block}
use Rattle.rpki_resources.specs.declared.kind.ResourceKind.{ResourceKind}
use Rattle.rpki_resources.specs.declared.kind.ResourceKind.TheVariants.{Addresses, AsNumbers}
use Rattle.rpki_resources.specs.Blocks.{AreCanonical}
use Rattle.rpki_resources.specs.Address.{width, block}
use Rattle.rpki_resources.specs.AsNumber.{as_block}

-- a block of a kind
abbrev pub block_of : ResourceKind → Format Block
block_of (Addresses family) = block (width family)
block_of AsNumbers = as_block

-- Contents of the SEQUENCE: blocks in canonical form, one at least.
pub record AreBlocks (kind : ResourceKind) (bs : List Block) (c : List ℕ) : Type 0 where
  pub each : SpellsEach (block_of kind).spells bs c
  pub canonical : AreCanonical bs
  pub some : bs ≢ []

-- ---- block by block

-- the block begins past the highest number before it, and a number is between them; the first begins anywhere
abbrev pub Follows : Option ℕ → Block → Type 0
Follows None b = Unit {0}
Follows (Some high) b = suc high < b.low

-- a block that may follow that number
pub record SpellsNext (kind : ResourceKind) (last : Option ℕ) (b : Block) (p : List ℕ) : Type 0 where
  pub block : (block_of kind).spells b p
  pub follows : Follows last b

-- blocks, each of which may follow the one before it
abbrev pub SpellsFollowing : ResourceKind → Option ℕ → List Block → List ℕ → Type 0
SpellsFollowing kind last [] c = c ≡ []
SpellsFollowing kind last (b ∷ bs) c =
    (rest : List ℕ) × Spells (SpellsNext kind last) c b rest × SpellsFollowing kind (Some b.high) bs rest

-- no block is there, and the error is that of a block; or one is there, and may not follow that number
pub data IsNextFault (kind : ResourceKind) (last : Option ℕ) (s : List ℕ) (e : DecodeError) : Type 0 where
  InBlock : Refuses (block_of kind).spells s → (block_of kind).fault s e → IsNextFault kind last s e
  OutOfOrder : (b : Block) (r : List ℕ) → Accepts (block_of kind).spells s b r → (Follows last b → ⊥)
      → IsContentError e → IsNextFault kind last s e

abbrev pub next_block : ResourceKind → Option ℕ → Format Block
next_block kind last = record { spells = SpellsNext kind last; fault = IsNextFault kind last }

-- The error of blocks that are to fill s: that of the first that isn't there, or isn't in canonical form; or there is
-- none at all.
pub data AreBlocksFault (kind : ResourceKind) : Option ℕ → List ℕ → DecodeError → Type 0 where
  NoBlock : {e : DecodeError} → IsContentError e → AreBlocksFault kind None [] e
  AtBlock : {last : Option ℕ} {s : List ℕ} {e : DecodeError} → s ≢ [] → IsNextFault kind last s e
      → AreBlocksFault kind last s e
  AfterBlock : {last : Option ℕ} {s : List ℕ} {e : DecodeError} (b : Block) (r : List ℕ)
      → Accepts (SpellsNext kind last) s b r → AreBlocksFault kind (Some b.high) r e → AreBlocksFault kind last s e
