-- Blocks in place: octets that are blocks, and what a cursor over them has yet to give.
use Rattle.std.specs.Prelude.{◌≡◌, ℕ, List, [], ◌∷◌, Option, Some, None, Result, Ok, Err, length}
use Rattle.rpki_der.specs.declared.error.DecodeError.{DecodeError}
use Rattle.rpki_der.specs.Prelude.{SpellsNothing, Format}
use Rattle.rpki_resources.specs.declared.block.Block.{Block}
use Rattle.rpki_resources.specs.declared.kind.ResourceKind.{ResourceKind}
use Rattle.rpki_resources.specs.Listed.{AreBlocks, AreBlocksFault, SpellsFollowing}

-- octets, the kind of the blocks that they are, and how many those are
pub record Octets : Type 0 where
  pub kind : ResourceKind
  pub octets : List ℕ
  pub count : ℕ

abbrev pub octets_of : ResourceKind → List ℕ → ℕ → Octets
octets_of kind octets count = record { kind = kind; octets = octets; count = count }

-- they are these blocks
pub record Holds (x : Octets) (bs : List Block) : Type 0 where
  pub blocks : AreBlocks x.kind bs x.octets
  pub count : length bs ≡ x.count

-- and no others
abbrev pub HoldsOnly : Octets → List Block → Type 0
HoldsOnly x bs = Holds x bs × ((ds : List Block) → Holds x ds → ds ≡ bs)

-- contents that are the octets of x, which are blocks of the kind
pub record IsListed (kind : ResourceKind) (x : Octets) (c : List ℕ) : Type 0 where
  pub kind_is : x.kind ≡ kind
  pub octets : x.octets ≡ c
  pub held : (bs : List Block) × Holds x bs

-- blocks of the kind in canonical form, one at least, which are all of the contents
abbrev pub blocks : ResourceKind → Format Octets
blocks kind = record { spells = IsListed kind; fault = AreBlocksFault kind None }

-- how many blocks of the kind s is, and that it is these alone; or the error
abbrev pub Counts : ResourceKind → List ℕ → Result ℕ DecodeError → Type 0
Counts kind s (Ok n) = (bs : List Block) × AreBlocks kind bs s × (length bs ≡ n)
    × ((ds : List Block) → AreBlocks kind ds s → ds ≡ bs)
Counts kind s (Err e) = SpellsNothing (AreBlocks kind) s × (blocks kind).fault s e

-- ---- a cursor over blocks

-- the rest of them, and the highest number that was given
pub record Rest : Type 0 where
  pub kind : ResourceKind
  pub last : Option ℕ
  pub octets : List ℕ

abbrev pub rest_of : ResourceKind → Option ℕ → List ℕ → Rest
rest_of kind last octets = record { kind = kind; last = last; octets = octets }

-- these blocks remain
abbrev pub IsLeft : Rest → List Block → Type 0
IsLeft x bs = SpellsFollowing x.kind x.last bs x.octets

-- of the remaining blocks the first was given, and the others remain now
abbrev pub Gives : List Block → Option Block → Rest → Type 0
Gives [] found after = (found ≡ None) × IsLeft after []
Gives (b ∷ bs) found after = (found ≡ Some b) × IsLeft after bs
