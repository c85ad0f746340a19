-- Sets of numbers, as lists of blocks (RFC 3779 2.2.3.6, 2.2.3.7, 3.2.3.4).
use Rattle.std.specs.Prelude.{◌≤◌, ◌<◌, ◌⊎◌, ◌↔◌, ℕ, suc, List, [], ◌∷◌, Option, Some, None}
use Rattle.rpki_resources.specs.declared.block.Block.{Block}

-- the numbers of a block: from its lowest to its highest, both among them
abbrev pub IsIn : ℕ → Block → Type 0
IsIn n b = (b.low ≤ n) × (n ≤ b.high)

-- the numbers of blocks
abbrev pub IsAmong : ℕ → List Block → Type 0
IsAmong n [] = ⊥
IsAmong n (b ∷ bs) = IsIn n b ⊎ IsAmong n bs

-- each number of the one is a number of the other
abbrev pub IsSubset : List Block → List Block → Type 0
IsSubset part whole = (n : ℕ) → IsAmong n part → IsAmong n whole

-- the blocks begin past this number and the one after it
abbrev pub IsPast : ℕ → List Block → Type 0
IsPast high [] = Unit {0}
IsPast high (b ∷ bs) = suc high < b.low

-- Canonical form: no block is empty, and each begins above the one before it, with a number between them at least. So
-- they are in order, none overlaps another, and none continues another.
abbrev pub AreCanonical : List Block → Type 0
AreCanonical [] = Unit {0}
AreCanonical (b ∷ bs) = (b.low ≤ b.high) × IsPast b.high bs × AreCanonical bs

-- ---- operations on sets

-- no block, or one
abbrev pub blocks_of : Option Block → List Block
blocks_of None = []
blocks_of (Some b) = b ∷ []

-- the numbers of both blocks
pub record IsOverlap (x y : Block) (o : Option Block) : Type 0 where
  pub numbers : (n : ℕ) → IsAmong n (blocks_of o) ↔ (IsIn n x × IsIn n y)
  pub canonical : AreCanonical (blocks_of o)

-- the numbers of both lists, in canonical form
pub record AreShared (xs ys found : List Block) : Type 0 where
  pub numbers : (n : ℕ) → IsAmong n found ↔ (IsAmong n xs × IsAmong n ys)
  pub canonical : AreCanonical found

-- the number is below the first block
abbrev pub IsBelow : ℕ → List Block → Type 0
IsBelow n [] = Unit {0}
IsBelow n (b ∷ bs) = n < b.low

-- the numbers of x from this one on that are below the first of ys
pub record IsGap (x : Block) (from : ℕ) (ys : List Block) (o : Option Block) : Type 0 where
  pub numbers : (n : ℕ) → IsAmong n (blocks_of o) ↔ (IsIn n x × (from ≤ n) × IsBelow n ys)
  pub canonical : AreCanonical (blocks_of o)

-- the numbers of the one list that aren't in the other, in canonical form
pub record AreLacking (xs ys found : List Block) : Type 0 where
  pub numbers : (n : ℕ) → IsAmong n found ↔ (IsAmong n xs × (IsAmong n ys → ⊥))
  pub canonical : AreCanonical found

-- the numbers of both lists together, in canonical form
pub record AreUnited (xs ys found : List Block) : Type 0 where
  pub numbers : (n : ℕ) → IsAmong n found ↔ (IsAmong n xs ⊎ IsAmong n ys)
  pub canonical : AreCanonical found

-- the numbers of blocks in any order, which may overlap and may be empty, in canonical form
pub record AreNumbersOf (blocks found : List Block) : Type 0 where
  pub numbers : (n : ℕ) → IsAmong n found ↔ IsAmong n blocks
  pub canonical : AreCanonical found
