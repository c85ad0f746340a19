-- Steps of the union of two lists of blocks.
use Rattle.std.specs.Prelude.{◌≡◌, ◌≤◌, ◌⊎◌, ◌↔◌, ◌++◌, ℕ, List, [], ◌∷◌, Option}
use Rattle.rpki_resources.specs.declared.block.Block.{Block}
use Rattle.rpki_resources.specs.Blocks.{IsIn, IsAmong, AreCanonical, blocks_of}

-- the first block doesn't begin before this number
abbrev pub IsFrom : ℕ → List Block → Type 0
IsFrom low [] = Unit {0}
IsFrom low (b ∷ bs) = low ≤ b.low

-- b is the first of one of the lists, and begins first of both
pub record IsNext (xs ys : List Block) (b : Block) (later others : List Block) : Type 0 where
  pub taken : ((xs ≡ b ∷ later) × (ys ≡ others)) ⊎ ((ys ≡ b ∷ others) × (xs ≡ later))
  pub first : IsFrom b.low xs × IsFrom b.low ys

-- neither block is empty, and the second doesn't begin first
pub record MayGrow (before b : Block) : Type 0 where
  pub not_empty : before.low ≤ before.high
  pub order : before.low ≤ b.low
  pub some : b.low ≤ b.high

-- Their numbers are those of a closed block, where there is one, and of an open one, which doesn't begin after either.
-- What was canonical with the first at its end is so with the other two.
pub record IsGrown (before b : Block) (closed : Option Block) (last : Block) : Type 0 where
  pub numbers : (n : ℕ) → (IsAmong n (blocks_of closed) ⊎ IsIn n last) ↔ (IsIn n before ⊎ IsIn n b)
  pub low : last.low ≤ b.low
  pub canonical : (js : List Block) → AreCanonical (js ++ (before ∷ []))
      → AreCanonical ((js ++ blocks_of closed) ++ (last ∷ []))
