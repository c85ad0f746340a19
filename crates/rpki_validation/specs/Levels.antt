-- What is reached from the first ones, over any nodes.
use Rattle.std.specs.Prelude.{ℕ, suc}

-- a path of so many steps leads from one of the first to the node, each node below the one in front of it
pub data Reached {N : Type 0} (IsFirst : N → Type 0) (IsBelow : N → N → Type 0) : ℕ → N → Type 0 where
  First : (x : N) → IsFirst x → Reached IsFirst IsBelow 0 x
  Next : (n : ℕ) (above x : N) → Reached IsFirst IsBelow n above → IsBelow above x
      → Reached IsFirst IsBelow (suc n) x
