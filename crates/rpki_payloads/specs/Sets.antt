-- Sets as lists: in order, each element once.
use Rattle.std.specs.Prelude.{◌↔◌, List}
use Rattle.std.specs.List.{Contains}
use Rattle.std.specs.List.Sorted.{IsStrictlySortedBy}
use Rattle.std.specs.declared.cmp.Ordering.{Ordering}

-- exactly those that P is true of, each once, in the order R
pub record IsSetOf {A : Type 0} (R : A → A → Ordering) (P : A → Type 0) (all : List A) : Type 0 where
  pub order : IsStrictlySortedBy R all
  pub each : (v : A) → Contains all v ↔ P v
