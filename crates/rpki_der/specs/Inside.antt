-- What is inside a value.
use Rattle.std.specs.Prelude.{ℕ, true, List}
use Rattle.rpki_der.specs.TagName.{TagName}
use Rattle.rpki_der.specs.Reading.{Spells}
use Rattle.rpki_der.specs.Values.{SpellsContents}

-- s begins with a constructed value of this tag whose contents have P
abbrev pub HasInside : TagName → (List ℕ → Type 0) → List ℕ → Type 0
HasInside t P s = (c : List ℕ) × (r : List ℕ) × Spells (SpellsContents t true) s c r × P c
