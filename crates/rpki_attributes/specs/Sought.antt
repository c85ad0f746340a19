-- A search for the attribute of a type.
use Rattle.std.specs.Prelude.{◌≡◌, ◌<◌, ℕ, List, [], ◌∷◌, length, Option, None, Some}
use Rattle.rpki_der.specs.declared.cursor.Constructed.{Constructed}
use Rattle.rpki_der.specs.Prelude.{left}

-- more than one was found; none; one
abbrev pub IsSought : List (List ℕ) → Option (Option Constructed) → Type 0
IsSought cs None = 1 < length cs
IsSought cs (Some None) = cs ≡ []
IsSought cs (Some (Some c)) = cs ≡ left c ∷ []
