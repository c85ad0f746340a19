-- Fields of csv (RFC 4180).
use Rattle.std.specs.Prelude.{◌==◌, ◌||◌, ◌++◌, ℕ, Bool, List, [], ◌∷◌, if◌then◌else◌}
use Rattle.std.specs.List.{flat_map, list_any}

-- an octet for which a field has to be in quotation marks (2.6): a comma, a quotation mark, or the end of a line
abbrev pub is_special : ℕ → Bool
is_special octet = octet == 44 || (octet == 34 || (octet == 10 || octet == 13))

-- a quotation mark in it is written twice (2.7)
abbrev pub doubled : ℕ → List ℕ
doubled octet = if octet == 34 then 34 ∷ 34 ∷ [] else octet ∷ []

-- a text as a field: in quotation marks where it has to be, else as it is
unfoldable pub in_marks : List ℕ → List ℕ
in_marks text = 34 ∷ [] ++ flat_map doubled text ++ 34 ∷ []

abbrev pub quoted : List ℕ → List ℕ
quoted text = if list_any is_special text then in_marks text else text
