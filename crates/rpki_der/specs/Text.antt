-- Contents of character strings.
use Rattle.std.specs.Prelude.{ℕ, Bool, ◌≡◌, ◌||◌, IsTrue, eqb, List, codes}
use Rattle.std.specs.List.{list_all, list_any}
use Rattle.std.specs.Char.{is_ascii_alphanumeric}
use Rattle.std.specs.Str.{IsUtf8, IsAscii}

-- a character of a PrintableString: a letter, a digit, a space or one of eleven signs (X.680 41.4, table 10)
abbrev pub is_printable : ℕ → Bool
is_printable x = is_ascii_alphanumeric x || list_any (λ y. eqb x y) (codes " '()+,-./:=?")

abbrev pub are_printable : List ℕ → Bool
are_printable c = list_all is_printable c

-- the contents of the PrintableString of this string
abbrev pub IsPrintableText : List ℕ → List ℕ → Type 0
IsPrintableText text c = (c ≡ text) × IsTrue (are_printable c)

-- the contents of the UTF8String of this string (X.690 8.23.10)
abbrev pub IsUtf8Text : List ℕ → List ℕ → Type 0
IsUtf8Text text c = (c ≡ text) × IsUtf8 c

-- the contents of the IA5String of this string: octets below 128 (X.680 41.1, table 8)
abbrev pub IsIa5Text : List ℕ → List ℕ → Type 0
IsIa5Text text c = (c ≡ text) × IsAscii c
