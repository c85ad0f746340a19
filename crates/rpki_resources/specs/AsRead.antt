-- Texts of AS numbers and of blocks of them, as they are read: `AS64496`, `64496`, `AS1-AS5`.
use Rattle.std.specs.Prelude.{◌≡◌, ◌⊎◌, ◌<◌, ◌^◌, ◌==◌, ◌||◌, if◌then◌else◌, ℕ, List, [], ◌∷◌, ◌++◌, codes, Option}
use Rattle.std.specs.Prelude.{Some, None}
use Rattle.std.specs.Str.Parse.{IsNumeral, digits_value, without_leading_plus}
use Rattle.rpki_resources.specs.declared.as_text.Asn.{Asn}
use Rattle.rpki_resources.specs.declared.as_text.AsBlock.{AsBlock}
use Rattle.rpki_resources.specs.declared.as_text.AsBlock.TheVariants.{Id}
use Rattle.rpki_resources.specs.declared.as_read.ParseAsBlockError.{ParseAsBlockError}
use Rattle.rpki_resources.specs.declared.as_read.ParseAsBlockError.TheVariants.{BadAsn, BadRange}
use Rattle.rpki_resources.specs.Text.{IsAsBlockOf}

-- what follows the letter, in either case
abbrev pub after_letter : ℕ → ℕ → List ℕ → Option (List ℕ)
after_letter upper lower [] = None
after_letter upper lower (c ∷ rest) = if (c == upper) || (c == lower) then Some rest else None

abbrev pub or_else : Option (List ℕ) → List ℕ → List ℕ
or_else None text = text
or_else (Some rest) text = rest

abbrev pub after_s : Option (List ℕ) → Option (List ℕ)
after_s None = None
after_s (Some rest) = after_letter 83 115 rest

-- what follows `AS`, in any case; else the text
abbrev pub without_as : List ℕ → List ℕ
without_as text = or_else (after_s (after_letter 65 97 text)) text

-- Decimal digits of a number below 2^32, after `AS` or not. As the language reads numbers, a plus may be in front
-- of the digits, and zeros.
pub record IsAsnText (text : List ℕ) (a : Asn) : Type 0 where
  pub digits : IsNumeral 10 (without_leading_plus (without_as text))
  pub value : digits_value 10 (without_leading_plus (without_as text)) ≡ a.0
  pub below : a.0 < 2 ^ 32

-- both ends are numbers, and the block is that of the numbers from the one to the other
abbrev pub IsAsRangeText : List ℕ → List ℕ → AsBlock → Type 0
IsAsRangeText low_text high_text b =
    (low high : Asn) × IsAsnText low_text low × IsAsnText high_text high
    × IsAsBlockOf b (record { low = low.0; high = high.0 })

-- one number; or two with a hyphen between them, of which the first is not above the second
abbrev pub IsAsBlockText : List ℕ → AsBlock → Type 0
IsAsBlockText text b =
    ((a : Asn) × IsAsnText text a × (b ≡ Id a))
    ⊎ ((low high : List ℕ) × (text ≡ low ++ 45 ∷ high) × IsAsRangeText low high b)

-- an end is no number; or the first is above the second
abbrev pub IsAsRangeError : List ℕ → List ℕ → ParseAsBlockError → Type 0
IsAsRangeError low_text high_text BadAsn = (low high : Asn) → IsAsnText low_text low → IsAsnText high_text high → ⊥
IsAsRangeError low_text high_text BadRange =
    (low high : Asn) × IsAsnText low_text low × IsAsnText high_text high × (high.0 < low.0)

-- what isn't there: a number, and two with a hyphen between them; or the first of two is above the second
abbrev pub IsAsBlockError : List ℕ → ParseAsBlockError → Type 0
IsAsBlockError text BadAsn =
    ((a : Asn) → IsAsnText text a → ⊥)
    × ((low high : List ℕ) → text ≡ low ++ 45 ∷ high → IsAsRangeError low high BadAsn)
IsAsBlockError text BadRange =
    (low high : List ℕ) × (text ≡ low ++ 45 ∷ high) × IsAsRangeError low high BadRange

abbrev pub as_block_error_text : ParseAsBlockError → List ℕ
as_block_error_text BadAsn = codes "invalid AS number"
as_block_error_text BadRange = codes "invalid range of AS numbers"
