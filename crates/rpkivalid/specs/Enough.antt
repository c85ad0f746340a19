-- Whether what is found is enough to be written: a trust anchor, and as many route origins as are asked for.
use Rattle.std.specs.Prelude.{◌≡◌, ℕ, Bool, false, List, Option, Some, None}
use Rattle.std.specs.List.{list_any}
use Rattle.std.specs.Str.Parse.{digits_value, without_leading_plus}
use Rattle.rpki_payloads.specs.declared.tally.Tally.{Tally}
use Rattle.rpki_payloads.specs.Payloads.{PayloadParts}
use Rattle.rpkivalid.specs.Moment.{IsNumber}

-- the locator has a trust anchor
abbrev pub anchored_in : Option Tally → Bool
anchored_in None = false
anchored_in (Some t) = t.is_anchored

abbrev pub is_anchored : PayloadParts → Bool
is_anchored p = anchored_in p.tally

-- one of the locators has
abbrev pub some_anchored : List PayloadParts → Bool
some_anchored found = list_any is_anchored found

-- the word is this number; without a word it is 0
abbrev pub IsLeast : Option (List ℕ) → ℕ → Type 0
IsLeast None least = least ≡ 0
IsLeast (Some word) least = IsNumber word × (least ≡ digits_value 10 (without_leading_plus word))

abbrev pub IsNoLeast : Option (List ℕ) → Type 0
IsNoLeast None = ⊥
IsNoLeast (Some word) = IsNumber word → ⊥
