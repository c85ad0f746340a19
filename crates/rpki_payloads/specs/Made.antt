-- When a list of payloads was made, and how much is in it: the member `metadata` of JSON.
use Rattle.std.specs.Prelude.{ℕ, ◌/◌, ◌%◌, List, [], ◌∷◌, ◌++◌, codes, decimal, length}
use Rattle.std.specs.Fmt.{signed_decimal}
use Rattle.std.specs.List.{flat_map}
use Rattle.jiff.specs.Types.{DateTime}
use Rattle.jiff.specs.Words.{civil_seconds}
use Rattle.rpki_time.specs.TimeText.{two_digits, year_number}
use Rattle.rpki_payloads.specs.Payloads.{PayloadParts}

-- a moment, as YYYY-MM-DDTHH:MM:SSZ (RFC 3339 5.6)
abbrev pub moment_text : DateTime → List ℕ
moment_text t =
    two_digits (year_number t / 100) ++ two_digits (year_number t % 100) ++ 45 ∷ two_digits t.date.month
    ++ 45 ∷ two_digits t.date.day ++ 84 ∷ two_digits t.time.hour ++ 58 ∷ two_digits t.time.minute
    ++ 58 ∷ two_digits t.time.second ++ 90 ∷ []

-- its whole seconds since 1970-01-01T00:00:00Z, in decimal digits
abbrev pub seconds_text : DateTime → List ℕ
seconds_text t = signed_decimal (civil_seconds t)

-- ---- how many there are under all locators

abbrev pub vrp_count : List PayloadParts → ℕ
vrp_count all = length (flat_map (λ p. p.vrps) all)

abbrev pub key_count : List PayloadParts → ℕ
key_count all = length (flat_map (λ p. p.keys) all)

-- ---- the member

-- the moment in seconds, at the beginning of an object
unfoldable pub json_second : DateTime → List ℕ
json_second t = codes "{\n  \"metadata\": {\n    \"generated\": " ++ seconds_text t

-- the moment, after another member
unfoldable pub json_moment : List ℕ → DateTime → List ℕ
json_moment name t = codes ",\n    \"" ++ name ++ codes "\": \"" ++ moment_text t ++ codes "\""

-- the moment, as Routinator (`generated`, `generatedTime`) and rpki-client (`buildtime`) name it
unfoldable pub json_dates : DateTime → List ℕ
json_dates t = json_second t ++ json_moment (codes "generatedTime") t ++ json_moment (codes "buildtime") t

-- a number, after another member
unfoldable pub json_count : List ℕ → ℕ → List ℕ
json_count name n = codes ",\n    \"" ++ name ++ codes "\": " ++ decimal n

unfoldable pub json_counts : (vrps keys customers : ℕ) → List ℕ
json_counts vrps keys customers =
    json_count (codes "vrps") vrps ++ json_count (codes "routerKeys") keys ++ json_count (codes "aspas") customers

-- the first member of an object: when it was made, and how many prefixes, keys of routers and customers there are
unfoldable pub json_metadata : DateTime → (vrps keys customers : ℕ) → List ℕ
json_metadata t vrps keys customers =
    json_dates t ++ json_counts vrps keys customers ++ codes "\n  },\n"
