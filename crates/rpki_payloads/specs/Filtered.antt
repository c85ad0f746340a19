-- What filters of local exceptions take away (RFC 8416 3.3).
use Rattle.std.specs.Prelude.{◌≡◌, ◌||◌, ◌+◌, ◌-◌, ◌++◌, ℕ, Bool, true, List, [], ◌∷◌, Option, Some, None, IfSome}
use Rattle.std.specs.Prelude.{bytes_eq, nat_lt, if◌then◌else◌}
use Rattle.std.specs.List.{Contains, flat_map}
use Rattle.rpki_payloads.specs.declared.filters.PrefixFilter.{PrefixFilter}
use Rattle.rpki_payloads.specs.declared.key_filters.KeyFilter.{KeyFilter}
use Rattle.rpki_payloads.specs.declared.router_key.RouterKey.{RouterKey}
use Rattle.rpki_payloads.specs.declared.timed.TimedVrp.{TimedVrp}
use Rattle.rpki_payloads.specs.declared.vrp.Vrp.{Vrp}
use Rattle.rpki_payloads.specs.RouterKey.{router_key}
use Rattle.rpki_payloads.specs.Covered.{IsCoveredBy}
use Rattle.rpki_payloads.specs.Vrp.{prefix_of}

-- The filter matches the payload: its prefix covers that of the payload, and its AS number is that of the payload, as
-- far as it has them (3.3.1).
pub record IsFilteredBy (f : PrefixFilter) (v : Vrp) : Type 0 where
  pub prefix : IfSome f.prefix (λ p. IsCoveredBy p (prefix_of v))
  pub asn : IfSome f.asn (λ n. v.as_id ≡ n)

-- one of the filters does
abbrev pub IsFiltered : List PrefixFilter → Vrp → Type 0
IsFiltered filters v = (f : PrefixFilter) × Contains filters f × IsFilteredBy f v

-- a payload of these that no filter matches
abbrev pub IsKept : List PrefixFilter → List Vrp → Vrp → Type 0
IsKept filters vrps v = Contains vrps v × (IsFiltered filters v → ⊥)

-- one with its end
abbrev pub IsKeptTimed : List PrefixFilter → List TimedVrp → TimedVrp → Type 0
IsKeptTimed filters all t = Contains all t × (IsFiltered filters t.vrp → ⊥)

-- ---- keys of routers (3.3.2)

-- the identifier is the filter's, where it has one
abbrev pub is_of : Option (List ℕ) → RouterKey → Bool
is_of None k = true
is_of (Some identifier) k = bytes_eq k.identifier identifier

-- the rest of the AS numbers of a key without this one: those below it, and those above it
abbrev pub below_number : ℕ → RouterKey → List RouterKey
below_number n k = if nat_lt k.first n then router_key k.first (n - 1) k.identifier k.info ∷ [] else []

abbrev pub above_number : ℕ → RouterKey → List RouterKey
above_number n k = if nat_lt n k.last then router_key (n + 1) k.last k.identifier k.info ∷ [] else []

abbrev pub without_number : Option ℕ → RouterKey → List RouterKey
without_number None k = []
without_number (Some n) k =
    if nat_lt n k.first || nat_lt k.last n then k ∷ [] else below_number n k ++ above_number n k

-- what a filter leaves of a key: it takes away the AS number of the filter, or all where that has none, of a key whose
-- identifier is the filter's, where it has one
abbrev pub left_by : KeyFilter → RouterKey → List RouterKey
left_by f k = if is_of f.identifier k then without_number f.asn k else k ∷ []

-- what filters leave, in sequence
abbrev pub left_by_all : List KeyFilter → List RouterKey → List RouterKey
left_by_all [] keys = keys
left_by_all (f ∷ fs) keys = left_by_all fs (flat_map (left_by f) keys)
