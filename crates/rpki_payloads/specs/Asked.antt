-- Filters of the keys of routers by what they ask, so that those that match a key are found among many.
use Rattle.std.specs.Prelude.{◌≡◌, ◌≤◌, ◌+◌, ◌⊎◌, ℕ, List, Option, Some, None}
use Rattle.std.specs.List.{Contains}
use Rattle.rpki_payloads.specs.declared.key_filters.Asked.{Asked}
use Rattle.rpki_payloads.specs.declared.key_filters.KeyFilter.{KeyFilter}
use Rattle.rpki_payloads.specs.declared.router_key.RouterKey.{RouterKey}
use Rattle.rpki_payloads.specs.RouterKey.{router_key}

-- what a filter asks
abbrev pub asked : Option (List ℕ) → Option ℕ → Asked
asked id number = record { identifier = id; asn = number }

abbrev pub asked_by : KeyFilter → Asked
asked_by f = asked f.identifier f.asn

-- one of the filters asks this
abbrev pub IsAskedBy : List KeyFilter → Asked → Type 0
IsAskedBy filters a = (f : KeyFilter) × Contains filters f × (asked_by f ≡ a)

-- one of these asks for the key, whatever its AS numbers
abbrev pub AsksAll : List Asked → RouterKey → Type 0
AsksAll all k = Contains all (asked None None) ⊎ Contains all (asked (Some k.identifier) None)

-- one asks this AS number of the key
abbrev pub AsksFor : List Asked → RouterKey → ℕ → Type 0
AsksFor all k n = Contains all (asked None (Some n)) ⊎ Contains all (asked (Some k.identifier) (Some n))

-- an AS number of the key
abbrev pub IsWithin : RouterKey → ℕ → Type 0
IsWithin k n = (k.first ≤ n) × (n ≤ k.last)

-- the key for its AS numbers from this one on
abbrev pub key_from : ℕ → RouterKey → RouterKey
key_from n k = router_key n k.last k.identifier k.info

-- one that is out
abbrev pub IsOut : (ℕ → Type 0) → RouterKey → ℕ → Type 0
IsOut Out k n = IsWithin k n × Out n

-- A key for AS numbers of another that follow each other, none of them out: those between the next that are, or the
-- ends. A key for no number is its own part.
pub record IsPart (Out : ℕ → Type 0) (k q : RouterKey) : Type 0 where
  pub identifier : q.identifier ≡ k.identifier
  pub info : q.info ≡ k.info
  pub low : k.first ≤ q.first
  pub high : q.last ≤ k.last
  pub some : (q.first ≤ q.last) ⊎ ((q.first ≡ k.first) × (q.last ≡ k.last))
  pub none : (n : ℕ) → q.first ≤ n → n ≤ q.last → Out n → ⊥
  pub from : (q.first ≡ k.first) ⊎ ((n : ℕ) × IsOut Out k n × (n + 1 ≡ q.first))
  pub to : (q.last ≡ k.last) ⊎ ((n : ℕ) × IsOut Out k n × (q.last + 1 ≡ n))

-- a part of the key that none of these asks for
abbrev pub IsLeftOf : List Asked → RouterKey → RouterKey → Type 0
IsLeftOf all k q = (AsksAll all k → ⊥) × IsPart (AsksFor all k) k q
