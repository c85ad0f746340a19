-- Filters of prefixes by what they ask, so that one that matches a payload is found among many.
use Rattle.std.specs.Prelude.{◌≡◌, ◌≤◌, ◌↔◌, ◌⊎◌, ℕ, List, [], ◌∷◌, ◌++◌, Option, Some, None, option_map}
use Rattle.std.specs.BTreeSet.{keys}
use Rattle.std.specs.List.{Contains}
use Rattle.rpki_resources.specs.declared.ip_text.Prefix.{Prefix}
use Rattle.rpki_resources.specs.IpRead.{address_width}
use Rattle.rpki_payloads.specs.declared.filter_keys.FilterKey.{FilterKey}
use Rattle.rpki_payloads.specs.declared.filter_keys.FilterKeys.{FilterKeys}
use Rattle.rpki_payloads.specs.declared.filter_keys.FirstBits.{FirstBits}
use Rattle.rpki_payloads.specs.declared.filters.PrefixFilter.{PrefixFilter}
use Rattle.rpki_payloads.specs.declared.vrp.Vrp.{Vrp}
use Rattle.rpki_payloads.specs.Covered.{shared_bits}
use Rattle.rpki_payloads.specs.Vrp.{prefix_of}

-- the first bits of the addresses of a prefix, so many
abbrev pub first_bits_of : Prefix → ℕ → FirstBits
first_bits_of p n = record { width = address_width p.addr; len = n; bits = shared_bits p n }

-- what a filter asks
abbrev pub filter_key : Option ℕ → Option FirstBits → FilterKey
filter_key number bits = record { asn = number; first = bits }

abbrev pub key_of : PrefixFilter → FilterKey
key_of f = filter_key f.asn (option_map (λ p. first_bits_of p p.len) f.prefix)

-- one of the filters asks this
abbrev pub IsAsked : List PrefixFilter → FilterKey → Type 0
IsAsked filters k = (f : PrefixFilter) × Contains filters f × (key_of f ≡ k)

-- the lengths of their prefixes
abbrev pub length_in : Option Prefix → List ℕ
length_in None = []
length_in (Some p) = p.len ∷ []

abbrev pub lengths_in : List PrefixFilter → List ℕ
lengths_in [] = []
lengths_in (f ∷ fs) = length_in f.prefix ++ lengths_in fs

-- what these filters ask, and the lengths of their prefixes
pub record AreKeysOf (filters : List PrefixFilter) (all : FilterKeys) : Type 0 where
  pub each : (k : FilterKey) → Contains (keys all.keys) k ↔ IsAsked filters k
  pub lens : (n : ℕ) → Contains all.lengths.items n ↔ Contains (lengths_in filters) n

-- one asks this number, or none, and the first bits of the prefix, so many as it has
abbrev pub HasFirst : FilterKeys → Option ℕ → Prefix → ℕ → Type 0
HasFirst all number p n = (n ≤ p.len) × Contains (keys all.keys) (filter_key number (Some (first_bits_of p n)))

-- the same, of one of their lengths
abbrev pub HasCover : FilterKeys → Option ℕ → Prefix → Type 0
HasCover all number p = (n : ℕ) × Contains all.lengths.items n × HasFirst all number p n

-- the same, or no prefix
abbrev pub Asks : FilterKeys → Option ℕ → Prefix → Type 0
Asks all number p = Contains (keys all.keys) (filter_key number None) ⊎ HasCover all number p

-- they ask for the payload
abbrev pub AskFor : FilterKeys → Vrp → Type 0
AskFor all v = Asks all None (prefix_of v) ⊎ Asks all (Some v.as_id) (prefix_of v)
