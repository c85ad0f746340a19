-- Files of local exceptions that are in conflict (RFC 8416 4.2).
use Rattle.std.specs.Prelude.{◌≡◌, ◌<◌, ◌++◌, ◌⊎◌, ℕ, List, [], ◌∷◌, Option, Some, None, map, slice_get, string_bytes}
use Rattle.std.specs.List.{Contains, flat_map}
use Rattle.rpki_resources.specs.declared.ip_text.Prefix.{Prefix}
use Rattle.rpki_payloads.specs.declared.conflict.Conflict.{Conflict}
use Rattle.rpki_payloads.specs.declared.conflict.Overlap.{Overlap}
use Rattle.rpki_payloads.specs.declared.conflict.Overlap.TheVariants.{Name, Prefixes, Asn}
use Rattle.rpki_payloads.specs.declared.exceptions.Exceptions.{Exceptions}
use Rattle.rpki_payloads.specs.declared.exceptions.NamedExceptions.{NamedExceptions}
use Rattle.rpki_payloads.specs.declared.filters.PrefixFilter.{PrefixFilter}
use Rattle.rpki_payloads.specs.declared.key_filters.KeyFilter.{KeyFilter}
use Rattle.rpki_payloads.specs.declared.router_key.RouterKey.{RouterKey}
use Rattle.rpki_payloads.specs.declared.vrp.Vrp.{Vrp}
use Rattle.rpki_payloads.specs.Covered.{IsCoveredBy}
use Rattle.rpki_payloads.specs.Vrp.{prefix_of}

-- what there is, as a list
abbrev pub those : {X : Type 0} → Option X → List X
those None = []
those (Some x) = x ∷ []

-- ---- what a file speaks of

-- the prefixes of its "prefixFilters", as far as they have one, and of its "prefixAssertions"
abbrev pub filtered_prefixes : List PrefixFilter → List Prefix
filtered_prefixes filters = flat_map (λ (f : PrefixFilter). those f.prefix) filters

abbrev pub added_prefixes : List Vrp → List Prefix
added_prefixes vrps = map prefix_of vrps

abbrev pub prefixes_of : Exceptions → List Prefix
prefixes_of e = filtered_prefixes e.prefix_filters.items ++ added_prefixes e.vrps.items

-- the AS numbers of its "bgpsecFilters", as far as they have one, and of its "bgpsecAssertions", each of which has one
abbrev pub filtered_numbers : List KeyFilter → List ℕ
filtered_numbers filters = flat_map (λ (f : KeyFilter). those f.asn) filters

abbrev pub added_numbers : List RouterKey → List ℕ
added_numbers keys = map (λ (k : RouterKey). k.first) keys

abbrev pub numbers_of : Exceptions → List ℕ
numbers_of e = filtered_numbers e.key_filters.items ++ added_numbers e.keys.items

-- ---- what two files have in common

-- an address is in both prefixes: the one covers the other
abbrev pub ShareAddress : Prefix → Prefix → Type 0
ShareAddress p q = IsCoveredBy p q ⊎ IsCoveredBy q p

-- an address that is in a prefix of each (case 1), or an AS number of each (case 2); or their names, under which their
-- assertions come
abbrev pub IsOverlap : (one other : NamedExceptions) → Overlap → Type 0
IsOverlap one other Name = string_bytes one.name ≡ string_bytes other.name
IsOverlap one other (Prefixes p q) =
    Contains (prefixes_of one.exceptions) p × Contains (prefixes_of other.exceptions) q × ShareAddress p q
IsOverlap one other (Asn n) = Contains (numbers_of one.exceptions) n × Contains (numbers_of other.exceptions) n

-- the file of this number has that in common with the other
abbrev pub OverlapsAt : List NamedExceptions → (other : NamedExceptions) → ℕ → Overlap → Type 0
OverlapsAt files other i o = (one : NamedExceptions) × (slice_get files i ≡ Some one) × IsOverlap one other o

-- Two of the files, by their numbers from 0 on, have that in common.
pub record IsConflict (files : List NamedExceptions) (c : Conflict) : Type 0 where
  pub order : c.first < c.second
  pub other : NamedExceptions
  pub other_there : slice_get files c.second ≡ Some other
  pub overlaps : OverlapsAt files other c.first c.overlap
