-- Local exceptions (RFC 8416): filters take payloads away, and assertions are added.
use Rattle.std.specs.Prelude.{◌≡◌, ◌++◌, List, [], ◌∷◌, Option, Some, None, MatchOption, map, slice_get, take}
use Rattle.std.specs.Prelude.{ℕ, string_bytes}
use Rattle.std.specs.List.{Contains, flat_map}
use Rattle.rpki_payloads.specs.declared.exceptions.NamedExceptions.{NamedExceptions}
use Rattle.rpki_payloads.specs.declared.filters.PrefixFilter.{PrefixFilter}
use Rattle.rpki_payloads.specs.declared.key_filters.KeyFilter.{KeyFilter}
use Rattle.rpki_payloads.specs.Filtered.{IsKept, IsKeptTimed, left_by_all}
use Rattle.rpki_payloads.specs.Payloads.{PayloadParts}
use Rattle.rpki_payloads.specs.RouterKey.{key_cmp}
use Rattle.rpki_payloads.specs.Sets.{IsSetOf}
use Rattle.rpki_payloads.specs.Timed.{endless, timed_cmp}
use Rattle.rpki_payloads.specs.Vrp.{vrp_cmp}

-- The union of the filters of several files (4.2).
abbrev pub prefix_filters_of : List NamedExceptions → List PrefixFilter
prefix_filters_of files = flat_map (λ (f : NamedExceptions). f.exceptions.prefix_filters.items) files

abbrev pub key_filters_of : List NamedExceptions → List KeyFilter
key_filters_of files = flat_map (λ (f : NamedExceptions). f.exceptions.key_filters.items) files

-- The payloads under a locator that none of these filters matches. There are no filters of providers.
pub record IsWithout (prefixes : List PrefixFilter) (identifiers : List KeyFilter) (old new : PayloadParts)
    : Type 0 where
  pub name : new.name ≡ old.name
  pub vrps : IsSetOf vrp_cmp (IsKept prefixes old.vrps) new.vrps
  pub timed : IsSetOf timed_cmp (IsKeptTimed prefixes old.timed) new.timed
  pub pairs : new.pairs ≡ old.pairs
  pub keys : IsSetOf key_cmp (Contains (left_by_all identifiers old.keys)) new.keys
  pub tally : new.tally ≡ old.tally

-- what a file adds, under its name, with no end
pub record IsAsserted (f : NamedExceptions) (p : PayloadParts) : Type 0 where
  pub name : p.name ≡ string_bytes f.name
  pub vrps : IsSetOf vrp_cmp (Contains f.exceptions.vrps.items) p.vrps
  pub timed : p.timed ≡ map endless p.vrps
  pub pairs : p.pairs ≡ []
  pub keys : IsSetOf key_cmp (Contains f.exceptions.keys.items) p.keys
  pub tally : p.tally ≡ None

-- R is true of the elements of two lists, one by one
abbrev pub AreEach : {A B : Type 0} → (A → B → Type 0) → List A → List B → Type 0
AreEach R [] [] = Unit {0}
AreEach R [] (y ∷ ys) = ⊥
AreEach R (x ∷ xs) [] = ⊥
AreEach R (x ∷ xs) (y ∷ ys) = R x y × AreEach R xs ys

-- what is found is a value of which P is true; where nothing is, there is none
abbrev pub Finds : {X : Type 0} → (X → Type 0) → Option X → Type 0
Finds {X} P o = MatchOption o ((x : X) → P x → ⊥) P

-- each element before the one with this number, from 0 on, is R of something, and that one of nothing
pub record IsFirstOther {A B : Type 0} (R : A → B → Type 0) (all : List A) (i : ℕ) : Type 0 where
  pub before : List B
  pub are : AreEach R (take i all) before
  pub other : A
  pub there : slice_get all i ≡ Some other
  pub none : (y : B) → R other y → ⊥

-- what each file adds comes after these
abbrev pub AreAdded : List NamedExceptions → (old new : List PayloadParts) → Type 0
AreAdded files old new = (added : List PayloadParts) × AreEach IsAsserted files added × (new ≡ old ++ added)

-- The payloads with the exceptions of these files: what the union of their filters leaves under each locator, and then
-- the union of their assertions (4.1, 4.2), those of each file under its name. No filter takes an assertion away.
abbrev pub AreExcepted : List NamedExceptions → (old new : List PayloadParts) → Type 0
AreExcepted files old new =
    (left : List PayloadParts) × AreEach (IsWithout (prefix_filters_of files) (key_filters_of files)) old left
    × AreAdded files left new
