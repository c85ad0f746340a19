-- Files of local exceptions that are in conflict, and what is looked for in lists.
use Rattle.std.proofs.Common.{◌≡◌, ◌∙◌, ◌⊎◌, inl, inr, ℕ, zero, suc, ◌+◌, ◌<◌, ◌≤◌, List, [], ◌∷◌, length, take, arith}
use Rattle.std.proofs.Common.{◌↔◌, get_or, refl, subst, sym}
use Rattle.std.proofs.lemmas.Bool.{false≢true}
use Rattle.std.proofs.lemmas.List.{get_or_default, length-take}
use Rattle.std.proofs.lemmas.List.Sorted.{Contains-permutation, IsNonDecreasingBy-from_sort, IsPermutation-sym}
use Rattle.std.proofs.lemmas.List.Sorted.{searched}
use Rattle.std.proofs.lemmas.Option.{slice_get_within}
use Rattle.std.specs.List.{Contains}
use Rattle.std.specs.List.Sorted.{IsBinarySearchResult, IsNonDecreasing, IsPermutation, IsSorted}
use Rattle.std.specs.Ordering.{nat_cmp}
use Rattle.std.specs.Prelude.{IsTrue, MatchResult, Option, Some, Result, Ok, Err, slice_get, string_bytes}
use Rattle.std.specs.Result.{is_ok}
use Rattle.rpki_resources.specs.declared.ip_text.Prefix.{Prefix}
use Rattle.rpki_payloads.specs.declared.conflict.Conflict.{Conflict}
use Rattle.rpki_payloads.specs.declared.conflict.Overlap.{Overlap}
use Rattle.rpki_payloads.specs.declared.conflict.Overlap.TheVariants.{Name, Prefixes, Asn}
use Rattle.rpki_payloads.specs.declared.exceptions.NamedExceptions.{NamedExceptions}
use Rattle.rpki_payloads.specs.Conflict.{IsConflict, IsOverlap, OverlapsAt, ShareAddress, numbers_of, prefixes_of}
use Rattle.rpki_payloads.proofs.AmongLaws.{IsKeptOf, head-in, kept-all, kept-first, none-in, one-out}
use Rattle.rpki_payloads.specs.Exceptions.{Finds}
use Rattle.rpki_payloads.proofs.FindsLaws.{finds-as, the-same}

-- ---- what P is true of is looked for: not in front of the rest

abbrev pub IsSought : {X : Type 0} → (X → Type 0) → (all rest : List X) → Type 0
IsSought P all rest = IsKeptOf (λ x. P x → ⊥) all rest []

pub sought-first : {X : Type 0} (P : X → Type 0) (all : List X) → IsSought P all all
sought-first P all = kept-first (λ x. P x → ⊥) all

module _ {X : Type 0} (P : X → Type 0) (all rest following : List X) (first : X) (h : IsSought P all rest)
    (is : rest ≡ first ∷ following) where
  pub sought-next : (P first → ⊥) → IsSought P all following
  sought-next none = one-out (λ x. P x → ⊥) all rest following [] first is h none

  pub sought-here : Contains all first
  sought-here = h.in_all first (subst (λ (r : List X). Contains r first) (sym is) (head-in first following))

pub sought-none : {X : Type 0} (P : X → Type 0) (all rest : List X) → IsSought P all rest → rest ≡ [] → (x : X)
    → Contains all x → P x → ⊥
sought-none P all rest h is x in_all p =
    none-in x ((kept-all (λ y. P y → ⊥) all rest [] h is x).1 (in_all, λ none. none p))

-- ---- a number that is searched for among those in order

order : (i j : ℕ) → (i < j) ⊎ (j ≤ i)
order i j = grind arith

pub among-found : (xs : List ℕ) (x : ℕ) (r : Result ℕ ℕ) → IsNonDecreasing xs
    → IsBinarySearchResult (λ y. nat_cmp y x) xs r → IsTrue (is_ok r) ↔ Contains xs x
among-found xs x r up found = by r (searched xs x r found (λ i j le lt. up i j 0 le lt))
  where
    by : (r : Result ℕ ℕ) → MatchResult r (λ i. (i < length xs) × (get_or xs i 0 ≡ x))
        (λ i. (i ≤ length xs) × ((k : ℕ) → k < i → get_or xs k 0 < x)
        × ((k : ℕ) → i ≤ k → k < length xs → x < get_or xs k 0)) → IsTrue (is_ok r) ↔ Contains xs x
    by (Ok i) h = (λ t. (i, h.0, get_or_default xs i x 0 h.0 ∙ h.1), λ c. refl)
    by (Err i) h = (λ t. absurd (false≢true t), λ c. absurd (none c (order c.0 i)))
      where
        none : (c : Contains xs x) → (c.0 < i) ⊎ (i ≤ c.0) → ⊥
        none c (inl below) =
            let less = h.1 c.0 below in
            let same = get_or_default xs c.0 x 0 c.1 in
            omega (arith, less, same, c.2)
        none c (inr above) =
            let more = h.2 c.0 above c.1 in
            let same = get_or_default xs c.0 x 0 c.1 in
            omega (arith, more, same, c.2)

pub in-order : (xs : List ℕ) → IsSorted nat_cmp xs → IsNonDecreasing xs
in-order xs up = IsNonDecreasingBy-from_sort (λ x. x) xs up

-- a number that is among both, of which the others are put in order
pub finds-permuted : (xs ys zs : List ℕ) (o : Option ℕ) → IsPermutation ys zs
    → Finds (λ n. Contains xs n × Contains zs n) o → Finds (λ n. Contains xs n × Contains ys n) o
finds-permuted xs ys zs o moved found =
    finds-as o (λ n. Contains xs n × Contains zs n) (λ n. Contains xs n × Contains ys n)
    (λ n h. (h.0, Contains-permutation zs ys n (IsPermutation-sym ys zs moved) h.1))
    (λ n h. (h.0, Contains-permutation ys zs n moved h.1)) found

-- two files have nothing in common that they may not
pub no-overlap : (one other : NamedExceptions) → (string_bytes one.name ≡ string_bytes other.name → ⊥)
    → ((both : Prefix × Prefix) → Contains (prefixes_of one.exceptions) both.0
    × Contains (prefixes_of other.exceptions) both.1 × ShareAddress both.0 both.1 → ⊥)
    → ((n : ℕ) → Contains (numbers_of one.exceptions) n × Contains (numbers_of other.exceptions) n → ⊥)
    → (o : Overlap) → IsOverlap one other o → ⊥
no-overlap one other names prefixes numbers Name h = names h
no-overlap one other names prefixes numbers (Prefixes p q) h = prefixes (p, q) h
no-overlap one other names prefixes numbers (Asn n) h = numbers n h

-- ---- by numbers

-- none of the files with a number below this one
abbrev pub NoneBelow : List NamedExceptions → NamedExceptions → ℕ → Type 0
NoneBelow files other n = (i : ℕ) (o : Overlap) → i < n → OverlapsAt files other i o → ⊥

split : (i n : ℕ) → i < n + 1 → (i < n) ⊎ (i ≡ n)
split i n lt = grind arith

pub none-next : (files : List NamedExceptions) (other x : NamedExceptions) (n : ℕ) → slice_get files n ≡ Some x
    → ((o : Overlap) → IsOverlap x other o → ⊥) → NoneBelow files other n → NoneBelow files other (n + 1)
none-next files other x n there none before i o lt h = by (split i n lt)
  where
    by : (i < n) ⊎ (i ≡ n) → ⊥
    by (inl below) = before i o below h
    by (inr e) =
        let here : Some h.0 ≡ Some x = sym h.1 ∙ subst (λ (k : ℕ). slice_get files k ≡ Some x) (sym e) there in
        none o (subst (λ (y : NamedExceptions). IsOverlap y other o) (the-same here) h.2)

pub none-at-all : (files : List NamedExceptions) (other : NamedExceptions) (n i : ℕ) (o : Overlap)
    → length files ≤ n → NoneBelow files other n → OverlapsAt files other i o → ⊥
none-at-all files other n i o le none h =
    let within = slice_get_within files i h.0 h.1 in none i o (omega (arith, within, le)) h

-- an element in front of a place
take-slot : {X : Type 0} (xs : List X) (n i : ℕ) → i < n → slice_get (take n xs) i ≡ slice_get xs i
take-slot xs zero i lt = absurd (omega (arith, lt))
take-slot [] (suc n) i lt = refl
take-slot (x ∷ xs) (suc n) zero lt = refl
take-slot (x ∷ xs) (suc n) (suc i) lt = take-slot xs n i (omega (arith, lt))

-- what is found among those in front is a conflict
pub is-conflict : (files : List NamedExceptions) (x : NamedExceptions) (n : ℕ) (c : Conflict)
    → slice_get files n ≡ Some x → c.second ≡ n → OverlapsAt (take n files) x c.first c.overlap → IsConflict files c
is-conflict files x n c there second h =
    let within = slice_get_within (take n files) c.first h.0 h.1 in
    let cut = length-take n files in
    let below : c.first < n = omega (arith, within, cut) in
    record {
      order = omega (arith, below, second);
      other = x;
      other_there = subst (λ (k : ℕ). slice_get files k ≡ Some x) (sym second) there;
      overlaps = (h.0, sym (take-slot files n c.first below) ∙ h.1, h.2);
    }

-- none of the conflicts is of a file in front of this one
abbrev pub NoConflictBelow : List NamedExceptions → ℕ → Type 0
NoConflictBelow files n = (c : Conflict) → IsConflict files c → n ≤ c.second

apart : (n k : ℕ) → n ≤ k → (n + 1 ≤ k) ⊎ (k ≡ n)
apart n k le = grind arith

pub no-conflict-next : (files : List NamedExceptions) (x : NamedExceptions) (n : ℕ) → slice_get files n ≡ Some x
    → ((f : ℕ × Overlap) → OverlapsAt (take n files) x f.0 f.1 → ⊥) → NoConflictBelow files n
    → NoConflictBelow files (n + 1)
no-conflict-next files x n there none before c h = by (apart n c.second (before c h))
  where
    by : (n + 1 ≤ c.second) ⊎ (c.second ≡ n) → n + 1 ≤ c.second
    by (inl le) = le
    by (inr e) =
        let here : Some h.other ≡ Some x =
        sym h.other_there ∙ subst (λ (k : ℕ). slice_get files k ≡ Some x) (sym e) there in
        let o = subst (λ (y : NamedExceptions). OverlapsAt files y c.first c.overlap) (the-same here) h.overlaps in
        let order = h.order in
        let below : c.first < n = omega (arith, order, e) in
        absurd (none (c.first, c.overlap) (o.0, take-slot files n c.first below ∙ o.1, o.2))

pub no-conflict : (files : List NamedExceptions) (n : ℕ) (c : Conflict) → length files ≤ n → NoConflictBelow files n
    → IsConflict files c → ⊥
no-conflict files n c le none h =
    let within = slice_get_within files c.second h.other h.other_there in
    let least = none c h in
    absurd (omega (arith, within, le, least))
