-- Texts that were sorted: whether two of them are the same.
use Rattle.std.proofs.Common.{◌≡◌, ◌∙◌, ◌+◌, ◌<◌, ℕ, Bool, true, false, List, [], ◌∷◌, length, get_or}
use Rattle.std.proofs.Common.{refl, sym, ap, arith}
use Rattle.std.specs.Prelude.{◌↔◌, map, bytes_eq}
use Rattle.std.specs.declared.cmp.Ordering.{Ordering}
use Rattle.std.specs.declared.cmp.Ordering.TheVariants.{Less, Equal, Greater}
use Rattle.std.specs.Ordering.{is_lt, is_eq, nat_cmp, eq_by_cmp, ordering_reverse}
use Rattle.std.specs.Cmp.Lexicographic.{slice_cmp, on_texts, texts_ties, nat_list_eq_equiv}
use Rattle.std.specs.List.{IsDistinct, AllByRecursion}
use Rattle.std.specs.List.Sorted.{IsPermutation, IsSorted}
use Rattle.std.proofs.lemmas.Bool.{false≢true}
use Rattle.std.proofs.lemmas.List.Sorted.{IsPermutation-sym}
use Rattle.std.proofs.lemmas.Map.Keys.{IsDistinct-from_sorted, IsDistinct-IsPermutation, sorted_from_all_adjacent}
use Rattle.std.proofs.lemmas.Map.Keys.{apart_from_distinct, IsDistinct-from_apart}
use denote.Bor.{Bor}

abbrev pub Name : Type 0
Name = Bor (List ℕ)

-- two have the same octets; no two have
abbrev pub are_same : Name → Name → Bool
are_same x y = bytes_eq x.now y.now

abbrev pub Differ : List Name → Type 0
Differ = IsDistinct are_same

abbrev compare : Name → Name → Ordering
compare x y = slice_cmp nat_cmp x.now y.now

-- ---- neighbours in order

less-by : (o p : Ordering) (b : Bool) → p ≡ ordering_reverse o → is_lt p ≡ false → b ≡ is_eq o → b ≡ false → o ≡ Less
less-by Less p b e f g h = refl
less-by Equal p b e f g h = absurd (false≢true (sym h ∙ g))
less-by Greater p b e f g h = absurd (false≢true (sym f ∙ ap is_lt e))

-- neighbours that are sorted and differ
next-less : (x y : Name) → is_lt (compare y x) ≡ false → are_same x y ≡ false → compare x y ≡ Less
next-less x y up apart =
    less-by (compare x y) (compare y x) (are_same x y) ((on_texts (λ (z : Name). z.now)).antisymm y x) up
    (texts_ties x.now y.now) apart

-- no two neighbours are the same
abbrev pub NextDiffer : ℕ → List Name → Type 0
NextDiffer n xs = (k : ℕ) (d : Name) → k + 1 < n → are_same (get_or xs k d) (get_or xs (k + 1) d) ≡ false

same-by : (xs : List Name) → IsDistinct (eq_by_cmp compare) xs → Differ xs
same-by xs h =
    IsDistinct-from_apart are_same xs
    (λ i j d lt within.
    texts_ties (get_or xs i d).now (get_or xs j d).now
    ∙ apart_from_distinct (eq_by_cmp compare) xs i j d h lt within)

sorted-differ : (xs : List Name) → IsSorted compare xs → NextDiffer (length xs) xs → Differ xs
sorted-differ [] up apart = IsDistinct-from_apart are_same [] (λ i j d lt within. absurd (omega arith))
sorted-differ (x ∷ xs) up apart =
    same-by (x ∷ xs)
    (IsDistinct-from_sorted compare (x ∷ xs)
    (sorted_from_all_adjacent (on_texts (λ (z : Name). z.now)) (x ∷ xs) x
    (λ k within. next-less (get_or (x ∷ xs) k x) (get_or (x ∷ xs) (k + 1) x) (up k x (omega arith) within)
    (apart k x within))))

flips : (x y : Name) → are_same x y ≡ are_same y x
flips x y = nat_list_eq_equiv.symm x.now y.now

-- ---- names in another order

module _ (xs ys : List Name) (moved : IsPermutation xs ys) where
  pub all-differ : IsSorted compare ys → NextDiffer (length ys) ys → Differ xs
  all-differ up apart =
      IsDistinct-IsPermutation are_same flips ys xs (IsPermutation-sym xs ys moved) (sorted-differ ys up apart)

  pub two-are-same : (i j : ℕ) (d : Name) → i < j → j < length ys → are_same (get_or ys i d) (get_or ys j d) ≡ true
      → Differ xs → ⊥
  two-are-same i j d before within same h =
      let apart = apart_from_distinct are_same ys i j d (IsDistinct-IsPermutation are_same flips xs ys moved h) before
      within in
      false≢true (sym apart ∙ same)

-- ---- their octets

module _ {A : Type 0} (f : A → List ℕ) where
  abbrev by : A → A → Bool
  by x y = bytes_eq (f x) (f y)

  apart-there : (n : List ℕ) (xs : List A) → AllByRecursion (λ y. bytes_eq n (f y) ≡ false) xs
      → AllByRecursion (λ m. bytes_eq n m ≡ false) (map f xs)
  apart-there n [] h = tt
  apart-there n (x ∷ xs) h = (h.0, apart-there n xs h.1)

  apart-back : (n : List ℕ) (xs : List A) → AllByRecursion (λ m. bytes_eq n m ≡ false) (map f xs)
      → AllByRecursion (λ y. bytes_eq n (f y) ≡ false) xs
  apart-back n [] h = tt
  apart-back n (x ∷ xs) h = (h.0, apart-back n xs h.1)

  pub names-there : (xs : List A) → IsDistinct by xs → IsDistinct bytes_eq (map f xs)
  unfolding IsDistinct
  names-there [] h = tt
  names-there (x ∷ xs) h = (apart-there (f x) xs h.0, names-there xs h.1)

  pub names-back : (xs : List A) → IsDistinct bytes_eq (map f xs) → IsDistinct by xs
  unfolding IsDistinct
  names-back [] h = tt
  names-back (x ∷ xs) h = (apart-back (f x) xs h.0, names-back xs h.1)

abbrev pub octets_of : Name → List ℕ
octets_of x = x.now

pub octets-differ : (texts : List Name) → Differ texts ↔ IsDistinct bytes_eq (map octets_of texts)
octets-differ texts = (names-there octets_of texts, names-back octets_of texts)
