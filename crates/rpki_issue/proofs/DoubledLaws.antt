-- Serial numbers that were sorted: whether two of them are the same.
use Rattle.std.proofs.Common.{◌≡◌, ◌∙◌, ◌+◌, ◌<◌, ℕ, Bool, true, false, List, [], ◌∷◌, length, get_or}
use Rattle.std.proofs.Common.{refl, sym, ap, subst, arith}
use Rattle.std.specs.Prelude.{◌↔◌, map, nat_eq}
use Rattle.std.specs.declared.cmp.Ordering.{Ordering}
use Rattle.std.specs.declared.cmp.Ordering.TheVariants.{Less, Equal, Greater}
use Rattle.std.specs.Ordering.{is_lt, is_eq, nat_cmp, eq_by_cmp, ordering_reverse}
use Rattle.std.specs.Cmp.{unsigned_ties}
use Rattle.std.specs.List.{IsDistinct, AllByRecursion}
use Rattle.std.specs.List.Sorted.{IsPermutation, IsSorted}
use Rattle.std.proofs.lemmas.Bool.{false≢true}
use Rattle.std.proofs.lemmas.List.{get_or_read_under}
use Rattle.std.proofs.lemmas.Cmp.{nat_cmp_total, nat_eq_equiv}
use Rattle.std.proofs.lemmas.List.Sorted.{IsPermutation-sym}
use Rattle.std.proofs.lemmas.Map.Keys.{IsDistinct-from_sorted, IsDistinct-IsPermutation, sorted_from_all_adjacent}
use Rattle.std.proofs.lemmas.Map.Keys.{apart_from_distinct, IsDistinct-from_apart}
use Rattle.rpki_crl.specs.declared.crl_entry.CrlEntry.{CrlEntry}
use Rattle.rpki_crl.specs.Crl.{Entry, entries_in}
use Rattle.rpki_issue.specs.SignedList.{AreOnce, Differ}

-- ---- neighbours in order

less-by : (o p : Ordering) (b : Bool) → p ≡ ordering_reverse o → is_lt p ≡ false → b ≡ is_eq o → b ≡ false → o ≡ Less
less-by Less p b e f g h = refl
less-by Equal p b e f g h = absurd (false≢true (sym h ∙ g))
less-by Greater p b e f g h = absurd (false≢true (sym f ∙ ap is_lt e))

-- neighbours that are sorted and differ
next-less : (x y : ℕ) → is_lt (nat_cmp y x) ≡ false → nat_eq x y ≡ false → nat_cmp x y ≡ Less
next-less x y up apart =
    less-by (nat_cmp x y) (nat_cmp y x) (nat_eq x y) (nat_cmp_total.antisymm y x) up (unsigned_ties x y) apart

-- no two neighbours are the same
abbrev pub NextDiffer : ℕ → List ℕ → Type 0
NextDiffer n xs = (k : ℕ) (d : ℕ) → k + 1 < n → nat_eq (get_or xs k d) (get_or xs (k + 1) d) ≡ false

same-by : (xs : List ℕ) → IsDistinct (eq_by_cmp nat_cmp) xs → Differ xs
same-by xs h =
    IsDistinct-from_apart nat_eq xs
    (λ i j d lt within.
    unsigned_ties (get_or xs i d) (get_or xs j d)
    ∙ apart_from_distinct (eq_by_cmp nat_cmp) xs i j d h lt within)

sorted-differ : (xs : List ℕ) → IsSorted nat_cmp xs → NextDiffer (length xs) xs → Differ xs
sorted-differ [] up apart = IsDistinct-from_apart nat_eq [] (λ i j d lt within. absurd (omega arith))
sorted-differ (x ∷ xs) up apart =
    same-by (x ∷ xs)
    (IsDistinct-from_sorted nat_cmp (x ∷ xs)
    (sorted_from_all_adjacent nat_cmp_total (x ∷ xs) x
    (λ k within. next-less (get_or (x ∷ xs) k x) (get_or (x ∷ xs) (k + 1) x) (up k x (omega arith) within)
    (apart k x within))))

flips : (x y : ℕ) → nat_eq x y ≡ nat_eq y x
flips x y = nat_eq_equiv.symm x y

-- ---- numbers in another order

module _ (xs ys : List ℕ) (moved : IsPermutation xs ys) where
  pub all-differ : IsSorted nat_cmp ys → NextDiffer (length ys) ys → Differ xs
  all-differ up apart =
      IsDistinct-IsPermutation nat_eq flips ys xs (IsPermutation-sym xs ys moved) (sorted-differ ys up apart)

  pub two-are-same : (i j x y : ℕ) → i < j → j < length ys → x ≡ get_or ys i x → y ≡ get_or ys j y → nat_eq x y ≡ true
      → Differ xs → ⊥
  two-are-same i j x y before within first second same h =
      let one = get_or_read_under ys i (length ys) x 0 first (omega (arith, before, within)) refl in
      let other = get_or_read_under ys j (length ys) y 0 second within refl in
      let apart = apart_from_distinct nat_eq ys i j 0 (IsDistinct-IsPermutation nat_eq flips xs ys moved h) before
      within in
      let there = subst (λ (v : ℕ). nat_eq v (get_or ys j 0) ≡ true) one
      (subst (λ (v : ℕ). nat_eq x v ≡ true) other same) in
      false≢true (sym apart ∙ there)

-- ---- numbers of entries

abbrev same-number : Entry → Entry → Bool
same-number x y = nat_eq x.0 y.0

abbrev pub number_of : CrlEntry → ℕ
number_of x = x.user_certificate

apart-there : (n : ℕ) (xs : List CrlEntry) → AllByRecursion (λ m. nat_eq n m ≡ false) (map number_of xs)
    → AllByRecursion (λ (y : Entry). nat_eq n y.0 ≡ false) (entries_in xs)
apart-there n [] h = tt
apart-there n (x ∷ xs) h = (h.0, apart-there n xs h.1)

apart-back : (n : ℕ) (xs : List CrlEntry) → AllByRecursion (λ (y : Entry). nat_eq n y.0 ≡ false) (entries_in xs)
    → AllByRecursion (λ m. nat_eq n m ≡ false) (map number_of xs)
apart-back n [] h = tt
apart-back n (x ∷ xs) h = (h.0, apart-back n xs h.1)

numbers-there : (xs : List CrlEntry) → Differ (map number_of xs) → AreOnce (entries_in xs)
unfolding IsDistinct
numbers-there [] h = tt
numbers-there (x ∷ xs) h = (apart-there (number_of x) xs h.0, numbers-there xs h.1)

numbers-back : (xs : List CrlEntry) → AreOnce (entries_in xs) → Differ (map number_of xs)
unfolding IsDistinct
numbers-back [] h = tt
numbers-back (x ∷ xs) h = (apart-back (number_of x) xs h.0, numbers-back xs h.1)

-- the numbers are those of the entries
abbrev pub AreNumbersOf : List ℕ → List CrlEntry → Type 0
AreNumbersOf numbers entries = numbers ≡ map number_of entries

pub entries-differ : (numbers : List ℕ) (entries : List CrlEntry) → AreNumbersOf numbers entries
    → Differ numbers ↔ AreOnce (entries_in entries)
entries-differ numbers entries e = (
  λ h. numbers-there entries (subst Differ e h),
  λ h. subst Differ (sym e) (numbers-back entries h),
)

pub none-twice : AreOnce []
unfolding IsDistinct
none-twice = tt
