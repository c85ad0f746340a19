-- Serial numbers of entries that are written in sequence, and what a search of their sorted table says.
use Rattle.std.proofs.Common.{◌≡◌, ◌≢◌, ◌∙◌, ◌+◌, ◌<◌, ◌≤◌, ◌++◌, ◌||◌, inl, inr, ℕ, zero, suc, Bool, true, false}
use Rattle.std.proofs.Common.{List, [], ◌∷◌, length, map, drop, get_or, nat_eq, Result, Ok, Err, refl, sym, ap, subst}
use Rattle.std.proofs.Common.{arith, append-nil, length-append, length-set}
use Rattle.std.specs.Prelude.{◌↔◌, IsTrue, set}
use Rattle.std.specs.declared.cmp.Ordering.{Ordering}
use Rattle.std.specs.declared.cmp.Ordering.TheVariants.{Less, Equal, Greater}
use Rattle.std.specs.Cmp.{tied_itself}
use Rattle.std.specs.Cmp.Lexicographic.{slice_cmp, nat_list_cmp_total}
use Rattle.std.specs.List.{AllByRecursion, Contains}
use Rattle.std.specs.List.Sorted.{IsBinarySearchResult, IsSearchInRange}
use Rattle.std.specs.Ordering.{is_eq, nat_cmp}
use Rattle.std.specs.Result.{is_ok}
use Rattle.std.proofs.Math.Bool.{or-true}
use Rattle.std.proofs.lemmas.Bool.{false≢true, cases_lt, eq-eqb}
use Rattle.std.proofs.lemmas.Bool.Decides.{eqb_tells}
use Rattle.std.proofs.lemmas.List.{length-map}
use Rattle.std.proofs.lemmas.List.Sorted.{Contains-permutation, IsPermutation-sym, searchable_from_sorted}
use Rattle.std.proofs.lemmas.Map.Text.{is_eq-slice_cmp}
use Rattle.std.proofs.lemmas.Slice.Eq.{bytes_eq-Decides}
use Rattle.rpki_der.specs.declared.error.DecodeError.{DecodeError}
use Rattle.rpki_der.specs.Fold.{TakesFold}
use Rattle.rpki_der.specs.Number.{number_of, low_octets}
use Rattle.rpki_der.specs.NumberLaws.{low_octets-full}
use Rattle.rpki_der.specs.Reading.{Accepts, Refuses}
use Rattle.rpki_crl.specs.Crl.{Entry, entry, each_entry, is_revoked}
use Rattle.rpki_crl.specs.CrlView.{Keeps}
use Rattle.rpki_crl.proofs.EntriesLaws.{each-fault, entries-wrong, nowhere}
use Rattle.rpki_c.specs.Serial.{IsTwenty, serial_of, IsSerialTable, AreEntriesRead, AreWritten}
use Rattle.rpki_c.proofs.FillingLaws.{set-behind}

pub entries-read : (s r : List ℕ) (x : Result (Unit {0}) DecodeError) → TakesFold Keeps entry tt s r x
    → AreEntriesRead s x
entries-read s r (Ok u) h = (h.1, h.2)
entries-read s r (Err e) h = entries-wrong s e (each-fault Keeps entry (λ from v. (_, refl)) tt s e h.1)

-- ---- in sequence

-- an entry takes some octets
pub shorter : (m r : List ℕ) (x : Entry) → Accepts entry.spells m x r → length r < length m
shorter m r x a = behind a.spells.front a.spells.parts a.spells.spelled
  where
    behind : (p : List ℕ) → m ≡ p ++ r → entry.spells x p → length r < length m
    behind [] e h = absurd (nowhere x h)
    behind (y ∷ ys) e h = omega (arith, ap length e, length-append (y ∷ ys) r)

nothing-left : (p r : List ℕ) (x : Entry) → [] ≡ p ++ r → entry.spells x p → ⊥
nothing-left [] r x e h = nowhere x h
nothing-left (y ∷ ys) r x e h = absurd (cc)

all-push : {X : Type 0} (P : X → Type 0) (xs : List X) (y : X) → AllByRecursion P xs → P y
    → AllByRecursion P (xs ++ y ∷ [])
all-push P [] y h k = (k, tt)
all-push P (x ∷ xs) y h k = (h.0, all-push P xs y h.1 k)

map-push : {X Y : Type 0} (f : X → Y) (xs : List X) (y : X) (zs : List Y)
    → map f (xs ++ y ∷ []) ++ zs ≡ map f xs ++ f y ∷ zs
map-push f [] y zs = refl
map-push f (x ∷ xs) y zs = ap (λ l. f x ∷ l) (map-push f xs y zs)

-- the serial numbers so far are written, as far as there is room, and the rest of the entries remains
pub record IsWriting (s : List ℕ) (old new : List (List ℕ)) (number : ℕ) (m : List ℕ) : Type 0 where
  pub entries : List Entry
  pub spelled : each_entry.spells entries s
  pub serials : List (List ℕ)
  pub rest : List Entry
  pub numbers : map number_of serials ++ map serial_of rest ≡ map serial_of entries
  pub twenty : AllByRecursion IsTwenty serials
  pub following : each_entry.spells rest m
  pub size : number ≡ length serials
  pub array : number ≤ length old → new ≡ serials ++ drop number old
  pub long : length new ≡ length old
  pub short : number + length m ≤ length s

module _ {s : List ℕ} {old new : List (List ℕ)} {number : ℕ} {m : List ℕ} (h : IsWriting s old new number m) where
  pub writing-refused : m ≢ [] → Refuses entry.spells m → ⊥
  writing-refused some none = go h.rest h.following
    where
      go : (xs : List Entry) → each_entry.spells xs m → ⊥
      go [] k = some k
      go (x ∷ xs) k = none x k.0 k.1

  -- one more
  pub writing-next : m ≢ [] → (x : Entry) (r t : List ℕ) (after : List (List ℕ)) → Accepts entry.spells m x r
      → IsTwenty t → number_of t ≡ x.0 → (number < length new → after ≡ set new number t)
      → (length new ≤ number → after ≡ new) → IsWriting s old after (number + 1) r
  writing-next some x r t after a twenty is within beyond = go h.rest h.numbers h.following
    where
      size : number + 1 ≡ length (h.serials ++ t ∷ [])
      size = omega (arith, length-append h.serials (t ∷ []), h.size)

      long : length after ≡ length old
      long = elim (cases_lt number (length new)) [
        | inl low ↦ ap length (within low) ∙ length-set new number t ∙ h.long
        | inr high ↦ ap length (beyond high) ∙ h.long
      ]

      go : (xs : List Entry) → map number_of h.serials ++ map serial_of xs ≡ map serial_of h.entries
          → each_entry.spells xs m → IsWriting s old after (number + 1) r
      go [] e k = absurd (some k)
      go (y ∷ xs) e k =
          let same = a.only y k.0 k.1 in
          record {
            entries = h.entries;
            spelled = h.spelled;
            serials = h.serials ++ t ∷ [];
            rest = xs;
            numbers = map-push number_of h.serials t (map serial_of xs)
                ∙ ap (λ n. map number_of h.serials ++ n ∷ map serial_of xs) (is ∙ ap serial_of (sym same.0)) ∙ e;
            twenty = all-push IsTwenty h.serials t h.twenty twenty;
            following = subst (each_entry.spells xs) same.1 k.2;
            size = size;
            array = λ room. within (omega (arith, room, h.long))
                ∙ ap (λ l. set l number t) (h.array (omega (arith, room)))
                ∙ set-behind h.serials old number t (sym h.size) (omega (arith, room));
            long = long;
            short = omega (arith, h.short, shorter m r x a);
          }

  pub writing-all : m ≡ [] → AreWritten s number old new
  writing-all end = go h.rest h.numbers h.following
    where
      go : (xs : List Entry) → map number_of h.serials ++ map serial_of xs ≡ map serial_of h.entries
          → each_entry.spells xs m → AreWritten s number old new
      go [] e k =
          let numbers : map number_of h.serials ≡ map serial_of h.entries =
          sym (append-nil (map number_of h.serials)) ∙ e in
          record {
            entries = h.entries;
            spelled = h.spelled;
            serials = h.serials;
            are = record { numbers = numbers; twenty = h.twenty };
            counted = h.size ∙ sym (length-map h.serials number_of) ∙ ap length numbers
                ∙ length-map h.entries serial_of;
            array = h.array;
          }
      go (x ∷ xs) e k = absurd (nothing-left k.1.front k.0 x (sym end ∙ k.1.parts) k.1.spelled)

-- ---- a search

abbrev order : List ℕ → List ℕ → Ordering
order = slice_cmp nat_cmp

not-less : (o : Ordering) → o ≡ Less → o ≡ Equal → ⊥
not-less o a b = let z : Less ≡ Equal = sym a ∙ b in cc

not-greater : (o : Ordering) → o ≡ Greater → o ≡ Equal → ⊥
not-greater o a b = let z : Greater ≡ Equal = sym a ∙ b in cc

-- whether the table has these octets
searched : {xs : List Entry} {table : List (List ℕ)} (t : IsSerialTable xs table) (s : List ℕ) (r : Result ℕ ℕ)
    (b : Bool) → IsSearchInRange r (length table) → IsBinarySearchResult (λ y. order y s) table r → b ≡ is_ok r
    → IsTrue b ↔ Contains t.serials s
searched {xs} {table} t s (Ok k) b within h is =
    let same : get_or table k s ≡ s =
    (bytes_eq-Decides (get_or table k s) s).0 (sym (is_eq-slice_cmp (get_or table k s) s) ∙ ap is_eq (h s)) in (
      λ z. Contains-permutation table t.serials s (IsPermutation-sym t.serials table t.same) (k, within, same),
      λ z. is,
    )
searched {xs} {table} t s (Err k) b within h is = (λ z. absurd (false≢true (sym is ∙ z)), λ c. absurd (none c))
  where
    none : Contains t.serials s → ⊥
    none c =
        let p = h (searchable_from_sorted nat_list_cmp_total (λ y. y) table s t.sorted) in
        let at = Contains-permutation t.serials table s t.same c in
        let here = order (get_or table at.0 s) s in
        let equal : here ≡ Equal = ap (λ y. order y s) at.2 ∙ tied_itself nat_list_cmp_total s in
        elim (cases_lt at.0 k) [
          | inl low ↦ not-less here (p.0 at.0 s (omega arith) low) equal
          | inr high ↦ not-greater here (p.1 at.0 s high at.1) equal
        ]

-- twenty octets write one number
one-twenty : (t s : List ℕ) → IsTwenty t → IsTwenty s → number_of t ≡ number_of s → t ≡ s
one-twenty t s h k e =
    sym (low_octets-full t 20 h.size h.octets) ∙ ap (low_octets 20) e ∙ low_octets-full s 20 k.size k.octets

-- a number whose octets are among the serial numbers is that of an entry
revoked : (ts : List (List ℕ)) (xs : List Entry) (s : List ℕ) → map number_of ts ≡ map serial_of xs → (k : ℕ)
    → k < length ts → get_or ts k s ≡ s → is_revoked (number_of s) xs ≡ true
revoked [] xs s e k within is = absurd (omega (arith, within))
revoked (t ∷ ts) [] s e k within is = absurd (cc e)
revoked (t ∷ ts) (x ∷ xs) s e zero within is =
    let one : number_of t ≡ x.0 = cc e in
    let same : nat_eq x.0 (number_of s) ≡ true = eq-eqb x.0 (number_of s) (sym one ∙ ap number_of is) in
    ap (λ b. b || is_revoked (number_of s) xs) same
revoked (t ∷ ts) (x ∷ xs) s e (suc k) within is =
    let rest : map number_of ts ≡ map serial_of xs = cc e in
    ap (λ b. nat_eq x.0 (number_of s) || b) (revoked ts xs s rest k (omega (arith, within)) is)
    ∙ or-true (nat_eq x.0 (number_of s))

-- and the other way round
listed : (ts : List (List ℕ)) (xs : List Entry) (s : List ℕ) → map number_of ts ≡ map serial_of xs
    → AllByRecursion IsTwenty ts → IsTwenty s → is_revoked (number_of s) xs ≡ true → Contains ts s
listed ts [] s e all one h = absurd (false≢true h)
listed [] (x ∷ xs) s e all one h = absurd (cc e)
listed (t ∷ ts) (x ∷ xs) s e all one h =
    let first : number_of t ≡ x.0 = cc e in
    let rest : map number_of ts ≡ map serial_of xs = cc e in
    elim (eqb_tells x.0 (number_of s)) [
      | inl same ↦ (0, omega arith, one-twenty t s all.0 one (first ∙ same.1))
      | inr other ↦
          let more = listed ts xs s rest all.1 one (sym (ap (λ b. b || is_revoked (number_of s) xs) other.0) ∙ h) in
          (suc more.0, omega (arith, more.1), more.2)
    ]

same-bool : (a b : Bool) → (a ≡ true → b ≡ true) → (b ≡ true → a ≡ true) → a ≡ b
same-bool true b f g = sym (f refl)
same-bool false true f g = g refl
same-bool false false f g = refl

pub table-told : (xs : List Entry) (table : List (List ℕ)) (s : List ℕ) (r : Result ℕ ℕ) (b : Bool) → IsTwenty s
    → IsSearchInRange r (length table) → IsBinarySearchResult (λ y. order y s) table r → b ≡ is_ok r
    → IsSerialTable xs table → b ≡ is_revoked (number_of s) xs
table-told xs table s r b one within h is t =
    let i = searched t s r b within h is in
    same-bool b (is_revoked (number_of s) xs)
    (λ z. let c = i.0 z in revoked t.serials xs s t.are.numbers c.0 c.1 c.2)
    (λ z. i.1 (listed t.serials xs s t.are.numbers t.are.twenty one z))
