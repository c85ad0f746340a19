-- An authority is added to those that wait, or the first of them is taken.
use Rattle.std.proofs.Common.{◌≡◌, ◌⊎◌, ◌∙◌, inl, inr, ℕ, suc, true, false, List, [], arith, ◌∷◌, map, ap}
use Rattle.std.proofs.Common.{refl, subst, sym}
use Rattle.std.proofs.Common.{Ordering, Less, Equal, Greater}
use Rattle.std.specs.BTreeMap.{insert_entry}
use Rattle.std.specs.List.{Contains}
use Rattle.std.specs.Ordering.{match_ordering}
use Rattle.std.specs.Prelude.{All, Bool, not}
use Rattle.std.specs.BTreeMap.{BTreeMap, keys}
use Rattle.std.specs.BTreeMap.Range.{IsLtBy}
use Rattle.std.specs.Ordering.{bool_cmp, nat_cmp, ordering_then}
use Rattle.rpki_valid.specs.Verified.{Authority}
use Rattle.rpki_validation.specs.Basis.{holder_of}
use Rattle.rpki_validation.specs.Met.{HasMark, Mark, mark_in}
use Rattle.rpki_validation.specs.Waiting.{AddsWaiting, Entry, IsFirstWaiting, entries_of, key_cmp, key_of}
use Rattle.rpki_validation.specs.Waiting as waiting
use Rattle.rpki_validation.proofs.MetLaws.{Order, both-equal, cons-cases, head-in, nat-equal, none-in, same-mark}
use Rattle.rpki_validation.proofs.MetLaws.{tail-in}
use Rattle.rpki_validation.proofs.MetLaws as met

-- a key stands for f of it, and equal keys for the same
module _ {K J X : Type 0} (cmp : K → K → Ordering) (f : K → J) (k : K) (x : X)
    (same : (q : K) → cmp k q ≡ Equal → f k ≡ f q) where
  abbrev pub View : K × X → J × X
  View e = (f e.0, e.1)

  abbrev One : J × X
  One = (f k, x)

  abbrev Put : K × X → List (K × X) → Ordering → List (K × X)
  Put e es o = match_ordering o ((k, x) ∷ e ∷ es) ((e.0, x) ∷ es) (e ∷ insert_entry cmp es k x)

  pub entry-added : (es : List (K × X)) → Contains (map View (insert_entry cmp es k x)) One
  entry-added [] = head-in One []
  entry-added (e ∷ es) = by (entry-added es) (cmp k e.0) refl where
    by : Contains (map View (insert_entry cmp es k x)) One → (o : Ordering) → cmp k e.0 ≡ o
        → Contains (map View (Put e es o)) One
    by c Less i = head-in One (map View (e ∷ es))
    by c Equal i =
        subst (λ (j : J). Contains ((f e.0, x) ∷ map View es) (j, x)) (sym (same e.0 i))
        (head-in (f e.0, x) (map View es))
    by c Greater i = tail-in (View e) (map View (insert_entry cmp es k x)) One c

  pub entry-only : (es : List (K × X)) (p : J × X) → Contains (map View (insert_entry cmp es k x)) p
      → Contains (map View es) p ⊎ (p ≡ One)
  entry-only [] p h = by (cons-cases One [] p h) where
    by : (One ≡ p) ⊎ Contains [] p → Contains [] p ⊎ (p ≡ One)
    by (inl i) = inr (sym i)
    by (inr c) = inl c
  entry-only (e ∷ es) p h = by (entry-only es p) (cmp k e.0) refl h where
    first : (One ≡ p) ⊎ Contains (map View (e ∷ es)) p → Contains (map View (e ∷ es)) p ⊎ (p ≡ One)
    first (inl i) = inr (sym i)
    first (inr c) = inl c

    level : f k ≡ f e.0 → ((f e.0, x) ≡ p) ⊎ Contains (map View es) p
        → Contains (map View (e ∷ es)) p ⊎ (p ≡ One)
    level s (inl i) = inr (sym i ∙ ap (λ (j : J). (j, x)) (sym s))
    level s (inr c) = inl (tail-in (View e) (map View es) p c)

    deeper : Contains (map View es) p ⊎ (p ≡ One) → Contains (map View (e ∷ es)) p ⊎ (p ≡ One)
    deeper (inl c) = inl (tail-in (View e) (map View es) p c)
    deeper (inr i) = inr i

    later : (Contains (map View (insert_entry cmp es k x)) p → Contains (map View es) p ⊎ (p ≡ One))
        → (View e ≡ p) ⊎ Contains (map View (insert_entry cmp es k x)) p
        → Contains (map View (e ∷ es)) p ⊎ (p ≡ One)
    later more (inl i) = inl (subst (λ (q : J × X). Contains (View e ∷ map View es) q) i (head-in (View e) (map View
        es)))
    later more (inr c) = deeper (more c)

    by : (Contains (map View (insert_entry cmp es k x)) p → Contains (map View es) p ⊎ (p ≡ One)) → (o : Ordering)
        → cmp k e.0 ≡ o → Contains (map View (Put e es o)) p → Contains (map View (e ∷ es)) p ⊎ (p ≡ One)
    by more Less i c = first (cons-cases One (map View (e ∷ es)) p c)
    by more Equal i c = level (same e.0 i) (cons-cases (f e.0, x) (map View es) p c)
    by more Greater i c = later more (cons-cases (View e) (map View (insert_entry cmp es k x)) p c)

  pub entry-kept : (es : List (K × X)) (p : J × X) → Contains (map View es) p
      → Contains (map View (insert_entry cmp es k x)) p ⊎ (p.0 ≡ f k)
  entry-kept [] p h = absurd (none-in p h)
  entry-kept (e ∷ es) p h = by (entry-kept es p) (cmp k e.0) refl where
    level : f k ≡ f e.0 → (View e ≡ p) ⊎ Contains (map View es) p
        → Contains ((f e.0, x) ∷ map View es) p ⊎ (p.0 ≡ f k)
    level s (inl i) = inr (ap (λ (q : J × X). q.0) (sym i) ∙ sym s)
    level s (inr c) = inl (tail-in (f e.0, x) (map View es) p c)

    deeper : Contains (map View (insert_entry cmp es k x)) p ⊎ (p.0 ≡ f k)
        → Contains (View e ∷ map View (insert_entry cmp es k x)) p ⊎ (p.0 ≡ f k)
    deeper (inl c) = inl (tail-in (View e) (map View (insert_entry cmp es k x)) p c)
    deeper (inr i) = inr i

    later : (Contains (map View es) p → Contains (map View (insert_entry cmp es k x)) p ⊎ (p.0 ≡ f k))
        → (View e ≡ p) ⊎ Contains (map View es) p
        → Contains (View e ∷ map View (insert_entry cmp es k x)) p ⊎ (p.0 ≡ f k)
    later more (inl i) =
        inl (subst (λ (q : J × X). Contains (View e ∷ map View (insert_entry cmp es k x)) q) i
        (head-in (View e) (map View (insert_entry cmp es k x))))
    later more (inr c) = deeper (more c)

    by : (Contains (map View es) p → Contains (map View (insert_entry cmp es k x)) p ⊎ (p.0 ≡ f k)) → (o : Ordering)
        → cmp k e.0 ≡ o → Contains (map View (Put e es o)) p ⊎ (p.0 ≡ f k)
    by more Less i = inl (tail-in One (map View (e ∷ es)) p h)
    by more Equal i = level (same e.0 i) (cons-cases (View e) (map View es) p h)
    by more Greater i = later more (cons-cases (View e) (map View es) p h)

-- ---- keys of the map

then-assoc : (a b c : Ordering) → ordering_then (ordering_then a b) c ≡ ordering_then a (ordering_then b c)
then-assoc Less b c = refl
then-assoc Equal b c = refl
then-assoc Greater b c = refl

bool-equal : (a b : Bool) → bool_cmp a b ≡ Equal → a ≡ b
bool-equal true true e = refl
bool-equal true false e = absurd (cc)
bool-equal false true e = absurd (cc)
bool-equal false false e = refl

twice : (b : Bool) → not (not b) ≡ b
twice true = refl
twice false = refl

module _ {V : Type 0} (numbers : V → List ℕ) where
  abbrev pub Raw : Type 0
  Raw = Bool × ℕ × met.Key numbers

  abbrev pub raw_cmp : Raw → Raw → Ordering
  raw_cmp x y =
      ordering_then (ordering_then (bool_cmp x.0 y.0) (nat_cmp x.1 y.1)) (Order numbers x.2 y.2)

  raw-key : (x y : Raw) → raw_cmp x y ≡ key_cmp (key_of numbers x) (key_of numbers y)
  raw-key x y = then-assoc (bool_cmp x.0 y.0) (nat_cmp x.1 y.1) (Order numbers x.2 y.2)

  same-key : (x y : Raw) → raw_cmp x y ≡ Equal → key_of numbers x ≡ key_of numbers y
  same-key x y e =
      let two = both-equal _ _ e in
      let one = both-equal _ _ two.0 in
      ap (λ (b : Bool). (b, (x.1, mark_in numbers x.2))) (bool-equal x.0 y.0 one.0)
      ∙ ap (λ (n : ℕ). (y.0, (n, mark_in numbers x.2))) (nat-equal x.1 y.1 one.1)
      ∙ ap (λ (m : Mark). (y.0, (y.1, m))) (same-mark numbers x.2 y.2 two.1)

  module _ {X : Type 0} where
    -- the authority is added under its key
    pub adds-waiting : (old new : BTreeMap Raw (Authority X)) (is_named : Bool) (depth : ℕ) (k : met.Key numbers)
        (a : Authority X) → depth ≡ a.depth → HasMark (holder_of a) (mark_in numbers k)
        → new.entries ≡ insert_entry raw_cmp old.entries (not is_named, depth, k) a
        → AddsWaiting is_named a (entries_of numbers old) (entries_of numbers new)
    adds-waiting old new is_named depth k a deep marked e =
        let raw : Raw = (not is_named, depth, k) in
        let is : key_of numbers raw ≡ (not is_named, (a.depth, mark_in numbers k)) = ap (λ (n : ℕ). (
          not is_named,
          (n, mark_in numbers k),
        )) deep in
        let entries = ap (λ (es : List (Raw × Authority X)). map (View raw_cmp (key_of numbers) raw a (same-key raw))
        es) e in
        record {
          mark = mark_in numbers k;
          marked = marked;
          added = subst (λ (j : waiting.Key). Contains (entries_of numbers new) (j, a)) is
              (subst (λ (l : List (Entry X)). Contains l (key_of numbers raw, a)) (sym entries)
              (entry-added raw_cmp (key_of numbers) raw a (same-key raw) old.entries));
          only = λ p h.
              subst (λ (j : waiting.Key). Contains (entries_of numbers old) p ⊎ (p ≡ (j, a))) is
              (entry-only raw_cmp (key_of numbers) raw a (same-key raw) old.entries p
              (subst (λ (l : List (Entry X)). Contains l p) entries h));
          kept = λ p h.
              subst (λ (j : waiting.Key). Contains (entries_of numbers new) p ⊎ (p.0 ≡ j)) is
              (subst (λ (l : List (Entry X)). Contains l p ⊎ (p.0 ≡ key_of numbers raw)) (sym entries)
              (entry-kept raw_cmp (key_of numbers) raw a (same-key raw) old.entries p h));
        }

    above-all : (r : Raw) (es : List (Raw × Authority X)) → All (IsLtBy raw_cmp r) (map (λ (q : Raw × Authority X).
        q.0) es)
        → (p : Entry X) → Contains (map (λ (q : Raw × Authority X). (key_of numbers q.0, q.1)) es) p
        → key_cmp (key_of numbers r) p.0 ≡ Less
    above-all r [] h p c = absurd (none-in p c)
    above-all r (e ∷ es) h p c =
        by (above-all r es (λ k d lt. h (suc k) d (omega (arith, lt))) p)
        (cons-cases (key_of numbers e.0, e.1) (map (λ (q : Raw × Authority X). (key_of numbers q.0, q.1)) es) p c) where
          by : (Contains (map (λ (q : Raw × Authority X). (key_of numbers q.0, q.1)) es) p
              → key_cmp (key_of numbers r) p.0 ≡ Less)
              → ((key_of numbers e.0, e.1) ≡ p)
              ⊎ Contains (map (λ (q : Raw × Authority X). (key_of numbers q.0, q.1)) es) p
              → key_cmp (key_of numbers r) p.0 ≡ Less
          by later (inl i) =
              subst (λ (q : Entry X). key_cmp (key_of numbers r) q.0 ≡ Less) i
              (sym (raw-key r e.0) ∙ h 0 e.0 (omega arith))
          by later (inr m) = later m

    -- the first is taken
    pub first-waiting : (old new : BTreeMap Raw (Authority X)) (r : Raw) (a : Authority X)
        → old.entries ≡ (r, a) ∷ new.entries → All (IsLtBy raw_cmp r) (keys new)
        → IsFirstWaiting (not r.0) a (entries_of numbers old) (entries_of numbers new)
    first-waiting old new r a e above = record {
      key = (r.1, mark_in numbers r.2);
      removed = ap (λ (es : List (Raw × Authority X)). map (λ (q : Raw × Authority X). (key_of numbers q.0, q.1)) es) e
          ∙ ap (λ (b : Bool). ((b, (r.1, mark_in numbers r.2)), a) ∷ entries_of numbers new) (sym (twice r.0));
      above = λ p c.
          subst (λ (b : Bool). key_cmp (b, (r.1, mark_in numbers r.2)) p.0 ≡ Less) (sym (twice r.0))
          (above-all r new.entries above p c);
    }
