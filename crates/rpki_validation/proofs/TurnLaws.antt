-- One authority of those that wait is looked at, or passed over.
use Rattle.std.proofs.Common.{◌≡◌, ◌⊎◌, ◌++◌, ◌∙◌, ◌<◌, ◌≤◌, ◌+◌, inl, inr, ℕ, suc, Bool, true, false, not, List, []}
use Rattle.std.proofs.Common.{◌∷◌, length, Option, Some, None, ap, arith, refl, subst, sym, Ordering, Less}
use Rattle.std.proofs.Common.{Equal, Greater}
use Rattle.std.proofs.lemmas.List.Elements.{Contains-append_left, Contains-push, Contains-push_cases}
use Rattle.std.proofs.lemmas.Cmp.{ranked, nat_cmp_total, on_total, tied_itself, then_total, upto}
use Rattle.std.specs.Prelude.{◌↔◌, IsTrue}
use Rattle.std.specs.Cmp.{IsTotalOrder}
use Rattle.std.specs.List.{Contains}
use Rattle.std.specs.Ordering.{MatchOrdering, is_gt, nat_cmp, ordering_reverse, ordering_then}
use Rattle.rpki_locator.specs.declared.anchor_uri.AnchorUri.{AnchorUri}
use Rattle.rpki_valid.specs.Verified.{Authority, Holder}
use Rattle.rpki_validation.specs.Alike.{AreAlike, PublishTheSame}
use Rattle.rpki_validation.specs.Basis.{Basis, holder_of}
use Rattle.rpki_validation.specs.Counts.{IsNext, Waits, mark_cmp, turn_cmp}
use Rattle.rpki_validation.specs.Finding.{IsSole}
use Rattle.rpki_validation.specs.Holding.{ReachedFor}
use Rattle.rpki_validation.specs.Holding.ReachedFor.{Below}
use Rattle.rpki_validation.specs.Levels.Reached.{Next}
use Rattle.rpki_validation.specs.Met.{HasMark, Mark}
use Rattle.rpki_validation.specs.Named.{IsNamedBelow}
use Rattle.rpki_validation.specs.Reached.{IsBelow, IsFirstAnchor}
use Rattle.rpki_validation.specs.Snapshot.{Published}
use Rattle.rpki_validation.specs.Validated.{IsWaitingBelow, WaitsUnder}
use Rattle.rpki_validation.specs.Waiting.{Entry, HasKey, Key, key_cmp}
use Rattle.rpki_validation.proofs.AlikeLaws.{alike-then}
use Rattle.rpki_validation.proofs.MarkLaws.{IsMet, IsPublished, alike-same, marked-alike, one-mark}
use Rattle.rpki_validation.proofs.MarkLaws.{same-then}
use Rattle.rpki_validation.proofs.MetLaws.{both-equal, cons-cases, head-in, mark-equal, mark-total, nat-equal, tail-in}
use Rattle.rpki_validation.proofs.TraceLaws.{Done, For, In, IsEntry, IsTrace, Named, PlaceOf, Queued, Turn, entry-waits}
use Rattle.rpki_validation.proofs.TraceLaws.{queued-cases, queued-more, waits-queued}

-- ---- the order

turn-total : IsTotalOrder turn_cmp
turn-total =
    then_total (on_total (λ (t : ℕ × Mark). t.0) nat_cmp_total) (on_total (λ (t : ℕ × Mark). t.1) mark-total)

nat-low : (k n : ℕ) → k ≤ n → is_gt (nat_cmp k n) ≡ false
nat-low k n low = by (nat_cmp k n) (ranked k n _ refl) where
  by : (o : Ordering) → MatchOrdering o (k < n) (k ≡ n) (n < k) → is_gt o ≡ false
  by Less h = refl
  by Equal h = refl
  by Greater h = absurd (omega (arith, low, h))

then-low : (o p : Ordering) → is_gt o ≡ false → is_gt p ≡ false → is_gt (ordering_then o p) ≡ false
then-low Less p h k = refl
then-low Equal p h k = k
then-low Greater p h k = absurd (cc)

itself-low : (o : Ordering) → o ≡ Equal → is_gt o ≡ false
itself-low Less e = refl
itself-low Equal e = refl
itself-low Greater e = absurd (cc)

turn-low : (k n : ℕ) (m : Mark) → k ≤ n → is_gt (turn_cmp (k, m) (n, m)) ≡ false
turn-low k n m low =
    then-low (nat_cmp k n) (mark_cmp m m) (nat-low k n low)
    (itself-low (mark_cmp m m) (tied_itself mark-total m))

less-low : (o : Ordering) → o ≡ Less → is_gt o ≡ false
less-low Less e = refl
less-low Equal e = refl
less-low Greater e = absurd (cc)

-- where the one isn't after the other, the other isn't before it
not-before : (s t : ℕ × Mark) → is_gt (turn_cmp s t) ≡ false → turn_cmp t s ≡ Less → ⊥
not-before s t h k = by (turn_cmp s t) (turn-total.antisymm s t ∙ ap ordering_reverse k) h where
  by : (o : Ordering) → o ≡ Greater → is_gt o ≡ false → ⊥
  by Less e g = absurd (cc)
  by Equal e g = absurd (cc)
  by Greater e g = absurd (cc)

middle : (o : Ordering) → is_gt o ≡ false → (o ≡ Less → ⊥) → o ≡ Equal
middle Less g n = absurd (n refl)
middle Equal g n = refl
middle Greater g n = absurd (cc)

turn-equal : (s t : ℕ × Mark) → turn_cmp s t ≡ Equal → (s.0 ≡ t.0) × (s.1 ≡ t.1)
turn-equal s t e = let k = both-equal _ _ e in (nat-equal s.0 t.0 k.0, mark-equal s.1 t.1 k.1)

-- keys of one kind are in the order of their turns; and after one that isn't named none is
turns-of : (b : Bool) (s t : ℕ × Mark) → key_cmp (b, s) (b, t) ≡ Less → turn_cmp s t ≡ Less
turns-of true s t h = h
turns-of false s t h = h

then-others : (b : Bool) (s t : ℕ × Mark) → key_cmp (true, s) (b, t) ≡ Less → IsTrue b
then-others true s t h = refl
then-others false s t h = absurd (cc)

first-low : (s t : ℕ × Mark) → turn_cmp s t ≡ Less → s.0 ≤ t.0
first-low s t h = by (nat_cmp s.0 t.0) h (ranked s.0 t.0 _ refl) where
  by : (o : Ordering) → ordering_then o (mark_cmp s.1 t.1) ≡ Less → MatchOrdering o (s.0 < t.0) (s.0 ≡ t.0) (t.0 < s.0)
      → s.0 ≤ t.0
  by Less e k = omega (arith, k)
  by Equal e k = omega (arith, k)
  by Greater e k = absurd (cc)

true-is : (b : Bool) → b ≡ true → IsTrue b
true-is true e = refl
true-is false e = absurd (cc)

named-not : (b : Bool) → b ≡ false → IsTrue b → ⊥
named-not true e h = absurd (cc)
named-not false e h = absurd (cc)

named-is : (b : Bool) → b ≡ false → IsTrue (not b)
named-is true e = absurd (cc)
named-is false e = refl

push-length : {V : Type 0} (xs : List V) (x : V) → length (xs ++ x ∷ []) ≡ suc (length xs)
push-length [] x = omega arith
push-length (y ∷ xs) x = ap (λ (n : ℕ). suc n) (push-length xs x)

-- ---- one turn

module _ {X : Type 0} (published : Published) (basis : Basis) (uris : List AnchorUri) (anchor : Authority X)
    (sole : IsSole (IsFirstAnchor published basis uris) (holder_of anchor)) (ns os : List (Authority X))
    (e : Entry X) (rest : List (Entry X)) (marks places : List Mark)
    (before : IsTrace published basis uris anchor sole ns os (e ∷ rest) marks places)
    (above : (f : Entry X) → Contains rest f → key_cmp e.0 f.0 ≡ Less) where
  abbrev A : Authority X
  A = e.1

  abbrev H : Holder
  H = holder_of e.1

  abbrev In' : Authority X → Type 0
  In' = In published basis uris anchor sole ns os

  abbrev PlaceOf' : Holder → Type 0
  PlaceOf' = PlaceOf published basis uris anchor sole ns os

  abbrev Done' : ℕ → Holder → Type 0
  Done' = Done published basis uris anchor sole ns

  entry : IsEntry published basis uris anchor sole ns os e
  entry = before.entries e (head-in e rest)

  cases : (b : Bool) (n : ℕ) (x : Holder) → Queued (e ∷ rest) b n x
      → ((e.0.0 ≡ b) × (e.0.1.0 ≤ n) × AreAlike H x) ⊎ Queued rest b n x
  cases = queued-cases e rest entry.marked

  -- keys of the kind that the first isn't of
  others-stay : (b : Bool) → (e.0.0 ≡ b → ⊥) → (n : ℕ) (x : Holder) → Queued (e ∷ rest) b n x → Queued rest b n x
  others-stay b not-it n x h = by (cases b n x h) where
    by : ((e.0.0 ≡ b) × (e.0.1.0 ≤ n) × AreAlike H x) ⊎ Queued rest b n x → Queued rest b n x
    by (inl k) = absurd (not-it k.0)
    by (inr k) = k

  module _ (marks' places' : List Mark) where
    -- ---- one that is named, of which one that is alike was looked at
    module _ (is : e.0.0 ≡ false) (met : IsMet marks H)
        (more : (x : Holder) → IsMet marks' x ↔ (IsMet marks x ⊎ AreAlike H x))
        (placed : (x : Holder) → IsPublished places' x ↔ (IsPublished places x ⊎ PublishTheSame H x)) where
      abbrev It : (a : Authority X) × Contains ns a × AreAlike (holder_of a) H
      It = (before.marked H).0 met

      low-it : (n : ℕ) → e.0.1.0 ≤ n → It.0.depth ≤ n
      low-it n low =
          let k = before.lows It.0 e It.1 (head-in e rest) (named-is e.0.0 is) in omega (arith, k, low)

      done-then : (n : ℕ) (x : Holder) → Done' n x ⊎ Queued (e ∷ rest) false n x → Done' n x ⊎ Queued rest false n x
      done-then n x (inl h) = inl h
      done-then n x (inr h) = by (cases false n x h) where
        by : ((e.0.0 ≡ false) × (e.0.1.0 ≤ n) × AreAlike H x) ⊎ Queued rest false n x
            → Done' n x ⊎ Queued rest false n x
        by (inl k) = inl (It.0, It.1, alike-then (holder_of It.0) H x It.2 k.2, low-it n k.1)
        by (inr k) = inr k

      no-true : e.0.0 ≡ true → ⊥
      no-true k = let c : ◌≡◌ {A = Bool} true false = sym k ∙ is in absurd (cc)

      rest-then : (b : Authority X) (x : Holder)
          → (Contains ns b × IsNamedBelow published basis (holder_of b) x)
          ⊎ (PlaceOf' x ⊎ Queued (e ∷ rest) true (b.depth + 1) x)
          → (Contains ns b × IsNamedBelow published basis (holder_of b) x)
          ⊎ (PlaceOf' x ⊎ Queued rest true (b.depth + 1) x)
      rest-then b x (inl h) = inl h
      rest-then b x (inr (inl h)) = inr (inl h)
      rest-then b x (inr (inr h)) = inr (inr (others-stay true no-true (b.depth + 1) x h))

      placed-then : (x : Holder) → IsPublished places x ⊎ PublishTheSame H x → PlaceOf' x
      placed-then x (inl h) = (before.published_at x).0 h
      placed-then x (inr s) =
          (It.0, inl It.1, same-then (holder_of It.0) H x (alike-same (holder_of It.0) H It.2) s)

      marked-then : (x : Holder) → IsMet marks x ⊎ AreAlike H x
          → (a : Authority X) × Contains ns a × AreAlike (holder_of a) x
      marked-then x (inl h) = (before.marked x).0 h
      marked-then x (inr s) = (It.0, It.1, alike-then (holder_of It.0) H x It.2 s)

      phase-then : (os ≡ []) ⊎ ((f : Entry X) → Contains (e ∷ rest) f → IsTrue f.0.0)
          → (os ≡ []) ⊎ ((f : Entry X) → Contains rest f → IsTrue f.0.0)
      phase-then (inl h) = inl h
      phase-then (inr h) = inr (λ f c. h f (tail-in e rest f c))

      pub passed-named : IsTrace published basis uris anchor sole ns os rest marks' places'
      passed-named = record {
        named = before.named;
        others = before.others;
        taken = before.taken;
        few = before.few;
        exact = before.exact;
        entries = λ f c. before.entries f (tail-in e rest f c);
        first = done-then 0 (holder_of anchor) before.first;
        below = λ b x c low h. done-then (b.depth + 1) x (before.below b x c low h);
        rest = λ b x c low h. rest-then b x (before.rest b x c low h);
        published_at = λ x. (
          λ h. placed-then x ((placed x).0 h),
          λ h. (placed x).1 (inl ((before.published_at x).1 h)),
        );
        marked = λ x. (λ h. marked-then x ((more x).0 h), λ h. (more x).1 (inl ((before.marked x).1 h)));
        lows = λ a f c d h. before.lows a f c (tail-in e rest f d) h;
        phase = phase-then before.phase;
      }

    -- ---- one that isn't, where something publishes the same
    module _ (is : e.0.0 ≡ true) (there : IsPublished places H) (same : marks' ≡ marks)
        (placed : (x : Holder) → IsPublished places' x ↔ (IsPublished places x ⊎ PublishTheSame H x)) where
      abbrev At : PlaceOf' H
      At = (before.published_at H).0 there

      no-false : e.0.0 ≡ false → ⊥
      no-false k = let c : ◌≡◌ {A = Bool} true false = sym is ∙ k in absurd (cc)

      named-then : (n : ℕ) (x : Holder) → Done' n x ⊎ Queued (e ∷ rest) false n x → Done' n x ⊎ Queued rest false n x
      named-then n x (inl h) = inl h
      named-then n x (inr h) = inr (others-stay false no-false n x h)

      other-then : (b : Authority X) (x : Holder)
          → (Contains ns b × IsNamedBelow published basis (holder_of b) x)
          ⊎ (PlaceOf' x ⊎ Queued (e ∷ rest) true (b.depth + 1) x)
          → (Contains ns b × IsNamedBelow published basis (holder_of b) x)
          ⊎ (PlaceOf' x ⊎ Queued rest true (b.depth + 1) x)
      other-then b x (inl h) = inl h
      other-then b x (inr (inl h)) = inr (inl h)
      other-then b x (inr (inr h)) = by (cases true (b.depth + 1) x h) where
        by : ((e.0.0 ≡ true) × (e.0.1.0 ≤ b.depth + 1) × AreAlike H x) ⊎ Queued rest true (b.depth + 1) x
            → (Contains ns b × IsNamedBelow published basis (holder_of b) x)
            ⊎ (PlaceOf' x ⊎ Queued rest true (b.depth + 1) x)
        by (inl k) = inr (inl (At.0, At.1, same-then (holder_of At.0) H x At.2 (alike-same H x k.2)))
        by (inr k) = inr (inr k)

      place-then : (x : Holder) → IsPublished places x ⊎ PublishTheSame H x → PlaceOf' x
      place-then x (inl h) = (before.published_at x).0 h
      place-then x (inr s) = (At.0, At.1, same-then (holder_of At.0) H x At.2 s)

      pub passed-other : IsTrace published basis uris anchor sole ns os rest marks' places'
      passed-other = record {
        named = before.named;
        others = before.others;
        taken = before.taken;
        few = before.few;
        exact = before.exact;
        entries = λ f c. before.entries f (tail-in e rest f c);
        first = named-then 0 (holder_of anchor) before.first;
        below = λ b x c low h. named-then (b.depth + 1) x (before.below b x c low h);
        rest = λ b x c low h. other-then b x (before.rest b x c low h);
        published_at = λ x. (
          λ h. place-then x ((placed x).0 h),
          λ h. (placed x).1 (inl ((before.published_at x).1 h)),
        );
        marked = λ x. subst (λ (l : List Mark). IsMet l x ↔ ((a : Authority X) × Contains ns a
            × AreAlike (holder_of a) x)) (sym same) (before.marked x);
        lows = λ a f c d h. before.lows a f c (tail-in e rest f d) h;
        phase = inr (λ f c. then-others f.0.0 e.0.1 f.0.1
            (subst (λ (b : Bool). key_cmp (b, e.0.1) f.0 ≡ Less) is (above f c)));
      }

    -- ---- one that is looked at

    -- what is below it waits, where both are named as such
    module _ (w' : List (Entry X)) (is_named : Bool)
        (only : (f : Entry X) → Contains w' f
        → Contains rest f ⊎ (IsWaitingBelow published basis is_named A f × (f.1.depth ≡ A.depth + 1)
        × (f.1.depth ≤ basis.terms.deepest)))
        (named : IsTrue is_named → A.depth < basis.terms.deepest → (x : Holder) → IsNamedBelow published basis H x
        → WaitsUnder w' false (A.depth + 1) x)
        (others : A.depth < basis.terms.deepest → (x : Holder) → IsBelow published basis H x
        → (IsTrue is_named × IsNamedBelow published basis H x) ⊎ WaitsUnder w' true (A.depth + 1) x)
        (kept : (key : Key) → HasKey rest key → HasKey w' key)
        (placed : (x : Holder) → IsPublished places' x ↔ (IsPublished places x ⊎ PublishTheSame H x)) where
      queue-more : (b : Bool) (n : ℕ) (x : Holder) → Queued rest b n x → Queued w' b n x
      queue-more = queued-more rest w' kept

      depth-is : e.0.1.0 ≡ A.depth
      depth-is = entry.depth

      module _ (ns' os' : List (Authority X))
          (to : (b : Authority X) → In' b → In published basis uris anchor sole ns' os' b)
          (itself : In published basis uris anchor sole ns' os' A)
          (from : (b : Authority X) → In published basis uris anchor sole ns' os' b → In' b ⊎ (A ≡ b)) where
        abbrev In'' : Authority X → Type 0
        In'' = In published basis uris anchor sole ns' os'

        abbrev PlaceOf'' : Holder → Type 0
        PlaceOf'' = PlaceOf published basis uris anchor sole ns' os'

        few-then : (b : Authority X) → In'' b → b.depth ≤ basis.terms.deepest
        few-then b h = by (from b h) where
          by : In' b ⊎ (A ≡ b) → b.depth ≤ basis.terms.deepest
          by (inl k) = before.few b k
          by (inr k) = subst (λ (a : Authority X). a.depth ≤ basis.terms.deepest) k entry.few

        exact-then : (b : Authority X) → In'' b → For published basis uris anchor sole b
        exact-then b h = by (from b h) where
          by : In' b ⊎ (A ≡ b) → For published basis uris anchor sole b
          by (inl k) = before.exact b k
          by (inr k) = subst (λ (a : Authority X). For published basis uris anchor sole a) k entry.exact

        entry-then : (f : Entry X) → IsEntry published basis uris anchor sole ns os f
            → IsEntry published basis uris anchor sole ns' os' f
        entry-then f h = record {
          marked = h.marked;
          depth = h.depth;
          few = h.few;
          exact = h.exact;
          named = h.named;
          other = λ t. let o = h.other t in (o.0, to o.0 o.1, o.2, o.3);
        }

        place-more : (x : Holder) → PlaceOf' x → PlaceOf'' x
        place-more x (a, c, s) = (a, to a c, s)

        place-less : (x : Holder) → PlaceOf'' x → PlaceOf' x ⊎ PublishTheSame H x
        place-less x (a, c, s) = by (from a c) where
          by : In' a ⊎ (A ≡ a) → PlaceOf' x ⊎ PublishTheSame H x
          by (inl k) = inl (a, k, s)
          by (inr k) = inr (subst (λ (b : Authority X). PublishTheSame (holder_of b) x) (sym k) s)

        published-forth : (x : Holder) → IsPublished places x ⊎ PublishTheSame H x → PlaceOf'' x
        published-forth x (inl h) = place-more x ((before.published_at x).0 h)
        published-forth x (inr s) = (A, itself, s)

        published-back : (x : Holder) → PlaceOf' x ⊎ PublishTheSame H x → IsPublished places x ⊎ PublishTheSame H x
        published-back x (inl h) = inl ((before.published_at x).1 h)
        published-back x (inr s) = inr s

        published-then : (x : Holder) → IsPublished places' x ↔ PlaceOf'' x
        published-then x = (
          λ h. published-forth x ((placed x).0 h),
          λ h. (placed x).1 (published-back x (place-less x h)),
        )

        new-entry : (f : Entry X) → IsWaitingBelow published basis is_named A f → f.1.depth ≡ A.depth + 1
            → f.1.depth ≤ basis.terms.deepest
            → (IsTrue is_named → Named published basis uris anchor sole A.depth H)
            → IsEntry published basis uris anchor sole ns' os' f
        new-entry f h deep few is = record {
          marked = h.marked;
          depth = h.depth;
          few = few;
          exact = subst (λ (n : ℕ). ReachedFor published basis (IsFirstAnchor published basis uris) n (holder_of f.1)
              f.1.period) (omega (arith, deep)) (Below A.depth H (holder_of f.1) A.period f.1.period entry.exact
              h.child.0 h.child.1);
          named = λ t. let k = h.named t in
              subst (λ (n : ℕ). Named published basis uris anchor sole n (holder_of f.1)) (omega (arith, deep))
              (Next A.depth H (holder_of f.1) (is k.0) k.1);
          other = λ t. (A, itself, h.child.0, deep);
        }

        entries-then : (IsTrue is_named → Named published basis uris anchor sole A.depth H) → (f : Entry X)
            → Contains w' f → IsEntry published basis uris anchor sole ns' os' f
        entries-then is f c = by (only f c) where
          by : Contains rest f ⊎ (IsWaitingBelow published basis is_named A f × (f.1.depth ≡ A.depth + 1)
              × (f.1.depth ≤ basis.terms.deepest)) → IsEntry published basis uris anchor sole ns' os' f
          by (inl k) = entry-then f (before.entries f (tail-in e rest f k))
          by (inr k) = new-entry f k.0 k.1 k.2 is

      -- ---- one that is named

      module _ (is : e.0.0 ≡ false) (is-one : IsTrue is_named)
          (more : (x : Holder) → IsMet marks' x ↔ (IsMet marks x ⊎ AreAlike H x)) where
        abbrev Ns : List (Authority X)
        Ns = ns ++ (A ∷ [])

        to-ns : (b : Authority X) → In' b → In published basis uris anchor sole Ns os b
        to-ns b (inl c) = inl (Contains-append_left ns (A ∷ []) b c)
        to-ns b (inr c) = inr c

        a-in : Contains Ns A
        a-in = Contains-push ns A

        from-ns : (b : Authority X) → In published basis uris anchor sole Ns os b → In' b ⊎ (A ≡ b)
        from-ns b (inl c) = by (Contains-push_cases ns A b c) where
          by : Contains ns b ⊎ (A ≡ b) → In' b ⊎ (A ≡ b)
          by (inl k) = inl (inl k)
          by (inr k) = inr k
        from-ns b (inr c) = inl (inr c)

        named-a : Named published basis uris anchor sole A.depth H
        named-a = entry.named (named-is e.0.0 is)

        named-of : (b : Authority X) → Contains Ns b → Named published basis uris anchor sole b.depth (holder_of b)
        named-of b c = by (Contains-push_cases ns A b c) where
          by : Contains ns b ⊎ (A ≡ b) → Named published basis uris anchor sole b.depth (holder_of b)
          by (inl k) = before.named b k
          by (inr k) =
              subst (λ (a : Authority X). Named published basis uris anchor sole a.depth (holder_of a)) k named-a

        done-more : (n : ℕ) (x : Holder) → Done' n x → Done published basis uris anchor sole Ns n x
        done-more n x h = (h.0, Contains-append_left ns (A ∷ []) h.0 h.1, h.2, h.3)

        done-first : (n : ℕ) (x : Holder) → Done' n x ⊎ Queued (e ∷ rest) false n x
            → Done published basis uris anchor sole Ns n x ⊎ Queued w' false n x
        done-first n x (inl h) = inl (done-more n x h)
        done-first n x (inr h) = by (cases false n x h) where
          by : ((e.0.0 ≡ false) × (e.0.1.0 ≤ n) × AreAlike H x) ⊎ Queued rest false n x
              → Done published basis uris anchor sole Ns n x ⊎ Queued w' false n x
          by (inl k) = inl (A, a-in, k.2, omega (arith, depth-is, k.1))
          by (inr k) = inr (queue-more false n x k)

        below-then : (b : Authority X) (x : Holder) → Contains Ns b → b.depth < basis.terms.deepest
            → IsNamedBelow published basis (holder_of b) x
            → Done published basis uris anchor sole Ns (b.depth + 1) x ⊎ Queued w' false (b.depth + 1) x
        below-then b x c low h = by (Contains-push_cases ns A b c) where
          by : Contains ns b ⊎ (A ≡ b)
              → Done published basis uris anchor sole Ns (b.depth + 1) x ⊎ Queued w' false (b.depth + 1) x
          by (inl k) = done-first (b.depth + 1) x (before.below b x k low h)
          by (inr k) =
              inr (
                b.depth + 1,
                omega arith,
                subst (λ (a : Authority X). WaitsUnder w' false (a.depth + 1) x) k
                    (named is-one (subst (λ (a : Authority X). a.depth < basis.terms.deepest) (sym k) low) x
                    (subst (λ (a : Authority X). IsNamedBelow published basis (holder_of a) x) (sym k) h)),
              )

        no-true' : e.0.0 ≡ true → ⊥
        no-true' k = let c : ◌≡◌ {A = Bool} true false = sym k ∙ is in absurd (cc)

        abbrev Rest : Authority X → Holder → Type 0
        Rest b x =
            (Contains Ns b × IsNamedBelow published basis (holder_of b) x)
            ⊎ (PlaceOf published basis uris anchor sole Ns os x ⊎ Queued w' true (b.depth + 1) x)

        rest-named : (b : Authority X) (x : Holder) → In published basis uris anchor sole Ns os b
            → b.depth < basis.terms.deepest → IsBelow published basis (holder_of b) x → Rest b x
        rest-named b x c low h = by (from-ns b c) where
          old : (Contains ns b × IsNamedBelow published basis (holder_of b) x)
              ⊎ (PlaceOf' x ⊎ Queued (e ∷ rest) true (b.depth + 1) x) → Rest b x
          old (inl k) = inl (Contains-append_left ns (A ∷ []) b k.0, k.1)
          old (inr (inl k)) = inr (inl (place-more Ns os to-ns (inl a-in) from-ns x k))
          old (inr (inr k)) =
              inr (inr (queue-more true (b.depth + 1) x (others-stay true no-true' (b.depth + 1) x k)))

          new : (IsTrue is_named × IsNamedBelow published basis H x) ⊎ WaitsUnder w' true (A.depth + 1) x → Rest A x
          new (inl k) = inl (a-in, k.1)
          new (inr k) = inr (inr (A.depth + 1, omega arith, k))

          by : In' b ⊎ (A ≡ b) → Rest b x
          by (inl k) = old (before.rest b x k low h)
          by (inr k) =
              subst (λ (a : Authority X). Rest a x) k
              (new (others (subst (λ (a : Authority X). a.depth < basis.terms.deepest) (sym k) low) x
              (subst (λ (a : Authority X). IsBelow published basis (holder_of a) x) (sym k) h)))

        abbrev AlikeOne : Holder → Type 0
        AlikeOne x = (a : Authority X) × Contains Ns a × AreAlike (holder_of a) x

        marked-forth : (x : Holder) → IsMet marks x ⊎ AreAlike H x → AlikeOne x
        marked-forth x (inl h) =
            let k = (before.marked x).0 h in (k.0, Contains-append_left ns (A ∷ []) k.0 k.1, k.2)
        marked-forth x (inr s) = (A, a-in, s)

        marked-back : (x : Holder) → AlikeOne x → IsMet marks x ⊎ AreAlike H x
        marked-back x (a, c, s) = by (Contains-push_cases ns A a c) where
          by : Contains ns a ⊎ (A ≡ a) → IsMet marks x ⊎ AreAlike H x
          by (inl k) = inl ((before.marked x).1 (a, k, s))
          by (inr k) = inr (subst (λ (b : Authority X). AreAlike (holder_of b) x) (sym k) s)

        low-rest : (f : Entry X) → Contains rest f → IsTrue (not f.0.0) → A.depth ≤ f.0.1.0
        low-rest f c h =
            let k = above f c in
            let t = turns-of false e.0.1 f.0.1
            (subst (λ (b : Bool). key_cmp (false, e.0.1) (b, f.0.1) ≡ Less) (is-false f.0.0 h)
            (subst (λ (b : Bool). key_cmp (b, e.0.1) f.0 ≡ Less) is k)) in
            let low = first-low e.0.1 f.0.1 t in
            omega (arith, depth-is, low)
          where
            is-false : (b : Bool) → IsTrue (not b) → b ≡ false
            is-false true h = absurd (cc)
            is-false false h = refl

        lows-then : (b : Authority X) (f : Entry X) → Contains Ns b → Contains w' f → IsTrue (not f.0.0)
            → b.depth ≤ f.0.1.0
        lows-then b f c d h = by (Contains-push_cases ns A b c) (only f d) where
          by : Contains ns b ⊎ (A ≡ b)
              → Contains rest f ⊎ (IsWaitingBelow published basis is_named A f × (f.1.depth ≡ A.depth + 1)
              × (f.1.depth ≤ basis.terms.deepest)) → b.depth ≤ f.0.1.0
          by (inl k) (inl m) = before.lows b f k (tail-in e rest f m) h
          by (inl k) (inr m) =
              let low = before.lows b e k (head-in e rest) (named-is e.0.0 is) in
              omega (arith, low, depth-is, m.0.depth, m.1)
          by (inr k) (inl m) =
              subst (λ (a : Authority X). a.depth ≤ f.0.1.0) k (low-rest f m h)
          by (inr k) (inr m) =
              subst (λ (a : Authority X). a.depth ≤ f.0.1.0) k (omega (arith, m.0.depth, m.1))

        phase-of : (os ≡ []) ⊎ ((f : Entry X) → Contains (e ∷ rest) f → IsTrue f.0.0) → os ≡ []
        phase-of (inl h) = h
        phase-of (inr h) = absurd (named-not e.0.0 is (h e (head-in e rest)))

        pub looked-named : IsTrace published basis uris anchor sole Ns os w' marks' places'
        looked-named = record {
          named = named-of;
          others = before.others;
          taken = before.taken;
          few = few-then Ns os to-ns (inl a-in) from-ns;
          exact = exact-then Ns os to-ns (inl a-in) from-ns;
          entries = entries-then Ns os to-ns (inl a-in) from-ns (λ t. named-a);
          first = done-first 0 (holder_of anchor) before.first;
          below = below-then;
          rest = rest-named;
          published_at = published-then Ns os to-ns (inl a-in) from-ns;
          marked = λ x. (λ h. marked-forth x ((more x).0 h), λ h. (more x).1 (marked-back x h));
          lows = lows-then;
          phase = inl (phase-of before.phase);
        }

      -- ---- one that isn't

      module _ (is : e.0.0 ≡ true) (no-one : IsTrue is_named → ⊥) (new : IsPublished places H → ⊥)
          (same : marks' ≡ marks) where
        abbrev Os : List (Authority X)
        Os = os ++ (A ∷ [])

        none : (f : Entry X) → Contains (e ∷ rest) f → IsTrue f.0.0
        none f c = by (cons-cases e rest f c) where
          by : (e ≡ f) ⊎ Contains rest f → IsTrue f.0.0
          by (inl k) = subst (λ (g : Entry X). IsTrue g.0.0) k (true-is e.0.0 is)
          by (inr k) =
              then-others f.0.0 e.0.1 f.0.1 (subst (λ (b : Bool). key_cmp (b, e.0.1) f.0 ≡ Less) is (above f k))

        none-then : (f : Entry X) → Contains w' f → IsTrue f.0.0
        none-then f c = by (only f c) where
          unnamed : (b : Bool) → (IsTrue (not b) → ⊥) → IsTrue b
          unnamed true h = refl
          unnamed false h = absurd (h refl)

          by : Contains rest f ⊎ (IsWaitingBelow published basis is_named A f × (f.1.depth ≡ A.depth + 1)
              × (f.1.depth ≤ basis.terms.deepest)) → IsTrue f.0.0
          by (inl k) = none f (tail-in e rest f k)
          by (inr k) = unnamed f.0.0 (λ t. no-one (k.0.named t).0)

        to-os : (b : Authority X) → In' b → In published basis uris anchor sole ns Os b
        to-os b (inl c) = inl c
        to-os b (inr c) = inr (Contains-append_left os (A ∷ []) b c)

        a-os : Contains Os A
        a-os = Contains-push os A

        from-os : (b : Authority X) → In published basis uris anchor sole ns Os b → In' b ⊎ (A ≡ b)
        from-os b (inl c) = inl (inl c)
        from-os b (inr c) = by (Contains-push_cases os A b c) where
          by : Contains os b ⊎ (A ≡ b) → In' b ⊎ (A ≡ b)
          by (inl k) = inl (inr k)
          by (inr k) = inr k

        abbrev S : ℕ → Holder → Type 0
        S = Turn published basis uris anchor sole (length os)

        queued-of : (n : ℕ) (x : Holder) → Waits published basis uris S n x → Queued (e ∷ rest) true n x
        queued-of =
            waits-queued published basis uris anchor sole ns os (e ∷ rest) marks places before none S before.taken
            before.others

        -- it isn't after what waits
        ahead : (n : ℕ) (x : Holder) → Waits published basis uris S n x
            → (m : Mark) × HasMark x m × (is_gt (turn_cmp e.0.1 (n, m)) ≡ false)
        ahead n x h =
            let q = queued-of n x h in
            (q.2.0, q.2.1, by q.0 q.1 q.2.0 q.2.2.0 (cons-cases e rest ((true, (q.0, q.2.0)), q.2.2.0) q.2.2.1)) where
              by : (k : ℕ) → k ≤ n → (m : Mark) (a : Authority X)
                  → (e ≡ ((true, (k, m)), a)) ⊎ Contains rest ((true, (k, m)), a)
                  → is_gt (turn_cmp e.0.1 (n, m)) ≡ false
              by k low m a (inl s) =
                  subst (λ (t : ℕ × Mark). is_gt (turn_cmp t (n, m)) ≡ false)
                  (sym (ap (λ (f : Entry X). f.0.1) s)) (turn-low k n m low)
              by k low m a (inr c) =
                  upto turn-total e.0.1 (k, m) (n, m)
                  (less-low (turn_cmp e.0.1 (k, m)) (turns-of true e.0.1 (k, m)
                  (subst (λ (b : Bool). key_cmp (b, e.0.1) (true, (k, m)) ≡ Less) is (above ((true, (k, m)), a) c))))
                  (turn-low k n m low)

        not-placed : PlaceOf' H → ⊥
        not-placed h = new ((before.published_at H).1 h)

        is-next : IsNext (Waits published basis uris S) e.0.1.0 H
        is-next = record {
          holds = entry-waits published basis uris anchor sole ns os (e ∷ rest) marks places before none S
              before.taken before.others e (head-in e rest) not-placed;
          first = λ n y p q h hp hq less.
              let m = ahead n y h in
              not-before e.0.1 (n, m.0) m.2
              (subst (λ (r : Mark). turn_cmp (n, r) e.0.1 ≡ Less) (one-mark y q m.0 hq m.1)
              (subst (λ (r : Mark). turn_cmp (n, q) (e.0.1.0, r) ≡ Less) (one-mark H p e.0.1.1 hp entry.marked) less));
        }

        next-is : (n : ℕ) (x : Holder) → IsNext (Waits published basis uris S) n x → AreAlike H x × (A.depth ≡ n)
        next-is n x h =
            let m = ahead n x h.holds in
            let k = turn-equal e.0.1 (n, m.0) (middle (turn_cmp e.0.1 (n, m.0)) m.2
            (h.first e.0.1.0 H m.0 e.0.1.1 is-next.holds m.1 entry.marked)) in (
              marked-alike H x m.0 (subst (λ (r : Mark). HasMark H r) k.1 entry.marked) m.1,
              omega (arith, depth-is, k.0),
            )

        longer : length Os ≡ suc (length os)
        longer = push-length os A

        others-then : (b : Authority X) → Contains Os b
            → Turn published basis uris anchor sole (length Os) b.depth (holder_of b)
        others-then b c =
            subst (λ (r : ℕ). Turn published basis uris anchor sole r b.depth (holder_of b)) (sym longer)
            (by (Contains-push_cases os A b c)) where
              by : Contains os b ⊎ (A ≡ b)
                  → Turn published basis uris anchor sole (suc (length os)) b.depth (holder_of b)
              by (inl k) = inl (before.others b k)
              by (inr k) =
                  subst (λ (a : Authority X). Turn published basis uris anchor sole (suc (length os)) a.depth
                  (holder_of a)) k
                  (inr (subst (λ (n : ℕ). IsNext (Waits published basis uris S) n H) depth-is is-next))

        taken-then : (n : ℕ) (x : Holder) → Turn published basis uris anchor sole (length Os) n x
            → (a : Authority X) × Contains Os a × AreAlike (holder_of a) x × (a.depth ≡ n)
        taken-then n x h = by (subst (λ (r : ℕ). Turn published basis uris anchor sole r n x) longer h) where
          by : Turn published basis uris anchor sole (suc (length os)) n x
              → (a : Authority X) × Contains Os a × AreAlike (holder_of a) x × (a.depth ≡ n)
          by (inl k) = let d = before.taken n x k in (d.0, Contains-append_left os (A ∷ []) d.0 d.1, d.2, d.3)
          by (inr k) = let d = next-is n x k in (A, a-os, d.0, d.1)

        no-false' : e.0.0 ≡ false → ⊥
        no-false' k = let c : ◌≡◌ {A = Bool} true false = sym is ∙ k in absurd (cc)

        named-stay : (n : ℕ) (x : Holder) → Done' n x ⊎ Queued (e ∷ rest) false n x → Done' n x ⊎ Queued w' false n x
        named-stay n x (inl h) = inl h
        named-stay n x (inr h) = inr (queue-more false n x (others-stay false no-false' n x h))

        abbrev Rest' : Authority X → Holder → Type 0
        Rest' b x =
            (Contains ns b × IsNamedBelow published basis (holder_of b) x)
            ⊎ (PlaceOf published basis uris anchor sole ns Os x ⊎ Queued w' true (b.depth + 1) x)

        rest-other : (b : Authority X) (x : Holder) → In published basis uris anchor sole ns Os b
            → b.depth < basis.terms.deepest → IsBelow published basis (holder_of b) x → Rest' b x
        rest-other b x c low h = by (from-os b c) where
          first' : ((e.0.0 ≡ true) × (e.0.1.0 ≤ b.depth + 1) × AreAlike H x) ⊎ Queued rest true (b.depth + 1) x
              → Rest' b x
          first' (inl k) = inr (inl (A, inr a-os, alike-same H x k.2))
          first' (inr k) = inr (inr (queue-more true (b.depth + 1) x k))

          old : (Contains ns b × IsNamedBelow published basis (holder_of b) x)
              ⊎ (PlaceOf' x ⊎ Queued (e ∷ rest) true (b.depth + 1) x) → Rest' b x
          old (inl k) = inl k
          old (inr (inl k)) = inr (inl (place-more ns Os to-os (inr a-os) from-os x k))
          old (inr (inr k)) = first' (cases true (b.depth + 1) x k)

          new' : (IsTrue is_named × IsNamedBelow published basis H x) ⊎ WaitsUnder w' true (A.depth + 1) x
              → Rest' A x
          new' (inl k) = absurd (no-one k.0)
          new' (inr k) = inr (inr (A.depth + 1, omega arith, k))

          by : In' b ⊎ (A ≡ b) → Rest' b x
          by (inl k) = old (before.rest b x k low h)
          by (inr k) =
              subst (λ (a : Authority X). Rest' a x) k
              (new' (others (subst (λ (a : Authority X). a.depth < basis.terms.deepest) (sym k) low) x
              (subst (λ (a : Authority X). IsBelow published basis (holder_of a) x) (sym k) h)))

        pub looked-other : IsTrace published basis uris anchor sole ns Os w' marks' places'
        looked-other = record {
          named = before.named;
          others = others-then;
          taken = taken-then;
          few = few-then ns Os to-os (inr a-os) from-os;
          exact = exact-then ns Os to-os (inr a-os) from-os;
          entries = entries-then ns Os to-os (inr a-os) from-os (λ t. absurd (no-one t));
          first = named-stay 0 (holder_of anchor) before.first;
          below = λ b x c low h. named-stay (b.depth + 1) x (before.below b x c low h);
          rest = rest-other;
          published_at = published-then ns Os to-os (inr a-os) from-os;
          marked = λ x. subst (λ (l : List Mark). IsMet l x ↔ ((a : Authority X) × Contains ns a
              × AreAlike (holder_of a) x)) (sym same) (before.marked x);
          lows = λ a f c d h. absurd (other-false f.0.0 (none-then f d) h);
          phase = inr none-then;
        } where
          other-false : (b : Bool) → IsTrue b → IsTrue (not b) → ⊥
          other-false true t h = absurd (cc)
          other-false false t h = absurd (cc)
