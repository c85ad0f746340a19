-- A walk: what was looked at, what waits, and that in the end all that counts was looked at.
use Rattle.std.proofs.Common.{◌≡◌, ◌⊎◌, ◌∙◌, ◌<◌, ◌≤◌, ◌+◌, inl, inr, ℕ, zero, suc, Bool, true, false, not, List, []}
use Rattle.std.proofs.Common.{◌∷◌, length, ap, arith, refl, subst, sym}
use Rattle.std.specs.Prelude.{◌↔◌, IsTrue}
use Rattle.std.specs.List.{Contains}
use Rattle.rpki_locator.specs.declared.anchor_uri.AnchorUri.{AnchorUri}
use Rattle.rpki_valid.specs.Verified.{Authority, Holder}
use Rattle.rpki_validation.specs.Alike.{AreAlike, PublishTheSame}
use Rattle.rpki_validation.specs.Basis.{Basis, holder_of}
use Rattle.rpki_validation.specs.Counts.{Counts, CountsAt, IsPublishedByName, Taken, Waits}
use Rattle.rpki_validation.specs.Finding.{IsSole}
use Rattle.rpki_validation.specs.Holding.{ReachedFor}
use Rattle.rpki_validation.specs.Levels.Reached.{First, Next}
use Rattle.rpki_validation.specs.Met.{HasMark, Mark}
use Rattle.rpki_validation.specs.Named.{IsNamed, IsNamedBelow}
use Rattle.rpki_validation.specs.Reached.{IsBelow, IsFirstAnchor}
use Rattle.rpki_validation.specs.Snapshot.{Published}
use Rattle.rpki_validation.specs.Validated.{WaitsUnder}
use Rattle.rpki_validation.specs.Waiting.{Entry, HasKey, Key}
use Rattle.rpki_validation.proofs.AlikeLaws.{alike-turned, below-alike, named-alike}
use Rattle.rpki_validation.proofs.MarkLaws.{IsMet, IsPublished, alike-same, marked-alike, same-itself}
use Rattle.rpki_validation.proofs.MarkLaws.{same-then}
use Rattle.rpki_validation.proofs.MetLaws.{cons-cases, none-in}

-- ---- so many more

abbrev up : ℕ → ℕ → ℕ
up zero n = n
up (suc d) n = suc (up d n)

up-suc : (d n : ℕ) → up d (suc n) ≡ suc (up d n)
up-suc zero n = refl
up-suc (suc d) n = ap (λ (k : ℕ). suc k) (up-suc d n)

up-zero : (n : ℕ) → up n zero ≡ n
up-zero zero = refl
up-zero (suc n) = ap (λ (k : ℕ). suc k) (up-zero n)

up-either : (p q : ℕ) → ((d : ℕ) × (up d p ≡ q)) ⊎ ((d : ℕ) × (p ≡ up d q))
up-either p zero = inr (p, sym (up-zero p))
up-either zero (suc q) = inl (suc q, up-zero (suc q))
up-either (suc p) (suc q) = by (up-either p q) where
  by : ((d : ℕ) × (up d p ≡ q)) ⊎ ((d : ℕ) × (p ≡ up d q))
      → ((d : ℕ) × (up d (suc p) ≡ suc q)) ⊎ ((d : ℕ) × (suc p ≡ up d (suc q)))
  by (inl k) = inl (k.0, up-suc k.0 p ∙ ap (λ (n : ℕ). suc n) k.1)
  by (inr k) = inr (k.0, ap (λ (n : ℕ). suc n) k.1 ∙ sym (up-suc k.0 q))

-- ---- what waits

module _ {X : Type 0} where
  -- it waits under at most so many steps
  abbrev pub Queued : List (Entry X) → Bool → ℕ → Holder → Type 0
  Queued w is_other n x = (k : ℕ) × (k ≤ n) × WaitsUnder w is_other k x

  pub queued-more : (w w' : List (Entry X)) → ((key : Key) → HasKey w key → HasKey w' key) → (b : Bool) (n : ℕ)
      (x : Holder) → Queued w b n x → Queued w' b n x
  queued-more w w' kept b n x h = (h.0, h.1, (h.2.0, h.2.1, kept (b, (h.0, h.2.0)) h.2.2))

  -- of those that wait, it is the first, or one of the others
  pub queued-cases : (e : Entry X) (rest : List (Entry X)) → HasMark (holder_of e.1) e.0.1.1 → (b : Bool) (n : ℕ)
      (x : Holder) → Queued (e ∷ rest) b n x
      → ((e.0.0 ≡ b) × (e.0.1.0 ≤ n) × AreAlike (holder_of e.1) x) ⊎ Queued rest b n x
  queued-cases e rest marked b n x (k, low, (m, has, (a, c))) = by (cons-cases e rest ((b, (k, m)), a) c) where
    by : (e ≡ ((b, (k, m)), a)) ⊎ Contains rest ((b, (k, m)), a)
        → ((e.0.0 ≡ b) × (e.0.1.0 ≤ n) × AreAlike (holder_of e.1) x) ⊎ Queued rest b n x
    by (inl is) =
        inl (
          ap (λ (q : Entry X). q.0.0) is,
          subst (λ (i : ℕ). i ≤ n) (sym (ap (λ (q : Entry X). q.0.1.0) is)) low,
          marked-alike (holder_of e.1) x m
              (subst (λ (q : Mark). HasMark (holder_of e.1) q) (ap (λ (q : Entry X). q.0.1.1) is) marked) has,
        )
    by (inr there) = inr (k, low, (m, has, (a, there)))

-- ---- what was looked at

module _ {X : Type 0} (published : Published) (basis : Basis) (uris : List AnchorUri) (anchor : Authority X)
    (sole : IsSole (IsFirstAnchor published basis uris) (holder_of anchor)) where
  abbrev pub Named : ℕ → Holder → Type 0
  Named = IsNamed published basis uris

  abbrev pub Turn : ℕ → ℕ → Holder → Type 0
  Turn = Taken published basis uris

  abbrev pub For : Authority X → Type 0
  For a = ReachedFor published basis (IsFirstAnchor published basis uris) a.depth (holder_of a) a.period

  abbrev deepest : ℕ
  deepest = basis.terms.deepest

  abbrev IsBelow' : Holder → Holder → Type 0
  IsBelow' = IsBelow published basis

  abbrev IsNamedBelow' : Holder → Holder → Type 0
  IsNamedBelow' = IsNamedBelow published basis

  module _ (ns os : List (Authority X)) where
    abbrev pub In : Authority X → Type 0
    In a = Contains ns a ⊎ Contains os a

    -- one of these publishes the same
    abbrev pub PlaceOf : Holder → Type 0
    PlaceOf x = (a : Authority X) × In a × PublishTheSame (holder_of a) x

    pub record IsEntry (e : Entry X) : Type 0 where
      pub marked : HasMark (holder_of e.1) e.0.1.1
      pub depth : e.0.1.0 ≡ e.1.depth
      pub few : e.1.depth ≤ deepest
      pub exact : For e.1
      pub named : IsTrue (not e.0.0) → Named e.1.depth (holder_of e.1)
      pub other : IsTrue e.0.0 → (b : Authority X) × In b × IsBelow' (holder_of b) (holder_of e.1)
          × (e.1.depth ≡ b.depth + 1)

  -- one of those that are named is alike, and no more steps down
  abbrev pub Done : List (Authority X) → ℕ → Holder → Type 0
  Done ns n x = (a : Authority X) × Contains ns a × AreAlike (holder_of a) x × (a.depth ≤ n)

  -- Named authorities were looked at, and others, one a turn; and what is below them was, or waits.
  pub record IsTrace (ns os : List (Authority X)) (w : List (Entry X)) (marks places : List Mark) : Type 0 where
    pub named : (a : Authority X) → Contains ns a → Named a.depth (holder_of a)
    pub others : (a : Authority X) → Contains os a → Turn (length os) a.depth (holder_of a)
    pub taken : (n : ℕ) (x : Holder) → Turn (length os) n x
        → (a : Authority X) × Contains os a × AreAlike (holder_of a) x × (a.depth ≡ n)
    pub few : (a : Authority X) → In ns os a → a.depth ≤ deepest
    pub exact : (a : Authority X) → In ns os a → For a
    pub entries : (e : Entry X) → Contains w e → IsEntry ns os e
    pub first : Done ns 0 (holder_of anchor) ⊎ Queued w false 0 (holder_of anchor)
    pub below : (b : Authority X) (x : Holder) → Contains ns b → b.depth < deepest → IsNamedBelow' (holder_of b) x
        → Done ns (b.depth + 1) x ⊎ Queued w false (b.depth + 1) x
    pub rest : (b : Authority X) (x : Holder) → In ns os b → b.depth < deepest → IsBelow' (holder_of b) x
        → (Contains ns b × IsNamedBelow' (holder_of b) x) ⊎ (PlaceOf ns os x ⊎ Queued w true (b.depth + 1) x)
    pub published_at : (x : Holder) → IsPublished places x ↔ PlaceOf ns os x
    pub marked : (x : Holder) → IsMet marks x ↔ ((a : Authority X) × Contains ns a × AreAlike (holder_of a) x)
    pub lows : (a : Authority X) (e : Entry X) → Contains ns a → Contains w e → IsTrue (not e.0.0) → a.depth ≤ e.0.1.0
    pub phase : (os ≡ []) ⊎ ((e : Entry X) → Contains w e → IsTrue e.0.0)

  -- ---- at a moment of the walk

  module _ (ns os : List (Authority X)) (w : List (Entry X)) (marks places : List Mark)
      (at : IsTrace ns os w marks places) where
    -- where none that is named waits, all that is named was looked at
    module _ (none : (e : Entry X) → Contains w e → IsTrue e.0.0) where
      none-queued : (n : ℕ) (x : Holder) → Queued w false n x → ⊥
      none-queued n x (k, low, (m, has, (a, c))) =
          let e : ◌≡◌ {A = Bool} false true = none ((false, (k, m)), a) c in absurd (cc)

      done-of : (n : ℕ) (x : Holder) → Done ns n x ⊎ Queued w false n x → Done ns n x
      done-of n x (inl h) = h
      done-of n x (inr h) = absurd (none-queued n x h)

      pub all-named : (n : ℕ) (x : Holder) → n ≤ deepest → Named n x → Done ns n x
      all-named _ _ few (First x h) =
          subst (λ (y : Holder). Done ns 0 y) (sym (sole.sole x h)) (done-of 0 (holder_of anchor) at.first)
      all-named _ _ few (Next n above x r h) =
          let up = all-named n above (omega (arith, few)) r in
          let b = up.0 in
          let d = done-of (b.depth + 1) x (at.below b x up.1 (omega (arith, few, up.3))
          (named-alike published basis above (holder_of b) (alike-turned (holder_of b) above up.2) x h)) in
          (d.0, d.1, d.2, omega (arith, d.3, up.3))

      -- what publishes the same as one that is named was looked at
      by-name-placed : (x : Holder) → IsPublishedByName published basis uris x → PlaceOf ns os x
      by-name-placed x h =
          let d = all-named h.steps h.publisher h.few h.named in
          (d.0, inl d.1, same-then (holder_of d.0) h.publisher x (alike-same (holder_of d.0) h.publisher d.2) h.same)

      -- one that is taken is as those that were looked at
      module _ (S : ℕ → Holder → Type 0)
          (to : (n : ℕ) (x : Holder) → S n x
          → (a : Authority X) × Contains os a × AreAlike (holder_of a) x × (a.depth ≡ n))
          (from : (a : Authority X) → Contains os a → S a.depth (holder_of a)) where
        abbrev Waits' : ℕ → Holder → Type 0
        Waits' = Waits published basis uris S

        above-looked : (n : ℕ) (x : Holder) → n ≤ deepest → Named n x ⊎ S n x
            → (b : Authority X) × In ns os b × AreAlike (holder_of b) x × (b.depth ≤ n)
        above-looked n x few (inl h) = let d = all-named n x few h in (d.0, inl d.1, d.2, d.3)
        above-looked n x few (inr h) = let d = to n x h in (d.0, inr d.1, d.2, omega (arith, d.3))

        place-none : (n : ℕ) (x : Holder) → Waits' n x → PlaceOf ns os x → ⊥
        place-none n x h (a, inl c, s) =
            h.unnamed (record {
              steps = a.depth;
              few = at.few a (inl c);
              publisher = holder_of a;
              named = at.named a c;
              same = s;
            })
        place-none n x h (a, inr c, s) = h.untaken a.depth (holder_of a) (from a c) s

        -- what waits by the definition waits here
        pub waits-queued : (n : ℕ) (x : Holder) → Waits' n x → Queued w true n x
        waits-queued n x h =
            let up = above-looked h.steps h.above (omega (arith, h.few, h.deeper)) h.counts in
            let b = up.0 in
            by b up.1 up.3 (at.rest b x up.1 (omega (arith, h.few, h.deeper, up.3))
            (below-alike published basis h.above (holder_of b) (alike-turned (holder_of b) h.above up.2) x h.below))
          where
            by : (b : Authority X) → In ns os b → b.depth ≤ h.steps
                → (Contains ns b × IsNamedBelow' (holder_of b) x) ⊎ (PlaceOf ns os x ⊎ Queued w true (b.depth + 1) x)
                → Queued w true n x
            by b c low (inl k) =
                absurd (h.unnamed (record {
                  steps = suc b.depth;
                  few = omega (arith, h.few, h.deeper, low);
                  publisher = x;
                  named = Next b.depth (holder_of b) x (at.named b k.0) k.1;
                  same = same-itself x;
                }))
            by b c low (inr (inl k)) = absurd (place-none n x h k)
            by b c low (inr (inr k)) = (k.0, omega (arith, k.1, low, h.deeper), k.2)

        -- an entry that publishes what nothing does that was looked at waits by the definition
        pub entry-waits : (e : Entry X) → Contains w e → (PlaceOf ns os (holder_of e.1) → ⊥)
            → Waits' e.0.1.0 (holder_of e.1)
        entry-waits e c new =
            let i = at.entries e c in
            let o = i.other (none e c) in
            record {
              steps = o.0.depth;
              above = holder_of o.0;
              counts = counts-of o.0 o.1;
              below = o.2;
              deeper = omega (arith, i.depth, o.3);
              few = omega (arith, i.depth, i.few);
              unnamed = λ h. new (by-name-placed (holder_of e.1) h);
              untaken = λ n y h s.
                  let d = to n y h in
                  new (d.0, inr d.1, same-then (holder_of d.0) y (holder_of e.1) (alike-same (holder_of d.0) y d.2) s);
            } where
              counts-of : (b : Authority X) → In ns os b → Named b.depth (holder_of b) ⊎ S b.depth (holder_of b)
              counts-of b (inl m) = inl (at.named b m)
              counts-of b (inr m) = inr (from b m)

    -- ---- in the end

    module _ (empty : w ≡ []) where
      nothing : (e : Entry X) → Contains w e → ⊥
      nothing e c = none-in e (subst (λ (l : List (Entry X)). Contains l e) empty c)

      others-only : (e : Entry X) → Contains w e → IsTrue e.0.0
      others-only e c = absurd (nothing e c)

      none-waits : (n : ℕ) (x : Holder) → Queued w true n x → ⊥
      none-waits n x (k, low, (m, has, (a, c))) = nothing ((true, (k, m)), a) c

      abbrev Took : ℕ → Type 0
      Took r =
          ((n : ℕ) (x : Holder) → Turn r n x
          → (a : Authority X) × Contains os a × AreAlike (holder_of a) x × (a.depth ≡ n))

      took-before : (d r : ℕ) → up d r ≡ length os → Took r
      took-before zero r e n x h = at.taken n x (subst (λ (q : ℕ). Turn q n x) e h)
      took-before (suc d) r e n x h = took-before d (suc r) (up-suc d r ∙ e) n x (inl h)

      turn-more : (d n : ℕ) (x : Holder) → Turn (length os) n x → Turn (up d (length os)) n x
      turn-more zero n x h = h
      turn-more (suc d) n x h = inl (turn-more d n x h)

      took-after : (d : ℕ) → Took (up d (length os))
      took-after zero n x h = at.taken n x h
      took-after (suc d) n x (inl h) = took-after d n x h
      took-after (suc d) n x (inr h) =
          absurd (none-waits n x (waits-queued others-only (Turn (up d (length os))) (took-after d)
          (λ a c. turn-more d a.depth (holder_of a) (at.others a c)) n x h.holds))

      took : (r : ℕ) → Took r
      took r n x h = by (up-either r (length os)) where
        by : ((d : ℕ) × (up d r ≡ length os)) ⊎ ((d : ℕ) × (r ≡ up d (length os)))
            → (a : Authority X) × Contains os a × AreAlike (holder_of a) x × (a.depth ≡ n)
        by (inl k) = took-before k.0 r k.1 n x h
        by (inr k) = took-after k.0 n x (subst (λ (q : ℕ). Turn q n x) k.1 h)

      -- what counts was looked at, by no more steps
      pub counted-looked : (k : ℕ) (x : Holder) → k ≤ deepest → CountsAt published basis uris k x
          → (a : Authority X) × In ns os a × AreAlike (holder_of a) x × (a.depth ≤ k)
      counted-looked k x few (inl h) = let d = all-named others-only k x few h in (d.0, inl d.1, d.2, d.3)
      counted-looked k x few (inr (r, h)) = let d = took r k x h in (d.0, inr d.1, d.2, omega (arith, d.3))

      pub counts-looked : (x : Holder) → Counts published basis uris x
          → (a : Authority X) × In ns os a × AreAlike (holder_of a) x
      counts-looked x h = let d = counted-looked h.steps x h.few h.counted in (d.0, d.1, d.2)

      -- and what is below it is named, or is published there
      pub below-looked : (a : Authority X) (x : Holder) → In ns os a → a.depth < deepest → IsBelow' (holder_of a) x
          → Named (suc a.depth) x ⊎ PlaceOf ns os x
      below-looked a x h low b = by (at.rest a x h low b) where
        by : (Contains ns a × IsNamedBelow' (holder_of a) x) ⊎ (PlaceOf ns os x ⊎ Queued w true (a.depth + 1) x)
            → Named (suc a.depth) x ⊎ PlaceOf ns os x
        by (inl k) = inl (Next a.depth (holder_of a) x (at.named a k.0) k.1)
        by (inr (inl k)) = inr k
        by (inr (inr k)) = absurd (none-waits (a.depth + 1) x k)

    -- and what was looked at counts
    pub counted : (a : Authority X) → In ns os a → CountsAt published basis uris a.depth (holder_of a)
    counted a (inl c) = inl (at.named a c)
    counted a (inr c) = inr (length os, at.others a c)
