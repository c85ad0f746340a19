-- Parts of a key of routers: its AS numbers between those that are out.
use Rattle.std.proofs.Common.{◌≡◌, ◌↔◌, ◌⊎◌, ◌≤◌, ◌<◌, ◌+◌, ◌-◌, inl, inr, ℕ, suc, List, [], ◌∷◌, ◌++◌}
use Rattle.std.proofs.Common.{Bool, true, false, refl, sym, subst, arith}
use Rattle.std.proofs.lemmas.Bool.{cases_lt, ltb-true, ltb-false}
use Rattle.std.proofs.lemmas.List.Elements.{Contains-append_cases, Contains-append_left, Contains-append_right}
use Rattle.std.proofs.lemmas.Map.Keys.{below_from_sorted, sorted_tail}
use Rattle.std.specs.List.{Contains}
use Rattle.std.specs.List.Sorted.{IsStrictlySortedBy}
use Rattle.std.specs.Ordering.{nat_cmp}
use Rattle.std.specs.Prelude.{if◌then◌else◌, nat_lt}
use Rattle.rpki_payloads.specs.declared.router_key.RouterKey.{RouterKey}
use Rattle.rpki_payloads.specs.Asked.{IsOut, IsPart, IsWithin}
use Rattle.rpki_payloads.specs.Filtered.{above_number, below_number}
use Rattle.rpki_payloads.specs.RouterKey.{router_key}
use Rattle.rpki_payloads.proofs.AmongLaws.{cons-cases, head-in, none-in, one-in, tail-in}

-- ---- a part is the same by any word for what is out

module _ (T U : ℕ → Type 0) (k q : RouterKey) (there : (n : ℕ) → IsWithin k n → T n → U n)
    (back : (n : ℕ) → IsWithin k n → U n → T n) where
  pub part-as : IsPart T k q → IsPart U k q
  part-as p = record {
    identifier = p.identifier;
    info = p.info;
    low = p.low;
    high = p.high;
    some = p.some;
    none = λ n a b u. p.none n a b (back n (omega arith, omega arith) u);
    from = on-from p.from;
    to = on-to p.to;
  }
    where
      on-from : (q.first ≡ k.first) ⊎ ((n : ℕ) × IsOut T k n × (n + 1 ≡ q.first))
          → (q.first ≡ k.first) ⊎ ((n : ℕ) × IsOut U k n × (n + 1 ≡ q.first))
      on-from (inl e) = inl e
      on-from (inr x) = inr (x.0, (x.1.0, there x.0 x.1.0 x.1.1), x.2)

      on-to : (q.last ≡ k.last) ⊎ ((n : ℕ) × IsOut T k n × (q.last + 1 ≡ n))
          → (q.last ≡ k.last) ⊎ ((n : ℕ) × IsOut U k n × (q.last + 1 ≡ n))
      on-to (inl e) = inl e
      on-to (inr x) = inr (x.0, (x.1.0, there x.0 x.1.0 x.1.1), x.2)

-- ---- where none is out, the whole is the one part

same-key : (k q : RouterKey) → q.first ≡ k.first → q.last ≡ k.last → q.identifier ≡ k.identifier → q.info ≡ k.info
    → k ≡ q
same-key k q a b c d = λ i. record {
  first = sym a i;
  last = sym b i;
  identifier = sym c i;
  info = sym d i;
}

module _ (T : ℕ → Type 0) (k : RouterKey) (not : (n : ℕ) → IsWithin k n → T n → ⊥) where
  pub whole-is : (q : RouterKey) → IsPart T k q → k ≡ q
  whole-is q p = same-key k q (low p.from) (high p.to) p.identifier p.info
    where
      low : (q.first ≡ k.first) ⊎ ((n : ℕ) × IsOut T k n × (n + 1 ≡ q.first)) → q.first ≡ k.first
      low (inl e) = e
      low (inr x) = absurd (not x.0 x.1.0 x.1.1)

      high : (q.last ≡ k.last) ⊎ ((n : ℕ) × IsOut T k n × (q.last + 1 ≡ n)) → q.last ≡ k.last
      high (inl e) = e
      high (inr x) = absurd (not x.0 x.1.0 x.1.1)

  pub whole-part : IsPart T k k
  whole-part = record {
    identifier = refl;
    info = refl;
    low = omega arith;
    high = omega arith;
    some = inr (refl, refl);
    none = λ n a b t. not n (a, b) t;
    from = inl refl;
    to = inl refl;
  }

-- ---- one more that is out

abbrev pub below : ℕ → RouterKey → RouterKey
below n k = router_key k.first (n - 1) k.identifier k.info

abbrev pub above : ℕ → RouterKey → RouterKey
above n k = router_key (n + 1) k.last k.identifier k.info

-- those before the number, or after it
abbrev pub IsBeside : (ℕ → Type 0) → ℕ → RouterKey → RouterKey → Type 0
IsBeside T n k q = ((k.first < n) × IsPart T (below n k) q) ⊎ ((n < k.last) × IsPart T (above n k) q)

module _ (T U : ℕ → Type 0) (n : ℕ) (one : (m : ℕ) → U m ↔ (T m ⊎ (n ≡ m))) (k q : RouterKey) where
  module _ (inside : IsWithin k n) where
    full : IsPart U k q → q.first ≤ q.last
    full p = of p.some where
      of : (q.first ≤ q.last) ⊎ ((q.first ≡ k.first) × (q.last ≡ k.last)) → q.first ≤ q.last
      of (inl h) = h
      of (inr e) = absurd (p.none n (omega arith) (omega arith) ((one n).1 (inr refl)))

    before : IsPart U k q → q.last < n → IsPart T (below n k) q
    before p lt = let f : q.first ≤ q.last = full p in record {
      identifier = p.identifier;
      info = p.info;
      low = p.low;
      high = omega arith;
      some = inl f;
      none = λ m a b t. p.none m a b ((one m).1 (inl t));
      from = on-from p.from;
      to = on-to p.to;
    }
      where
        from-of : (m : ℕ) → IsWithin k m → m + 1 ≡ q.first → q.first ≤ q.last → T m ⊎ (n ≡ m)
            → IsOut T (below n k) m
        from-of m w e f (inl t) = ((w.0, omega arith), t)
        from-of m w e f (inr s) = absurd (omega arith)

        on-from : (q.first ≡ k.first) ⊎ ((m : ℕ) × IsOut U k m × (m + 1 ≡ q.first))
            → (q.first ≡ k.first) ⊎ ((m : ℕ) × IsOut T (below n k) m × (m + 1 ≡ q.first))
        on-from (inl e) = inl e
        on-from (inr x) = inr (x.0, from-of x.0 x.1.0 x.2 (full p) ((one x.0).0 x.1.1), x.2)

        to-of : (m : ℕ) → IsWithin k m → q.last + 1 ≡ m → T m ⊎ (n ≡ m) → (q.last + 1 < n) ⊎ (n ≤ q.last + 1)
            → (q.last ≡ n - 1) ⊎ ((m : ℕ) × IsOut T (below n k) m × (q.last + 1 ≡ m))
        to-of m w e (inl t) (inl l) = inr (m, ((w.0, omega arith), t), e)
        to-of m w e (inr s) (inl l) = absurd (omega arith)
        to-of m w e s (inr l) = inl (omega (arith, lt, l))

        on-to : (q.last ≡ k.last) ⊎ ((m : ℕ) × IsOut U k m × (q.last + 1 ≡ m))
            → (q.last ≡ n - 1) ⊎ ((m : ℕ) × IsOut T (below n k) m × (q.last + 1 ≡ m))
        on-to (inl e) = absurd (omega arith)
        on-to (inr x) = to-of x.0 x.1.0 x.2 ((one x.0).0 x.1.1) (cases_lt (q.last + 1) n)

    beyond : IsPart U k q → n < q.first → IsPart T (above n k) q
    beyond p lt = record {
      identifier = p.identifier;
      info = p.info;
      low = omega arith;
      high = p.high;
      some = inl (full p);
      none = λ m a b t. p.none m a b ((one m).1 (inl t));
      from = on-from p.from;
      to = on-to p.to;
    }
      where
        from-of : (m : ℕ) → IsWithin k m → m + 1 ≡ q.first → T m ⊎ (n ≡ m) → (n < m) ⊎ (m ≤ n)
            → (q.first ≡ n + 1) ⊎ ((m : ℕ) × IsOut T (above n k) m × (m + 1 ≡ q.first))
        from-of m w e (inl t) (inl l) = inr (m, ((omega arith, w.1), t), e)
        from-of m w e (inr s) (inl l) = absurd (omega arith)
        from-of m w e s (inr l) = inl (omega (arith, lt, l, e))

        on-from : (q.first ≡ k.first) ⊎ ((m : ℕ) × IsOut U k m × (m + 1 ≡ q.first))
            → (q.first ≡ n + 1) ⊎ ((m : ℕ) × IsOut T (above n k) m × (m + 1 ≡ q.first))
        on-from (inl e) = absurd (omega arith)
        on-from (inr x) = from-of x.0 x.1.0 x.2 ((one x.0).0 x.1.1) (cases_lt n x.0)

        to-of : (m : ℕ) → IsWithin k m → q.last + 1 ≡ m → q.first ≤ q.last → T m ⊎ (n ≡ m)
            → IsOut T (above n k) m
        to-of m w e f (inl t) = ((omega (arith, lt, f, e), w.1), t)
        to-of m w e f (inr s) = absurd (omega (arith, lt, f, e, s))

        on-to : (q.last ≡ k.last) ⊎ ((m : ℕ) × IsOut U k m × (q.last + 1 ≡ m))
            → (q.last ≡ k.last) ⊎ ((m : ℕ) × IsOut T (above n k) m × (q.last + 1 ≡ m))
        on-to (inl e) = inl e
        on-to (inr x) = inr (x.0, to-of x.0 x.1.0 x.2 (full p) ((one x.0).0 x.1.1), x.2)

    pub beside-to : IsPart U k q → IsBeside T n k q
    beside-to p = side (cases_lt q.last n) (cases_lt n q.first)
      where
        side : (q.last < n) ⊎ (n ≤ q.last) → (n < q.first) ⊎ (q.first ≤ n) → IsBeside T n k q
        side (inl lt) s =
            let f : q.first ≤ q.last = full p in
            let l : k.first ≤ q.first = p.low in inl (omega arith, before p lt)
        side (inr le) (inl lt) =
            let f : q.first ≤ q.last = full p in
            let h : q.last ≤ k.last = p.high in inr (omega arith, beyond p lt)
        side (inr le) (inr ge) = absurd (p.none n ge le ((one n).1 (inr refl)))

    from-before : k.first < n → IsPart T (below n k) q → IsPart U k q
    from-before lt p = record {
      identifier = p.identifier;
      info = p.info;
      low = p.low;
      high = omega arith;
      some = inl (of p.some);
      none = λ m a b u. none-of m b ((one m).0 u) (λ t. p.none m a b t);
      from = on-from p.from;
      to = inr (on-to p.to);
    }
      where
        of : (q.first ≤ q.last) ⊎ ((q.first ≡ k.first) × (q.last ≡ n - 1)) → q.first ≤ q.last
        of (inl h) = h
        of (inr e) = omega arith

        none-of : (m : ℕ) → m ≤ q.last → T m ⊎ (n ≡ m) → (T m → ⊥) → ⊥
        none-of m b (inl t) out = out t
        none-of m b (inr e) out = absurd (omega (arith, p.high, lt, e, b))

        on-from : (q.first ≡ k.first) ⊎ ((m : ℕ) × IsOut T (below n k) m × (m + 1 ≡ q.first))
            → (q.first ≡ k.first) ⊎ ((m : ℕ) × IsOut U k m × (m + 1 ≡ q.first))
        on-from (inl e) = inl e
        on-from (inr x) =
            inr (x.0, ((x.1.0.0, omega (arith, x.1.0.1, inside.1)), (one x.0).1 (inl x.1.1)), x.2)

        on-to : (q.last ≡ n - 1) ⊎ ((m : ℕ) × IsOut T (below n k) m × (q.last + 1 ≡ m))
            → (m : ℕ) × IsOut U k m × (q.last + 1 ≡ m)
        on-to (inl e) = (n, (inside, (one n).1 (inr refl)), omega (arith, e, lt))
        on-to (inr x) = (x.0, ((x.1.0.0, omega (arith, x.1.0.1, inside.1)), (one x.0).1 (inl x.1.1)), x.2)

    from-beyond : n < k.last → IsPart T (above n k) q → IsPart U k q
    from-beyond lt p = record {
      identifier = p.identifier;
      info = p.info;
      low = omega arith;
      high = p.high;
      some = inl (of p.some);
      none = λ m a b u. none-of m a ((one m).0 u) (λ t. p.none m a b t);
      from = inr (on-from p.from);
      to = on-to p.to;
    }
      where
        of : (q.first ≤ q.last) ⊎ ((q.first ≡ n + 1) × (q.last ≡ k.last)) → q.first ≤ q.last
        of (inl h) = h
        of (inr e) = omega arith

        none-of : (m : ℕ) → q.first ≤ m → T m ⊎ (n ≡ m) → (T m → ⊥) → ⊥
        none-of m a (inl t) out = out t
        none-of m a (inr e) out = absurd (omega (arith, p.low, e, a))

        on-from : (q.first ≡ n + 1) ⊎ ((m : ℕ) × IsOut T (above n k) m × (m + 1 ≡ q.first))
            → (m : ℕ) × IsOut U k m × (m + 1 ≡ q.first)
        on-from (inl e) = (n, (inside, (one n).1 (inr refl)), sym e)
        on-from (inr x) = (x.0, ((omega (arith, x.1.0.0, inside.0), x.1.0.1), (one x.0).1 (inl x.1.1)), x.2)

        on-to : (q.last ≡ k.last) ⊎ ((m : ℕ) × IsOut T (above n k) m × (q.last + 1 ≡ m))
            → (q.last ≡ k.last) ⊎ ((m : ℕ) × IsOut U k m × (q.last + 1 ≡ m))
        on-to (inl e) = inl e
        on-to (inr x) =
            inr (x.0, ((omega (arith, x.1.0.0, inside.0), x.1.0.1), (one x.0).1 (inl x.1.1)), x.2)

    pub beside-from : IsBeside T n k q → IsPart U k q
    beside-from (inl x) = from-before x.0 x.1
    beside-from (inr x) = from-beyond x.0 x.1

-- ---- what is before a number, and after it, as lists

module _ (n : ℕ) (k q : RouterKey) where
  pub below-cases : Contains (below_number n k) q → (k.first < n) × (below n k ≡ q)
  below-cases = by (nat_lt k.first n) refl where
    by : (b : Bool) → nat_lt k.first n ≡ b → Contains (if b then below n k ∷ [] else []) q
        → (k.first < n) × (below n k ≡ q)
    by true e h = (ltb-true k.first n e, one-in (below n k) q h)
    by false e h = absurd (none-in q h)

  pub below-in : k.first < n → below n k ≡ q → Contains (below_number n k) q
  below-in lt same = by (nat_lt k.first n) refl where
    by : (b : Bool) → nat_lt k.first n ≡ b → Contains (if b then below n k ∷ [] else []) q
    by true e = subst (λ (x : RouterKey). Contains (below n k ∷ []) x) same (head-in (below n k) [])
    by false e = let ge = ltb-false k.first n e in absurd (omega (arith, ge, lt))

  pub above-cases : Contains (above_number n k) q → (n < k.last) × (above n k ≡ q)
  above-cases = by (nat_lt n k.last) refl where
    by : (b : Bool) → nat_lt n k.last ≡ b → Contains (if b then above n k ∷ [] else []) q
        → (n < k.last) × (above n k ≡ q)
    by true e h = (ltb-true n k.last e, one-in (above n k) q h)
    by false e h = absurd (none-in q h)

  pub above-in : n < k.last → above n k ≡ q → Contains (above_number n k) q
  above-in lt same = by (nat_lt n k.last) refl where
    by : (b : Bool) → nat_lt n k.last ≡ b → Contains (if b then above n k ∷ [] else []) q
    by true e = subst (λ (x : RouterKey). Contains (above n k ∷ []) x) same (head-in (above n k) [])
    by false e = let ge = ltb-false n k.last e in absurd (omega (arith, ge, lt))

-- ---- numbers in order, in sequence

pub rises : (n : ℕ) (ns : List ℕ) → IsStrictlySortedBy nat_cmp (n ∷ ns) → (m : ℕ) → Contains ns m → n < m
rises n ns sorted m h =
    subst (λ (x : ℕ). n < x) h.2 (below_from_sorted (n ∷ ns) 0 (suc h.0) m sorted (omega arith) (omega (arith, h.1)))

-- The first number of the rest is taken: what is before it is added, and what is after it follows.
abbrev pub AreParted : (old : List RouterKey) (numbers : List ℕ) (k : RouterKey) (new : List RouterKey)
    (rest : List ℕ) (j : RouterKey) → Type 0
AreParted old numbers k new rest j =
    (q : RouterKey) → (Contains new q ⊎ IsPart (Contains rest) j q) ↔ (Contains old q ⊎ IsPart (Contains numbers) k q)

module _ (n : ℕ) (ns : List ℕ) (sorted : IsStrictlySortedBy nat_cmp (n ∷ ns)) (k : RouterKey)
    (inside : IsWithin k n) (old : List RouterKey) (q : RouterKey) where
  cases : (m : ℕ) → Contains (n ∷ ns) m ↔ (Contains ns m ⊎ (n ≡ m))
  cases m = (λ h. flip (cons-cases n ns m h), back) where
    flip : (n ≡ m) ⊎ Contains ns m → Contains ns m ⊎ (n ≡ m)
    flip (inl e) = inr e
    flip (inr h) = inl h

    back : Contains ns m ⊎ (n ≡ m) → Contains (n ∷ ns) m
    back (inl h) = tail-in n ns m h
    back (inr e) = subst (λ (x : ℕ). Contains (n ∷ ns) x) e (head-in n ns)

  none-below : (k.first < n) → (m : ℕ) → IsWithin (below n k) m → Contains ns m → ⊥
  none-below lt m w h = let r = rises n ns sorted m h in absurd (omega (arith, r, w.1, lt))

  pub next-to : Contains (old ++ below_number n k) q ⊎ ((n < k.last) × IsPart (Contains ns) (above n k) q)
      → Contains old q ⊎ IsPart (Contains (n ∷ ns)) k q
  next-to (inr x) = inr (beside-from (Contains ns) (Contains (n ∷ ns)) n cases k q inside (inr x))
  next-to (inl h) = by (Contains-append_cases old (below_number n k) q h) where
    by : Contains old q ⊎ Contains (below_number n k) q → Contains old q ⊎ IsPart (Contains (n ∷ ns)) k q
    by (inl h) = inl h
    by (inr h) =
        let c = below-cases n k q h in
        inr (beside-from (Contains ns) (Contains (n ∷ ns)) n cases k q inside
        (inl (
          c.0,
          subst (λ (x : RouterKey). IsPart (Contains ns) (below n k) x) c.1
              (whole-part (Contains ns) (below n k) (none-below c.0)),
        )))

  pub next-from : Contains old q ⊎ IsPart (Contains (n ∷ ns)) k q
      → Contains (old ++ below_number n k) q ⊎ ((n < k.last) × IsPart (Contains ns) (above n k) q)
  next-from (inl h) = inl (Contains-append_left old (below_number n k) q h)
  next-from (inr p) = by (beside-to (Contains ns) (Contains (n ∷ ns)) n cases k q inside p) where
    by : IsBeside (Contains ns) n k q
        → Contains (old ++ below_number n k) q ⊎ ((n < k.last) × IsPart (Contains ns) (above n k) q)
    by (inl x) =
        inl (Contains-append_right old (below_number n k) q (below-in n k q x.0
        (whole-is (Contains ns) (below n k) (none-below x.0) q x.1)))
    by (inr x) = inr x

-- what of the rest is still to be done
pub record IsRest (start : List RouterKey) (numbers : List ℕ) (k : RouterKey) (old : List RouterKey) (rest : List ℕ)
    (j : RouterKey) : Type 0 where
  pub order : IsStrictlySortedBy nat_cmp rest
  pub within : (n : ℕ) → Contains rest n → IsWithin j n
  pub parts : AreParted start numbers k old rest j

pub rest-all : (start : List RouterKey) (numbers : List ℕ) (k : RouterKey) → IsStrictlySortedBy nat_cmp numbers
    → ((n : ℕ) → Contains numbers n → IsWithin k n) → IsRest start numbers k start numbers k
rest-all start numbers k sorted within = record {
  order = sorted;
  within = within;
  parts = λ q. (λ h. h, λ h. h);
}

module _ (start : List RouterKey) (numbers : List ℕ) (k : RouterKey) (old new : List RouterKey) (rest : List ℕ)
    (j : RouterKey) (h : IsRest start numbers k old rest j) where
  module _ (n : ℕ) (ns : List ℕ) (is : rest ≡ n ∷ ns) (pushed : new ≡ old ++ below_number n j) where
    -- the ones that are there, or still to be added
    abbrev Either : RouterKey → List RouterKey → Type 0
    Either q xs = Contains xs q ⊎ ((n < j.last) × IsPart (Contains ns) (above n j) q)

    sorted : IsStrictlySortedBy nat_cmp (n ∷ ns)
    sorted = subst (λ (xs : List ℕ). IsStrictlySortedBy nat_cmp xs) is h.order

    inside : IsWithin j n
    inside = h.within n (subst (λ (xs : List ℕ). Contains xs n) (sym is) (head-in n ns))

    to : (q : RouterKey) → Contains new q ⊎ ((n < j.last) × IsPart (Contains ns) (above n j) q)
        → Contains start q ⊎ IsPart (Contains numbers) k q
    to q x =
        (h.parts q).0 (subst (λ (xs : List ℕ). Contains old q ⊎ IsPart (Contains xs) j q) (sym is)
        (next-to n ns sorted j inside old q
        (subst (Either q) pushed x)))

    from : (q : RouterKey) → Contains start q ⊎ IsPart (Contains numbers) k q
        → Contains new q ⊎ ((n < j.last) × IsPart (Contains ns) (above n j) q)
    from q x =
        subst (Either q) (sym pushed)
        (next-from n ns sorted j inside old q
        (subst (λ (xs : List ℕ). Contains old q ⊎ IsPart (Contains xs) j q) is ((h.parts q).1 x)))

    -- it is the last of the key
    pub rest-last : n ≡ j.last → (q : RouterKey)
        → Contains new q ↔ (Contains start q ⊎ IsPart (Contains numbers) k q)
    rest-last e q = (λ c. to q (inl c), λ x. only (from q x)) where
      only : Contains new q ⊎ ((n < j.last) × IsPart (Contains ns) (above n j) q) → Contains new q
      only (inl c) = c
      only (inr x) = absurd (omega (arith, x.0, e))

    pub rest-more : n < j.last → IsRest start numbers k new ns (above n j)
    rest-more lt = record {
      order = sorted_tail nat_cmp n ns sorted;
      within = λ m c. let r = rises n ns sorted m c in
          let w = h.within m (subst (λ (xs : List ℕ). Contains xs m) (sym is) (tail-in n ns m c)) in
          (omega (arith, r), w.1);
      parts = λ q. (λ x. to q (with x), λ x. without (from q x));
    }
      where
        with : {q : RouterKey} → Contains new q ⊎ IsPart (Contains ns) (above n j) q
            → Contains new q ⊎ ((n < j.last) × IsPart (Contains ns) (above n j) q)
        with (inl c) = inl c
        with (inr p) = inr (lt, p)

        without : {q : RouterKey} → Contains new q ⊎ ((n < j.last) × IsPart (Contains ns) (above n j) q)
            → Contains new q ⊎ IsPart (Contains ns) (above n j) q
        without (inl c) = inl c
        without (inr p) = inr p.1

  pub rest-none : rest ≡ [] → new ≡ old ++ j ∷ [] → (q : RouterKey)
      → Contains new q ↔ (Contains start q ⊎ IsPart (Contains numbers) k q)
  rest-none none pushed q = (
    λ c. to (Contains-append_cases old (j ∷ []) q (subst (λ (xs : List RouterKey). Contains xs q) pushed c)),
    λ x. subst (λ (xs : List RouterKey). Contains xs q) (sym pushed) (from ((h.parts q).1 x)),
  )
    where
      empty : (n : ℕ) → IsWithin j n → Contains rest n → ⊥
      empty n w c = none-in n (subst (λ (xs : List ℕ). Contains xs n) none c)

      to : Contains old q ⊎ Contains (j ∷ []) q → Contains start q ⊎ IsPart (Contains numbers) k q
      to (inl c) = (h.parts q).0 (inl c)
      to (inr c) =
          (h.parts q).0 (inr (subst (λ (x : RouterKey). IsPart (Contains rest) j x) (one-in j q c)
          (whole-part (Contains rest) j empty)))

      from : Contains old q ⊎ IsPart (Contains rest) j q → Contains (old ++ j ∷ []) q
      from (inl c) = Contains-append_left old (j ∷ []) q c
      from (inr p) =
          Contains-append_right old (j ∷ []) q (subst (λ (x : RouterKey). Contains (j ∷ []) x)
          (whole-is (Contains rest) j empty q p) (head-in j []))
