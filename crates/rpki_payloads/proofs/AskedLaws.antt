-- What filters of the keys of routers ask, and what they leave of keys.
use Rattle.std.proofs.Common.{◌≡◌, ◌∙◌, ◌↔◌, ◌⊎◌, ◌≤◌, inl, inr, ℕ, List, [], ◌∷◌, ◌++◌, ap, refl, sym, subst}
use Rattle.std.proofs.Common.{Bool, true, false, arith, cond}
use Rattle.std.proofs.lemmas.Bool.{ltb-true, ltb-false, false≢true}
use Rattle.std.proofs.lemmas.Cmp.{nat_cmp_total, nat_list_cmp_total, tied_itself}
use Rattle.std.proofs.lemmas.List.Elements.{Contains-append_cases, Contains-append_left, Contains-append_right}
use Rattle.std.proofs.lemmas.List.Elements.{Contains-push, Contains-push_cases}
use Rattle.std.proofs.lemmas.Map.Keys.{le_from_not_gt}
use Rattle.std.proofs.lemmas.Map.Lookups.{exact_bytes, exact_pairs, exact_unsigned}
use Rattle.std.proofs.lemmas.Map.Views.{IsInRange-from_range_contains, range_contains-from_IsInRange}
use Rattle.std.proofs.lemmas.Slice.Eq.{bytes_eq-Decides}
use Rattle.std.specs.BTreeMap.Range.{range_contains}
use Rattle.std.specs.Bool.{Decides}
use Rattle.std.specs.Cmp.{IsTotalOrder}
use Rattle.std.specs.Cmp.Lexicographic.{options_total, slice_cmp}
use Rattle.std.specs.List.{Contains, filter, flat_map}
use Rattle.std.specs.Option.{option_cmp}
use Rattle.std.specs.Ordering.{is_gt, nat_cmp, ordering_then, ordering_reverse}
use Rattle.std.specs.Prelude.{◌||◌, Option, Some, None, bytes_eq, if◌then◌else◌, nat_lt}
use Rattle.std.specs.declared.cmp.Ordering.{Ordering}
use Rattle.std.specs.declared.cmp.Ordering.TheVariants.{Less, Equal, Greater}
use Rattle.std.specs.declared.ops.Bound.TheVariants.{Included}
use Rattle.rpki_payloads.specs.contracts.key_filters.AskedOrd.TheImpl as asked-order
use Rattle.rpki_payloads.specs.declared.key_filters.Asked.{Asked}
use Rattle.rpki_payloads.specs.declared.key_filters.KeyFilter.{KeyFilter}
use Rattle.rpki_payloads.specs.declared.router_key.RouterKey.{RouterKey}
use Rattle.rpki_payloads.specs.Asked.{AsksAll, AsksFor, IsAskedBy, IsLeftOf, IsPart, IsWithin, asked, asked_by}
use Rattle.rpki_payloads.specs.Filtered.{above_number, below_number, is_of, left_by, left_by_all, without_number}
use Rattle.rpki_payloads.specs.Vrp.{IsExact}
use Rattle.rpki_payloads.proofs.AmongLaws.{cons-cases, head-in, none-in, one-in, tail-in}
use Rattle.rpki_payloads.proofs.GatheredLaws.{exact-option}
use Rattle.rpki_payloads.proofs.PartLaws.{IsBeside, above, above-cases, above-in, below, below-cases, below-in}
use Rattle.rpki_payloads.proofs.PartLaws.{beside-from, beside-to, part-as, whole-is, whole-part}

-- ---- what compares as equal is one

cmp-of : Asked → Asked → Ordering
cmp-of a b =
    ordering_then (option_cmp (slice_cmp nat_cmp) a.identifier b.identifier) (option_cmp nat_cmp a.asn b.asn)

pub exact-asked : IsExact asked-order.ghosts.cmp
unfolding cmp-of
exact-asked a b h =
    ap (λ (p : Option (List ℕ) × Option ℕ). asked p.0 p.1)
    (exact_pairs (option_cmp (slice_cmp nat_cmp)) (option_cmp nat_cmp)
    (exact-option (slice_cmp nat_cmp) exact_bytes) (exact-option nat_cmp exact_unsigned)
    (a.identifier, a.asn) (b.identifier, b.asn) h)

-- ---- what is between two others

module _ {X : Type 0} (test : X → Bool) where
  first-in : (x : X) (xs : List X) (t : X)
      → (Contains (filter test xs) t → Contains xs t × (test t ≡ true)) → (b : Bool) → test x ≡ b
      → Contains (cond b (x ∷ filter test xs) (filter test xs)) t → Contains (x ∷ xs) t × (test t ≡ true)
  first-in x xs t others true e k = here (cons-cases x (filter test xs) t k)
    where
      here : (x ≡ t) ⊎ Contains (filter test xs) t → Contains (x ∷ xs) t × (test t ≡ true)
      here (inl same) =
          (subst (λ (y : X). Contains (x ∷ xs) y) same (head-in x xs), ap test (sym same) ∙ e)
      here (inr h) = let g = others h in (tail-in x xs t g.0, g.1)
  first-in x xs t others false e k = let g = others k in (tail-in x xs t g.0, g.1)

  filter-in : (xs : List X) (t : X) → Contains (filter test xs) t → Contains xs t × (test t ≡ true)
  filter-in [] t h = absurd (none-in t h)
  filter-in (x ∷ xs) t h = first-in x xs t (λ k. filter-in xs t k) (test x) refl h

  in-first : (x : X) (xs : List X) (t : X) → test t ≡ true → (Contains xs t → Contains (filter test xs) t) → (b : Bool)
      → test x ≡ b → (x ≡ t) ⊎ Contains xs t → Contains (cond b (x ∷ filter test xs) (filter test xs)) t
  in-first x xs t e others true k (inl same) =
      subst (λ (y : X). Contains (x ∷ filter test xs) y) same (head-in x (filter test xs))
  in-first x xs t e others false k (inl same) = absurd (false≢true (sym k ∙ ap test same ∙ e))
  in-first x xs t e others true k (inr there) = tail-in x (filter test xs) t (others there)
  in-first x xs t e others false k (inr there) = others there

  in-filter : (xs : List X) (t : X) → Contains xs t → test t ≡ true → Contains (filter test xs) t
  in-filter [] t h e = absurd (none-in t h)
  in-filter (x ∷ xs) t h e =
      in-first x xs t e (λ k. in-filter xs t k e) (test x) refl (cons-cases x xs t h)

pub between-is : {K : Type 0} (R : K → K → Ordering) → IsTotalOrder R → (from to low high : K) (ks found : List K)
    → low ≡ from → high ≡ to → found ≡ filter (range_contains R (Included low) (Included high)) ks → (t : K)
    → Contains found t ↔ (Contains ks t × (is_gt (R from t) ≡ false) × (is_gt (R t to) ≡ false))
between-is {K} R o from to low high ks found l h found-is t = (
  λ c.
      let g =
      filter-in (range_contains R (Included from) (Included to)) ks t
      (subst (λ (xs : List K). Contains xs t) is c) in
      let r = IsInRange-from_range_contains o (Included from) (Included to) t g.1 in (g.0, r.0, r.1),
  λ x.
      subst (λ (xs : List K). Contains xs t) (sym is)
      (in-filter (range_contains R (Included from) (Included to)) ks t x.0
      (range_contains-from_IsInRange o (Included from) (Included to) t (x.1, x.2))),
)
  where
    is : found ≡ filter (range_contains R (Included from) (Included to)) ks
    is =
        found-is ∙ ap (λ (k : K). filter (range_contains R (Included k) (Included high)) ks) l
        ∙ ap (λ (k : K). filter (range_contains R (Included from) (Included k)) ks) h

abbrev id-cmp : Option (List ℕ) → Option (List ℕ) → Ordering
id-cmp = option_cmp (slice_cmp nat_cmp)

id-total : IsTotalOrder id-cmp
id-total = options_total nat_list_cmp_total

not-gt : (a b : ℕ) → a ≤ b → is_gt (nat_cmp a b) ≡ false
not-gt a b le = by (nat_lt a b) refl where
  by : (t : Bool) → nat_lt a b ≡ t → is_gt (nat_cmp a b) ≡ false
  by true e = rw e refl
  by false e =
      let ge = ltb-false a b e in
      let same : a ≡ b = omega (arith, ge, le) in
      rw same (ap is_gt (tied_itself nat_cmp_total b))

-- those of this identifier, or of none, with an AS number from one to another
module _ (i : Option (List ℕ)) (low high : ℕ) where
  pub asked-to : (n : ℕ) → low ≤ n → n ≤ high
      → (is_gt (asked-order.ghosts.cmp (asked i (Some low)) (asked i (Some n))) ≡ false)
      × (is_gt (asked-order.ghosts.cmp (asked i (Some n)) (asked i (Some high))) ≡ false)
  asked-to n a b = (
    ap (λ (r : Ordering). is_gt (ordering_then r (nat_cmp low n))) (tied_itself id-total i) ∙ not-gt low n a,
    ap (λ (r : Ordering). is_gt (ordering_then r (nat_cmp n high))) (tied_itself id-total i) ∙ not-gt n high b,
  )

  pub asked-from : (a : Asked) (n : ℕ) → a.asn ≡ Some n
      → is_gt (asked-order.ghosts.cmp (asked i (Some low)) a) ≡ false
      → is_gt (asked-order.ghosts.cmp a (asked i (Some high))) ≡ false
      → (a ≡ asked i (Some n)) × (low ≤ n) × (n ≤ high)
  asked-from a n is after before = by (id-cmp i a.identifier) refl where
    back : id-cmp a.identifier i ≡ ordering_reverse (id-cmp i a.identifier)
    back = id-total.antisymm a.identifier i

    after-is : is_gt (ordering_then (id-cmp i a.identifier) (nat_cmp low n)) ≡ false
    after-is =
        ap (λ (o : Option ℕ). is_gt (ordering_then (id-cmp i a.identifier) (option_cmp nat_cmp (Some low) o))) (sym is)
        ∙ after

    before-is : is_gt (ordering_then (id-cmp a.identifier i) (nat_cmp n high)) ≡ false
    before-is =
        ap (λ (o : Option ℕ). is_gt (ordering_then (id-cmp a.identifier i) (option_cmp nat_cmp o (Some high)))) (sym is)
        ∙ before

    by : (r : Ordering) → id-cmp i a.identifier ≡ r → (a ≡ asked i (Some n)) × (low ≤ n) × (n ≤ high)
    by Less e =
        absurd (false≢true (sym before-is
        ∙ ap (λ (s : Ordering). is_gt (ordering_then s (nat_cmp n high))) (back ∙ ap ordering_reverse e)))
    by Greater e =
        absurd (false≢true (sym after-is ∙ ap (λ (s : Ordering). is_gt (ordering_then s (nat_cmp low n))) e))
    by Equal e = (
      ap (λ (o : Option (List ℕ)). asked o a.asn) (sym (exact-option (slice_cmp nat_cmp) exact_bytes i a.identifier e))
          ∙ ap (λ (o : Option ℕ). asked i o) is,
      le_from_not_gt low n
          (ap (λ (s : Ordering). is_gt (ordering_then s (nat_cmp low n))) (sym e) ∙ after-is),
      le_from_not_gt n high
          (ap (λ (s : Ordering). is_gt (ordering_then s (nat_cmp n high))) (sym (back ∙ ap ordering_reverse e))
          ∙ before-is),
    )

-- one of these has this AS number
abbrev pub HasNumber : List Asked → ℕ → Type 0
HasNumber es n = (a : Asked) × Contains es a × (a.asn ≡ Some n)

-- those in front of the rest have the numbers that were added to the others
abbrev pub AreAdded : (found : List Asked) (old : List ℕ) (rest : List Asked) (new : List ℕ) → Type 0
AreAdded found old rest new = (n : ℕ) → (Contains new n ⊎ HasNumber rest n) ↔ (Contains old n ⊎ HasNumber found n)

pub added-first : (found : List Asked) (old : List ℕ) → AreAdded found old found old
added-first found old n = (λ h. h, λ h. h)

-- the first has a number, or none
module _ (found : List Asked) (old : List ℕ) (rest following : List Asked) (a : Asked) (new : List ℕ)
    (before : AreAdded found old rest new) (is : rest ≡ a ∷ following) where
  in-rest : (b : Asked) → Contains following b → Contains rest b
  in-rest b h = subst (λ (es : List Asked). Contains es b) (sym is) (tail-in a following b h)

  split : (b : Asked) → Contains rest b → (a ≡ b) ⊎ Contains following b
  split b h = cons-cases a following b (subst (λ (es : List Asked). Contains es b) is h)

  pub added-next : (m : ℕ) → a.asn ≡ Some m → AreAdded found old following (new ++ m ∷ [])
  added-next m has n = (λ h. (before n).0 (to h), λ h. from ((before n).1 h)) where
    number : (x y : ℕ) → Some x ≡ Some y → x ≡ y
    number x y e = cc

    to : Contains (new ++ m ∷ []) n ⊎ HasNumber following n → Contains new n ⊎ HasNumber rest n
    to (inr x) = inr (x.0, in-rest x.0 x.1, x.2)
    to (inl h) = by (Contains-push_cases new m n h) where
      by : Contains new n ⊎ (m ≡ n) → Contains new n ⊎ HasNumber rest n
      by (inl k) = inl k
      by (inr e) =
          inr (a, subst (λ (es : List Asked). Contains es a) (sym is) (head-in a following), has ∙ ap Some e)

    from : Contains new n ⊎ HasNumber rest n → Contains (new ++ m ∷ []) n ⊎ HasNumber following n
    from (inl h) = inl (Contains-append_left new (m ∷ []) n h)
    from (inr x) = by (split x.0 x.1) where
      by : (a ≡ x.0) ⊎ Contains following x.0 → Contains (new ++ m ∷ []) n ⊎ HasNumber following n
      by (inl e) =
          inl (subst (λ (y : ℕ). Contains (new ++ m ∷ []) y)
          (number m n (sym has ∙ ap (λ (b : Asked). b.asn) e ∙ x.2)) (Contains-push new m))
      by (inr h) = inr (x.0, h, x.2)

  pub added-none : a.asn ≡ None → AreAdded found old following new
  added-none has n = (λ h. (before n).0 (to h), λ h. from ((before n).1 h)) where
    to : Contains new n ⊎ HasNumber following n → Contains new n ⊎ HasNumber rest n
    to (inl h) = inl h
    to (inr x) = inr (x.0, in-rest x.0 x.1, x.2)

    other : (o : Option ℕ) → o ≡ None → o ≡ Some n → ⊥
    other o e f = absurd (cc)

    from : Contains new n ⊎ HasNumber rest n → Contains new n ⊎ HasNumber following n
    from (inl h) = inl h
    from (inr x) = by (split x.0 x.1) where
      by : (a ≡ x.0) ⊎ Contains following x.0 → Contains new n ⊎ HasNumber following n
      by (inl e) = absurd (other a.asn has (ap (λ (b : Asked). b.asn) e ∙ x.2))
      by (inr h) = inr (x.0, h, x.2)

-- the numbers of those that were found
pub numbers-are : (ks found rest : List Asked) (old new : List ℕ) (i : Option (List ℕ)) (k : RouterKey)
    → ((a : Asked) → Contains found a ↔ (Contains ks a
    × (is_gt (asked-order.ghosts.cmp (asked i (Some k.first)) a) ≡ false)
    × (is_gt (asked-order.ghosts.cmp a (asked i (Some k.last))) ≡ false)))
    → AreAdded found old rest new → rest ≡ [] → (n : ℕ)
    → Contains new n ↔ (Contains old n ⊎ (IsWithin k n × Contains ks (asked i (Some n))))
numbers-are ks found rest old new i k is added none n = (λ h. to ((added n).0 (inl h)), λ h. end ((added n).1 (from h)))
  where
    to : Contains old n ⊎ HasNumber found n → Contains old n ⊎ (IsWithin k n × Contains ks (asked i (Some n)))
    to (inl h) = inl h
    to (inr x) =
        let g = (is x.0).0 x.1 in
        let f = asked-from i k.first k.last x.0 n x.2 g.1 g.2 in
        inr ((f.1, f.2), subst (λ (a : Asked). Contains ks a) f.0 g.0)

    from : Contains old n ⊎ (IsWithin k n × Contains ks (asked i (Some n))) → Contains old n ⊎ HasNumber found n
    from (inl h) = inl h
    from (inr x) =
        let g = asked-to i k.first k.last n x.0.0 x.0.1 in
        inr (asked i (Some n), (is (asked i (Some n))).1 (x.1, g.0, g.1), refl)

    end : Contains new n ⊎ HasNumber rest n → Contains new n
    end (inl h) = h
    end (inr x) = absurd (none-in x.0 (subst (λ (es : List Asked). Contains es x.0) none x.1))

-- those with the identifier, after those without one
pub both-are : (W A B : Type 0) (none first second : List ℕ) (n : ℕ) → none ≡ []
    → Contains first n ↔ (Contains none n ⊎ (W × A)) → Contains second n ↔ (Contains first n ⊎ (W × B))
    → Contains second n ↔ (W × (A ⊎ B))
both-are W A B none first second n empty one two = (λ h. to (two.0 h), λ x. from x.0 x.1) where
  at-first : Contains none n ⊎ (W × A) → W × (A ⊎ B)
  at-first (inl h) = absurd (none-in n (subst (λ (ns : List ℕ). Contains ns n) empty h))
  at-first (inr x) = (x.0, inl x.1)

  to : Contains first n ⊎ (W × B) → W × (A ⊎ B)
  to (inl h) = at-first (one.0 h)
  to (inr x) = (x.0, inr x.1)

  from : W → A ⊎ B → Contains second n
  from w (inl a) = two.1 (inl (one.1 (inr (w, a))))
  from w (inr b) = two.1 (inr (w, b))

-- ---- what filters take of a key

-- a filter matches the key, and has this AS number, or none
abbrev pub Matches : List KeyFilter → RouterKey → Option ℕ → Type 0
Matches fs k o = (f : KeyFilter) × Contains fs f × (is_of f.identifier k ≡ true) × (f.asn ≡ o)

abbrev pub Takes : List KeyFilter → RouterKey → ℕ → Type 0
Takes fs k n = Matches fs k (Some n)

-- what they leave
abbrev pub IsLeftBy : List KeyFilter → RouterKey → RouterKey → Type 0
IsLeftBy fs k q = (Matches fs k None → ⊥) × IsPart (Takes fs k) k q

-- keys of one identifier are matched by the same
of-same : (o : Option (List ℕ)) (j k : RouterKey) → j.identifier ≡ k.identifier → is_of o j ≡ is_of o k
of-same None j k e = refl
of-same (Some i) j k e = ap (λ (x : List ℕ). bytes_eq x i) e

match-same : (fs : List KeyFilter) (j k : RouterKey) (o : Option ℕ) → j.identifier ≡ k.identifier → Matches fs j o
    → Matches fs k o
match-same fs j k o e m = (m.0, m.1, sym (of-same m.0.identifier j k e) ∙ m.2, m.3)

left-same : (fs : List KeyFilter) (j k q : RouterKey) → j.identifier ≡ k.identifier → IsPart (Takes fs j) j q
    → IsPart (Takes fs k) j q
left-same fs j k q e =
    part-as (Takes fs j) (Takes fs k) j q (λ n w m. match-same fs j k (Some n) e m)
    (λ n w m. match-same fs k j (Some n) (sym e) m)

-- one more filter
module _ (f : KeyFilter) (fs : List KeyFilter) (k : RouterKey) where
  more-cases : (o : Option ℕ) → Matches (f ∷ fs) k o
      → Matches fs k o ⊎ ((is_of f.identifier k ≡ true) × (f.asn ≡ o))
  more-cases o m = by (cons-cases f fs m.0 m.1) where
    by : (f ≡ m.0) ⊎ Contains fs m.0 → Matches fs k o ⊎ ((is_of f.identifier k ≡ true) × (f.asn ≡ o))
    by (inl e) =
        inr (ap (λ (g : KeyFilter). is_of g.identifier k) e ∙ m.2, ap (λ (g : KeyFilter). g.asn) e ∙ m.3)
    by (inr h) = inl (m.0, h, m.2, m.3)

  more-there : (o : Option ℕ) → Matches fs k o → Matches (f ∷ fs) k o
  more-there o m = (m.0, tail-in f fs m.0 m.1, m.2, m.3)

  more-here : (o : Option ℕ) → is_of f.identifier k ≡ true → f.asn ≡ o → Matches (f ∷ fs) k o
  more-here o a b = (f, head-in f fs, a, b)

  -- some key that it leaves, of which the others leave q
  abbrev Through : RouterKey → Type 0
  Through q = (j : RouterKey) × Contains (left_by f k) j × IsLeftBy fs j q

  module _ (q : RouterKey) where
    alone : left_by f k ≡ k ∷ [] → ((o : Option ℕ) → Matches (f ∷ fs) k o → (n : ℕ) → IsWithin k n → o ≡ Some n
        → Matches fs k o) → (Matches (f ∷ fs) k None → Matches fs k None) → Through q ↔ IsLeftBy (f ∷ fs) k q
    alone is same whole = (to, from) where
      at : IsLeftBy fs k q → IsLeftBy (f ∷ fs) k q
      at l = (
        λ m. l.0 (whole m),
        part-as (Takes fs k) (Takes (f ∷ fs) k) k q (λ n w m. more-there (Some n) m)
            (λ n w m. same (Some n) m n w refl) l.1,
      )

      to : Through q → IsLeftBy (f ∷ fs) k q
      to x =
          let e : k ≡ x.0 = one-in k x.0 (subst (λ (ks : List RouterKey). Contains ks x.0) is x.1) in
          at (subst (λ (j : RouterKey). IsLeftBy fs j q) (sym e) x.2)

      from : IsLeftBy (f ∷ fs) k q → Through q
      from l = (
        k,
        subst (λ (ks : List RouterKey). Contains ks k) (sym is) (head-in k []),
        (
          λ m. l.0 (more-there None m),
          part-as (Takes (f ∷ fs) k) (Takes fs k) k q (λ n w m. same (Some n) m n w refl)
              (λ n w m. more-there (Some n) m) l.1,
        ),
      )

    not-of : is_of f.identifier k ≡ false → Through q ↔ IsLeftBy (f ∷ fs) k q
    not-of e =
        alone (ap (λ (b : Bool). if b then without_number f.asn k else k ∷ []) e)
        (λ o m n w s. by o (more-cases o m)) (λ m. by None (more-cases None m))
      where
        by : (o : Option ℕ) → Matches fs k o ⊎ ((is_of f.identifier k ≡ true) × (f.asn ≡ o)) → Matches fs k o
        by o (inl m) = m
        by o (inr x) = absurd (false≢true (sym e ∙ x.0))

    module _ (of : is_of f.identifier k ≡ true) where
      left-is : left_by f k ≡ without_number f.asn k
      left-is = ap (λ (b : Bool). if b then without_number f.asn k else k ∷ []) of

      whole : f.asn ≡ None → Through q ↔ IsLeftBy (f ∷ fs) k q
      whole e = (
        λ x.
            absurd (none-in x.0 (subst (λ (ks : List RouterKey). Contains ks x.0)
            (left-is ∙ ap (λ (o : Option ℕ). without_number o k) e) x.1)),
        λ l. absurd (l.0 (more-here None of e)),
      )

      module _ (n : ℕ) (e : f.asn ≡ Some n) where
        not-none : (o : Option ℕ) → o ≡ Some n → o ≡ None → ⊥
        not-none o a b = absurd (cc)

        none-there : Matches (f ∷ fs) k None → Matches fs k None
        none-there m = by (more-cases None m) where
          by : Matches fs k None ⊎ ((is_of f.identifier k ≡ true) × (f.asn ≡ None)) → Matches fs k None
          by (inl m) = m
          by (inr x) = absurd (not-none f.asn e x.1)

        number : (x y : ℕ) → Some x ≡ Some y → x ≡ y
        number x y s = cc

        takes : (m : ℕ) → Takes (f ∷ fs) k m ↔ (Takes fs k m ⊎ (n ≡ m))
        takes m = (λ h. to (more-cases (Some m) h), from) where
          to : Takes fs k m ⊎ ((is_of f.identifier k ≡ true) × (f.asn ≡ Some m)) → Takes fs k m ⊎ (n ≡ m)
          to (inl h) = inl h
          to (inr x) = inr (number n m (sym e ∙ x.1))

          from : Takes fs k m ⊎ (n ≡ m) → Takes (f ∷ fs) k m
          from (inl h) = more-there (Some m) h
          from (inr s) = more-here (Some m) of (e ∙ ap Some s)

        with-number : left_by f k ≡ without_number (Some n) k
        with-number = left-is ∙ ap (λ (o : Option ℕ). without_number o k) e

        beyond : (nat_lt n k.first || nat_lt k.last n) ≡ true → (IsWithin k n → ⊥) → Through q ↔ IsLeftBy (f ∷ fs) k q
        beyond t not =
            alone
            (with-number ∙ ap (λ (b : Bool). if b then k ∷ [] else below_number n k ++ above_number n k) t)
            (λ o m x w s. by o x w s (more-cases o m)) none-there
          where
            by : (o : Option ℕ) (x : ℕ) → IsWithin k x → o ≡ Some x
                → Matches fs k o ⊎ ((is_of f.identifier k ≡ true) × (f.asn ≡ o)) → Matches fs k o
            by o x w s (inl m) = m
            by o x w s (inr y) =
                absurd (not (subst (λ (z : ℕ). IsWithin k z) (sym (number n x (sym e ∙ y.1 ∙ s))) w))

        inside : (nat_lt n k.first || nat_lt k.last n) ≡ false → IsWithin k n → Through q ↔ IsLeftBy (f ∷ fs) k q
        inside t w = (to, from) where
          is : left_by f k ≡ below_number n k ++ above_number n k
          is = with-number ∙ ap (λ (b : Bool). if b then k ∷ [] else below_number n k ++ above_number n k) t

          beside : (j : RouterKey) → Contains (below_number n k) j ⊎ Contains (above_number n k) j → IsLeftBy fs j q
              → (Matches fs k None → ⊥) × IsBeside (Takes fs k) n k q
          beside j (inl h) l =
              let c = below-cases n k j h in
              let b = subst (λ (x : RouterKey). IsLeftBy fs x q) (sym c.1) l in (
                λ m. b.0 (match-same fs k (below n k) None refl m),
                inl (c.0, left-same fs (below n k) k q refl b.1),
              )
          beside j (inr h) l =
              let c = above-cases n k j h in
              let b = subst (λ (x : RouterKey). IsLeftBy fs x q) (sym c.1) l in (
                λ m. b.0 (match-same fs k (above n k) None refl m),
                inr (c.0, left-same fs (above n k) k q refl b.1),
              )

          to : Through q → IsLeftBy (f ∷ fs) k q
          to x =
              let b =
              beside x.0 (Contains-append_cases (below_number n k) (above_number n k) x.0
              (subst (λ (ks : List RouterKey). Contains ks x.0) is x.1)) x.2 in (
                λ m. b.0 (none-there m),
                beside-from (Takes fs k) (Takes (f ∷ fs) k) n takes k q w b.1,
              )

          from : IsLeftBy (f ∷ fs) k q → Through q
          from l = by (beside-to (Takes fs k) (Takes (f ∷ fs) k) n takes k q w l.1) where
            by : IsBeside (Takes fs k) n k q → Through q
            by (inl x) = (
              below n k,
              subst (λ (ks : List RouterKey). Contains ks (below n k)) (sym is)
                  (Contains-append_left (below_number n k) (above_number n k) (below n k)
                  (below-in n k (below n k) x.0 refl)),
              (
                λ m. l.0 (more-there None (match-same fs (below n k) k None refl m)),
                part-as (Takes fs k) (Takes fs (below n k)) (below n k) q
                    (λ y v m. match-same fs k (below n k) (Some y) refl m)
                    (λ y v m. match-same fs (below n k) k (Some y) refl m) x.1,
              ),
            )
            by (inr x) = (
              above n k,
              subst (λ (ks : List RouterKey). Contains ks (above n k)) (sym is)
                  (Contains-append_right (below_number n k) (above_number n k) (above n k)
                  (above-in n k (above n k) x.0 refl)),
              (
                λ m. l.0 (more-there None (match-same fs (above n k) k None refl m)),
                part-as (Takes fs k) (Takes fs (above n k)) (above n k) q
                    (λ y v m. match-same fs k (above n k) (Some y) refl m)
                    (λ y v m. match-same fs (above n k) k (Some y) refl m) x.1,
              ),
            )

        numbered : Through q ↔ IsLeftBy (f ∷ fs) k q
        numbered = by (nat_lt n k.first) (nat_lt k.last n) refl refl where
          by : (a b : Bool) → nat_lt n k.first ≡ a → nat_lt k.last n ≡ b → Through q ↔ IsLeftBy (f ∷ fs) k q
          by true b u v =
              let lt = ltb-true n k.first u in
              beyond (ap (λ (x : Bool). x || nat_lt k.last n) u) (λ w. absurd (omega (arith, lt, w.0)))
          by false true u v =
              let lt = ltb-true k.last n v in
              beyond (ap (λ (x : Bool). x || nat_lt k.last n) u ∙ v) (λ w. absurd (omega (arith, lt, w.1)))
          by false false u v =
              inside (ap (λ (x : Bool). x || nat_lt k.last n) u ∙ v)
              (ltb-false n k.first u, ltb-false k.last n v)

      matched : (o : Option ℕ) → f.asn ≡ o → Through q ↔ IsLeftBy (f ∷ fs) k q
      matched None e = whole e
      matched (Some n) e = numbered n e

    pub through : Through q ↔ IsLeftBy (f ∷ fs) k q
    through = by (is_of f.identifier k) refl where
      by : (b : Bool) → is_of f.identifier k ≡ b → Through q ↔ IsLeftBy (f ∷ fs) k q
      by true e = matched e f.asn refl
      by false e = not-of e

-- ---- what filters leave of keys

-- one of them leaves it of one of the keys
abbrev pub AmongLeft : (RouterKey → RouterKey → Type 0) → List RouterKey → RouterKey → Type 0
AmongLeft Left ks q = (k : RouterKey) × Contains ks k × Left k q

module _ {A B : Type 0} (f : A → List B) where
  flat-cases : (xs : List A) (y : B) → Contains (flat_map f xs) y → (x : A) × Contains xs x × Contains (f x) y
  flat-cases [] y h = absurd (none-in y h)
  flat-cases (x ∷ xs) y h = by (λ k. flat-cases xs y k) (Contains-append_cases (f x) (flat_map f xs) y h) where
    by : (Contains (flat_map f xs) y → (z : A) × Contains xs z × Contains (f z) y)
        → Contains (f x) y ⊎ Contains (flat_map f xs) y → (z : A) × Contains (x ∷ xs) z × Contains (f z) y
    by others (inl k) = (x, head-in x xs, k)
    by others (inr k) = let g = others k in (g.0, tail-in x xs g.0 g.1, g.2)

  flat-in : (xs : List A) (x : A) (y : B) → Contains xs x → Contains (f x) y → Contains (flat_map f xs) y
  flat-in [] x y h k = absurd (none-in x h)
  flat-in (z ∷ xs) x y h k = by (λ there. flat-in xs x y there k) (cons-cases z xs x h) where
    by : (Contains xs x → Contains (flat_map f xs) y) → (z ≡ x) ⊎ Contains xs x → Contains (f z ++ flat_map f xs) y
    by others (inl e) =
        Contains-append_left (f z) (flat_map f xs) y (subst (λ (w : A). Contains (f w) y) (sym e) k)
    by others (inr there) = Contains-append_right (f z) (flat_map f xs) y (others there)

pub left-all : (fs : List KeyFilter) (ks : List RouterKey) (q : RouterKey)
    → Contains (left_by_all fs ks) q ↔ AmongLeft (IsLeftBy fs) ks q
left-all [] ks q = (to, from) where
  none : (k : RouterKey) (o : Option ℕ) → Matches [] k o → ⊥
  none k o m = none-in m.0 m.1

  to : Contains ks q → AmongLeft (IsLeftBy []) ks q
  to h = (q, h, (λ m. none q None m, whole-part (Takes [] q) q (λ n w m. none q (Some n) m)))

  from : AmongLeft (IsLeftBy []) ks q → Contains ks q
  from x =
      let e = whole-is (Takes [] x.0) x.0 (λ n w m. none x.0 (Some n) m) q x.2.1 in
      subst (λ (k : RouterKey). Contains ks k) e x.1
left-all (f ∷ fs) ks q =
    let others = left-all fs (flat_map (left_by f) ks) q in (λ h. to (others.0 h), λ x. others.1 (from x))
  where
    to : AmongLeft (IsLeftBy fs) (flat_map (left_by f) ks) q → AmongLeft (IsLeftBy (f ∷ fs)) ks q
    to x = let g = flat-cases (left_by f) ks x.0 x.1 in (g.0, g.1, (through f fs g.0 q).0 (x.0, g.2, x.2))

    from : AmongLeft (IsLeftBy (f ∷ fs)) ks q → AmongLeft (IsLeftBy fs) (flat_map (left_by f) ks) q
    from x =
        let t = (through f fs x.0 q).1 x.2 in (t.0, flat-in (left_by f) ks x.0 t.0 x.1 t.1, t.2)

-- ---- by what the filters ask

module _ (fs : List KeyFilter) (all : List Asked) (is : (a : Asked) → Contains all a ↔ IsAskedBy fs a)
    (k : RouterKey) where
  asks-to : (o : Option ℕ) → Contains all (asked None o) ⊎ Contains all (asked (Some k.identifier) o) → Matches fs k o
  asks-to o (inl h) = let a = (is (asked None o)).0 h in (
    a.0,
    a.1,
    ap (λ (b : Asked). is_of b.identifier k) a.2,
    ap (λ (b : Asked). b.asn) a.2,
  )
  asks-to o (inr h) = let a = (is (asked (Some k.identifier) o)).0 h in (
    a.0,
    a.1,
    ap (λ (b : Asked). is_of b.identifier k) a.2 ∙ itself (bytes_eq-Decides k.identifier k.identifier),
    ap (λ (b : Asked). b.asn) a.2,
  )
    where
      itself : Decides (bytes_eq k.identifier k.identifier) (k.identifier ≡ k.identifier)
          → bytes_eq k.identifier k.identifier ≡ true
      itself d = d.1 refl

  asks-from : (o : Option ℕ) → Matches fs k o → Contains all (asked None o) ⊎ Contains all (asked (Some k.identifier) o)
  asks-from o m = by m.0.identifier refl where
    same : (i : Option (List ℕ)) → m.0.identifier ≡ i → asked_by m.0 ≡ asked i o
    same i e =
        ap (λ (j : Option (List ℕ)). asked j m.0.asn) e ∙ ap (λ (n : Option ℕ). asked i n) m.3

    same-text : (i : List ℕ) → m.0.identifier ≡ Some i → Decides (bytes_eq k.identifier i) (k.identifier ≡ i)
        → k.identifier ≡ i
    same-text i e d = d.0 (ap (λ (j : Option (List ℕ)). is_of j k) (sym e) ∙ m.2)

    by : (i : Option (List ℕ)) → m.0.identifier ≡ i
        → Contains all (asked None o) ⊎ Contains all (asked (Some k.identifier) o)
    by None e = inl ((is (asked None o)).1 (m.0, m.1, same None e))
    by (Some i) e =
        inr ((is (asked (Some k.identifier) o)).1 (
          m.0,
          m.1,
          same (Some i) e
              ∙ ap (λ (j : List ℕ). asked (Some j) o) (sym (same-text i e (bytes_eq-Decides k.identifier i))),
        ))

  pub asked-left : (q : RouterKey) → IsLeftOf all k q ↔ IsLeftBy fs k q
  asked-left q = (
    λ l. (
      λ m. l.0 (asks-from None m),
      part-as (AsksFor all k) (Takes fs k) k q (λ n w h. asks-to (Some n) h) (λ n w h. asks-from (Some n) h) l.1,
    ),
    λ l. (
      λ m. l.0 (asks-to None m),
      part-as (Takes fs k) (AsksFor all k) k q (λ n w h. asks-from (Some n) h) (λ n w h. asks-to (Some n) h) l.1,
    ),
  )

-- what filters leave of a key, by its numbers
pub left-parts : (all : List Asked) (k : RouterKey) (ns seen : List ℕ) (old new : List RouterKey) → seen ≡ ns
    → ((n : ℕ) → Contains ns n ↔ (IsWithin k n × AsksFor all k n)) → (AsksAll all k → ⊥)
    → ((q : RouterKey) → Contains new q ↔ (Contains old q ⊎ IsPart (Contains seen) k q)) → (q : RouterKey)
    → Contains new q ↔ (Contains old q ⊎ IsLeftOf all k q)
left-parts all k ns seen old new is each not step q = (λ h. to ((step q).0 h), λ h. (step q).1 (from h)) where
  there : (n : ℕ) → IsWithin k n → Contains seen n → AsksFor all k n
  there n w h = ((each n).0 (subst (λ (xs : List ℕ). Contains xs n) is h)).1

  back : (n : ℕ) → IsWithin k n → AsksFor all k n → Contains seen n
  back n w a = subst (λ (xs : List ℕ). Contains xs n) (sym is) ((each n).1 (w, a))

  to : Contains old q ⊎ IsPart (Contains seen) k q → Contains old q ⊎ IsLeftOf all k q
  to (inl h) = inl h
  to (inr p) = inr (not, part-as (Contains seen) (AsksFor all k) k q there back p)

  from : Contains old q ⊎ IsLeftOf all k q → Contains old q ⊎ IsPart (Contains seen) k q
  from (inl h) = inl h
  from (inr l) = inr (part-as (AsksFor all k) (Contains seen) k q back there l.1)

-- ---- one key after another

-- what filters leave of those in front of the rest is there
abbrev pub AreLeft : (all : List Asked) (ks rest left : List RouterKey) → Type 0
AreLeft all ks rest left =
    (q : RouterKey) → (Contains left q ⊎ AmongLeft (IsLeftOf all) rest q) ↔ AmongLeft (IsLeftOf all) ks q

pub left-first : (all : List Asked) (ks left : List RouterKey) → left ≡ [] → AreLeft all ks ks left
left-first all ks left none q = (by, λ h. inr h) where
  by : Contains left q ⊎ AmongLeft (IsLeftOf all) ks q → AmongLeft (IsLeftOf all) ks q
  by (inl h) = absurd (none-in q (subst (λ (xs : List RouterKey). Contains xs q) none h))
  by (inr h) = h

pub left-next : (all : List Asked) (ks rest following : List RouterKey) (k : RouterKey) (old new : List RouterKey)
    → AreLeft all ks rest old → rest ≡ k ∷ following
    → ((q : RouterKey) → Contains new q ↔ (Contains old q ⊎ IsLeftOf all k q)) → AreLeft all ks following new
left-next all ks rest following k old new before is step q = (
  λ h. (before q).0 (to h),
  λ h. from ((before q).1 h),
)
  where
    at : IsLeftOf all k q → AmongLeft (IsLeftOf all) rest q
    at l = (k, subst (λ (xs : List RouterKey). Contains xs k) (sym is) (head-in k following), l)

    first : Contains old q ⊎ IsLeftOf all k q → Contains old q ⊎ AmongLeft (IsLeftOf all) rest q
    first (inl h) = inl h
    first (inr l) = inr (at l)

    to : Contains new q ⊎ AmongLeft (IsLeftOf all) following q → Contains old q ⊎ AmongLeft (IsLeftOf all) rest q
    to (inl h) = first ((step q).0 h)
    to (inr x) =
        inr (x.0, subst (λ (xs : List RouterKey). Contains xs x.0) (sym is) (tail-in k following x.0 x.1), x.2)

    here : (j : RouterKey) → IsLeftOf all j q → (k ≡ j) ⊎ Contains following j
        → Contains new q ⊎ AmongLeft (IsLeftOf all) following q
    here j l (inl e) = inl ((step q).1 (inr (subst (λ (x : RouterKey). IsLeftOf all x q) (sym e) l)))
    here j l (inr h) = inr (j, h, l)

    from : Contains old q ⊎ AmongLeft (IsLeftOf all) rest q → Contains new q ⊎ AmongLeft (IsLeftOf all) following q
    from (inl h) = inl ((step q).1 (inl h))
    from (inr x) =
        here x.0 x.2 (cons-cases k following x.0 (subst (λ (xs : List RouterKey). Contains xs x.0) is x.1))

pub left-end : (fs : List KeyFilter) (all : List Asked) (ks rest left : List RouterKey)
    → ((a : Asked) → Contains all a ↔ IsAskedBy fs a) → AreLeft all ks rest left → rest ≡ [] → (q : RouterKey)
    → Contains left q ↔ Contains (left_by_all fs ks) q
left-end fs all ks rest left is h none q = (
  λ c. let x = (h q).0 (inl c) in (left-all fs ks q).1 (x.0, x.1, (asked-left fs all is x.0 q).0 x.2),
  λ c. let x = (left-all fs ks q).0 c in by ((h q).1 (x.0, x.1, (asked-left fs all is x.0 q).1 x.2)),
)
  where
    by : Contains left q ⊎ AmongLeft (IsLeftOf all) rest q → Contains left q
    by (inl c) = c
    by (inr x) = absurd (none-in x.0 (subst (λ (xs : List RouterKey). Contains xs x.0) none x.1))
