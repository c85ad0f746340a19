-- Authorities that were met: marks are in a total order, in which equal ones alone are level; a mark is added to a set.
use Rattle.std.proofs.Common.{◌≡◌, ◌⊎◌, ◌∙◌, ◌<◌, ◌||◌, not, inl, inr, ℕ, Bool, true, false}
use Rattle.std.proofs.Common.{Option, Some, None, List, [], ◌∷◌, map, ap, subst, sym}
use Rattle.std.proofs.Common.{refl, arith, Ordering, Less, Equal, Greater}
use Rattle.std.proofs.lemmas.List.Elements.{Contains-append_left, Contains-append_right, Contains-append_cases}
use Rattle.std.proofs.lemmas.List.Elements.{Contains-push, Contains-push_cases}
use Rattle.std.proofs.lemmas.Map.Lookups.{exact_bytes}
use Rattle.std.specs.BTreeSet.{BTreeSet}
use Rattle.std.specs.Bool.{OnFalse, OnTrue}
use Rattle.std.specs.Cmp.Lexicographic.{slice_cmp}
use Rattle.std.specs.BTreeSet.{contains_by, insert_key}
use Rattle.std.specs.BTreeMap.{is_at}
use Rattle.std.proofs.lemmas.Cmp.{lists_total, nat_cmp_total, on_total, ranked, then_total, tied_itself}
use Rattle.std.specs.Cmp.{IsTotalOrder}
use Rattle.std.specs.Cmp.Lexicographic.{options_total}
use Rattle.rpki_validation.specs.Counts.{kinds_cmp, mark_cmp}
use Rattle.std.specs.List.{Contains, list_any}
use Rattle.std.specs.Option.{option_cmp}
use Rattle.std.specs.Ordering.{MatchOrdering, is_eq, match_ordering, nat_cmp, ordering_then}
use Rattle.rpki_resources.specs.declared.block.Block.{Block}
use Rattle.rpki_resources.specs.Equal.{block_cmp, blocks_cmp}
use Rattle.rpki_resources.specs.EqualLaws.{blocks_are_in_order}
use Rattle.rpki_valid.specs.declared.resource.set.ResourceSet.{ResourceSet}
use Rattle.rpki_validation.specs.Met.{Inserts, Kinds, Mark, kinds_of, mark, mark_in, marks_of}

-- ---- lists

module _ {X : Type 0} where
  pub head-in : (x : X) (xs : List X) → Contains (x ∷ xs) x
  head-in x xs = Contains-append_left (x ∷ []) xs x (Contains-push [] x)

  pub tail-in : (x : X) (xs : List X) (y : X) → Contains xs y → Contains (x ∷ xs) y
  tail-in x xs y h = Contains-append_right (x ∷ []) xs y h

  pub none-in : (y : X) → Contains [] y → ⊥
  none-in y h = absurd (omega (arith, h.1))

  pub one-in : (x y : X) → Contains (x ∷ []) y → x ≡ y
  one-in x y h = only (Contains-push_cases [] x y h)
    where
      only : Contains [] y ⊎ (x ≡ y) → x ≡ y
      only (inl k) = absurd (none-in y k)
      only (inr k) = k

  pub cons-cases : (x : X) (xs : List X) (y : X) → Contains (x ∷ xs) y → (x ≡ y) ⊎ Contains xs y
  cons-cases x xs y h = cases (Contains-append_cases (x ∷ []) xs y h)
    where
      cases : Contains (x ∷ []) y ⊎ Contains xs y → (x ≡ y) ⊎ Contains xs y
      cases (inl k) = inl (one-in x y k)
      cases (inr k) = inr k

-- ---- marks

-- a key of a set stands for f of it, and equal keys for the same
module _ {K M : Type 0} (cmp : K → K → Ordering) (f : K → M) (k : K)
    (same : (x : K) → cmp k x ≡ Equal → f k ≡ f x) where
  abbrev Put : K → List K → Ordering → List K
  Put x xs o = match_ordering o (k ∷ x ∷ xs) (x ∷ xs) (x ∷ insert_key cmp xs k)

  pub inserted-in : (xs : List K) → Contains (map f (insert_key cmp xs k)) (f k)
  inserted-in [] = head-in (f k) []
  inserted-in (x ∷ xs) = by (inserted-in xs) (cmp k x) refl
    where
      by : Contains (map f (insert_key cmp xs k)) (f k) → (o : Ordering) → cmp k x ≡ o
          → Contains (map f (Put x xs o)) (f k)
      by c Less e = head-in (f k) (map f (x ∷ xs))
      by c Equal e = subst (λ (m : M). Contains (f x ∷ map f xs) m) (sym (same x e)) (head-in (f x) (map f xs))
      by c Greater e = tail-in (f x) (map f (insert_key cmp xs k)) (f k) c

  pub inserted-old : (xs : List K) (m : M) → Contains (map f xs) m → Contains (map f (insert_key cmp xs k)) m
  inserted-old [] m h = absurd (none-in m h)
  inserted-old (x ∷ xs) m h = by (inserted-old xs m) (cmp k x)
    where
      later : (Contains (map f xs) m → Contains (map f (insert_key cmp xs k)) m)
          → (f x ≡ m) ⊎ Contains (map f xs) m → Contains (f x ∷ map f (insert_key cmp xs k)) m
      later more (inl e) =
          subst (λ (n : M). Contains (f x ∷ map f (insert_key cmp xs k)) n) e
          (head-in (f x) (map f (insert_key cmp xs k)))
      later more (inr c) = tail-in (f x) (map f (insert_key cmp xs k)) m (more c)

      by : (Contains (map f xs) m → Contains (map f (insert_key cmp xs k)) m) → (o : Ordering)
          → Contains (map f (Put x xs o)) m
      by more Less = tail-in (f k) (map f (x ∷ xs)) m h
      by more Equal = h
      by more Greater = later more (cons-cases (f x) (map f xs) m h)

  pub inserted-only : (xs : List K) (m : M) → Contains (map f (insert_key cmp xs k)) m
      → Contains (map f xs) m ⊎ (m ≡ f k)
  inserted-only [] m h = inr (sym (one-in (f k) m h))
  inserted-only (x ∷ xs) m h = by (inserted-only xs m) (cmp k x) h
    where
      first : (f k ≡ m) ⊎ Contains (map f (x ∷ xs)) m → Contains (map f (x ∷ xs)) m ⊎ (m ≡ f k)
      first (inl e) = inr (sym e)
      first (inr c) = inl c

      deeper : Contains (map f xs) m ⊎ (m ≡ f k) → Contains (map f (x ∷ xs)) m ⊎ (m ≡ f k)
      deeper (inl c) = inl (tail-in (f x) (map f xs) m c)
      deeper (inr e) = inr e

      later : (Contains (map f (insert_key cmp xs k)) m → Contains (map f xs) m ⊎ (m ≡ f k))
          → (f x ≡ m) ⊎ Contains (map f (insert_key cmp xs k)) m → Contains (map f (x ∷ xs)) m ⊎ (m ≡ f k)
      later more (inl e) = inl (subst (λ (n : M). Contains (f x ∷ map f xs) n) e (head-in (f x) (map f xs)))
      later more (inr c) = deeper (more c)

      by : (Contains (map f (insert_key cmp xs k)) m → Contains (map f xs) m ⊎ (m ≡ f k)) → (o : Ordering)
          → Contains (map f (Put x xs o)) m → Contains (map f (x ∷ xs)) m ⊎ (m ≡ f k)
      by more Less c = first (cons-cases (f k) (map f (x ∷ xs)) m c)
      by more Equal c = inl c
      by more Greater c = later more (cons-cases (f x) (map f (insert_key cmp xs k)) m c)

-- ---- what is level in an order is equal

pub both-equal : (o p : Ordering) → ordering_then o p ≡ Equal → (o ≡ Equal) × (p ≡ Equal)
both-equal Less p e = grind (arith, e)
both-equal Equal p e = (refl, e)
both-equal Greater p e = grind (arith, e)

pub nat-equal : (k n : ℕ) → nat_cmp k n ≡ Equal → k ≡ n
nat-equal k n e = by (nat_cmp k n) e (ranked k n _ refl) where
  by : (o : Ordering) → o ≡ Equal → MatchOrdering o (k < n) (k ≡ n) (n < k) → k ≡ n
  by Less e h = absurd (cc)
  by Equal e h = h
  by Greater e h = absurd (cc)

abbrev octets_cmp : List ℕ → List ℕ → Ordering
octets_cmp = slice_cmp nat_cmp

equal-option : (p q : Option (List ℕ)) → option_cmp octets_cmp p q ≡ Equal → p ≡ q
equal-option None None e = refl
equal-option None (Some q) e = grind (arith, e)
equal-option (Some p) None e = grind (arith, e)
equal-option (Some p) (Some q) e = ap (λ (o : List ℕ). Some o) (exact_bytes p q e)

abbrev block : ℕ → ℕ → Block
block low high = record { low = low; high = high }

equal-blocks : (x y : List Block) → blocks_cmp x y ≡ Equal → x ≡ y
equal-blocks [] [] e = refl
equal-blocks [] (c ∷ cs) e = absurd (cc)
equal-blocks (b ∷ bs) [] e = absurd (cc)
equal-blocks (b ∷ bs) (c ∷ cs) e =
    let k = both-equal (block_cmp b c) (blocks_cmp bs cs) e in
    let one = both-equal (nat_cmp b.low c.low) (nat_cmp b.high c.high) k.0 in
    ap (λ (n : ℕ). block n b.high ∷ bs) (nat-equal b.low c.low one.0)
    ∙ ap (λ (n : ℕ). block c.low n ∷ bs) (nat-equal b.high c.high one.1)
    ∙ ap (λ (l : List Block). c ∷ l) (equal-blocks bs cs k.1)

abbrev kinds : List Block → List Block → List Block → Kinds
kinds v4 v6 asn = (v4, v6, asn)

equal-kinds : (x y : Kinds) → kinds_cmp x y ≡ Equal → x ≡ y
equal-kinds x y e =
    let two = both-equal _ _ e in
    let one = both-equal _ _ two.0 in
    ap (λ (l : List Block). kinds l x.1 x.2) (equal-blocks x.0 y.0 one.0)
    ∙ ap (λ (l : List Block). kinds y.0 l x.2) (equal-blocks x.1 y.1 one.1)
    ∙ ap (λ (l : List Block). kinds y.0 y.1 l) (equal-blocks x.2 y.2 two.1)

pub equal-parts : (x y : Mark) → x.name ≡ y.name → x.key ≡ y.key → x.folder ≡ y.folder → x.manifest ≡ y.manifest
    → x.numbers ≡ y.numbers → x.resources ≡ y.resources → x ≡ y
equal-parts x y name key folder manifest numbers resources =
    ap (λ (o : List ℕ). mark o x.key x.folder x.manifest x.numbers x.resources) name
    ∙ ap (λ (o : List ℕ). mark y.name o x.folder x.manifest x.numbers x.resources) key
    ∙ ap (λ (o : Option (List ℕ)). mark y.name y.key o x.manifest x.numbers x.resources) folder
    ∙ ap (λ (o : Option (List ℕ)). mark y.name y.key y.folder o x.numbers x.resources) manifest
    ∙ ap (λ (n : List ℕ). mark y.name y.key y.folder y.manifest n x.resources) numbers
    ∙ ap (λ (k : Kinds). mark y.name y.key y.folder y.manifest y.numbers k) resources

pub mark-equal : (x y : Mark) → mark_cmp x y ≡ Equal → x ≡ y
mark-equal x y e =
    let five = both-equal _ _ e in
    let four = both-equal _ _ five.0 in
    let three = both-equal _ _ four.0 in
    let two = both-equal _ _ three.0 in
    let one = both-equal _ _ two.0 in
    equal-parts x y (exact_bytes x.name y.name one.0) (exact_bytes x.key y.key one.1)
    (equal-option x.folder y.folder two.1) (equal-option x.manifest y.manifest three.1)
    (exact_bytes x.numbers y.numbers four.1) (equal-kinds x.resources y.resources five.1)

-- ---- the order

kinds-total : IsTotalOrder kinds_cmp
kinds-total =
    then_total
    (then_total (on_total (λ (k : Kinds). k.0) blocks_are_in_order) (on_total (λ (k : Kinds). k.1) blocks_are_in_order))
    (on_total (λ (k : Kinds). k.2) blocks_are_in_order)

pub mark-total : IsTotalOrder mark_cmp
mark-total =
    then_total
    (then_total
    (then_total
    (then_total
    (then_total (on_total (λ (m : Mark). m.name) (lists_total nat_cmp_total))
    (on_total (λ (m : Mark). m.key) (lists_total nat_cmp_total)))
    (on_total (λ (m : Mark). m.folder) (options_total (lists_total nat_cmp_total))))
    (on_total (λ (m : Mark). m.manifest) (options_total (lists_total nat_cmp_total))))
    (on_total (λ (m : Mark). m.numbers) (lists_total nat_cmp_total)))
    (on_total (λ (m : Mark). m.resources) kinds-total)

module _ {V : Type 0} (numbers : V → List ℕ) where
  abbrev pub Key : Type 0
  Key = List ℕ × List ℕ × Option (List ℕ) × Option (List ℕ) × V × Kinds

  abbrev pub Order : Key → Key → Ordering
  Order x y =
      ordering_then (ordering_then (ordering_then (ordering_then (ordering_then (octets_cmp x.0 y.0)
      (octets_cmp x.1 y.1)) (option_cmp octets_cmp x.2 y.2)) (option_cmp octets_cmp x.3 y.3))
      (octets_cmp (numbers x.4) (numbers y.4))) (kinds_cmp x.5 y.5)

  pub same-mark : (x y : Key) → Order x y ≡ Equal → mark_in numbers x ≡ mark_in numbers y
  same-mark x y e = mark-equal (mark_in numbers x) (mark_in numbers y) e

  module _ (k : Key) where
    any-first : (b c : Bool) → b ≡ true → (b || c) ≡ true
    any-first true c e = refl
    any-first false c e = absurd (cc)

    any-later : (b c : Bool) → c ≡ true → (b || c) ≡ true
    any-later true c e = refl
    any-later false c e = e

    -- a key with the mark is found
    among : (ks : List Key) → Contains (map (mark_in numbers) ks) (mark_in numbers k)
        → list_any (is_at (Order k)) ks ≡ true
    among [] h = absurd (none-in (mark_in numbers k) h)
    among (x ∷ ks) h =
        by (among ks) (cons-cases (mark_in numbers x) (map (mark_in numbers) ks) (mark_in numbers k) h) where
          by : (Contains (map (mark_in numbers) ks) (mark_in numbers k) → list_any (is_at (Order k)) ks ≡ true)
              → (mark_in numbers x ≡ mark_in numbers k) ⊎ Contains (map (mark_in numbers) ks) (mark_in numbers k)
              → list_any (is_at (Order k)) (x ∷ ks) ≡ true
          by more (inl same) =
              any-first (is_eq (Order k x)) (list_any (is_at (Order k)) ks) (ap is_eq
              (subst (λ (m : Mark). mark_cmp (mark_in numbers k) m ≡ Equal) (sym same)
              (tied_itself mark-total (mark_in numbers k))))
          by more (inr there) = any-later (is_eq (Order k x)) (list_any (is_at (Order k)) ks) (more there)

  -- a mark is added to a set
  pub inserts : (s t : BTreeSet Key) (k : Key) (is_new : Bool) → t.keys ≡ insert_key Order s.keys k
      → OnFalse is_new (t.keys ≡ s.keys) → is_new ≡ not (contains_by (Order k) s)
      → Inserts (marks_of numbers s) (marks_of numbers t) (mark_in numbers k) is_new
  inserts s t k is_new e unchanged told = record {
    added = subst (λ (ks : List Key). Contains (map (mark_in numbers) ks) (mark_in numbers k)) (sym e)
        (inserted-in Order (mark_in numbers) k (same-mark k) s.keys);
    kept = λ m h. inserted-only Order (mark_in numbers) k (same-mark k) s.keys m
        (subst (λ (ks : List Key). Contains (map (mark_in numbers) ks) m) e h);
    old = λ m h. subst (λ (ks : List Key). Contains (map (mark_in numbers) ks) m) (sym e)
        (inserted-old Order (mark_in numbers) k (same-mark k) s.keys m h);
    same = then is_new unchanged;
    fresh = unless is_new told;
  } where
    unless : (b : Bool) → b ≡ not (contains_by (Order k) s)
        → OnTrue b (Contains (marks_of numbers s) (mark_in numbers k) → ⊥)
    unless false told = tt
    unless true told = λ h. no (contains_by (Order k) s) (among k s.keys h) told where
      no : (c : Bool) → c ≡ true → true ≡ not c → ⊥
      no true e f = absurd (cc)
      no false e f = absurd (cc)

    then : (b : Bool) → OnFalse b (t.keys ≡ s.keys) → OnFalse b (marks_of numbers t ≡ marks_of numbers s)
    then true h = tt
    then false h = ap (λ (ks : List Key). map (mark_in numbers) ks) h

-- ---- numbers and resources

abbrev pub head_of : List ℕ → ℕ
head_of [] = 0
head_of (x ∷ xs) = x

abbrev pub tail_of : List ℕ → List ℕ
tail_of [] = []
tail_of (x ∷ xs) = xs

abbrev resources_of : List Block → List Block → List Block → ResourceSet
resources_of v4 v6 asn = record { ipv4 = v4; ipv6 = v6; asn = asn }

-- no other resources are of these kinds
pub same-kinds : (x y : ResourceSet) → kinds_of x ≡ kinds_of y → x ≡ y
same-kinds x y e = ap (λ (k : Kinds). resources_of k.0 k.1 k.2) e
