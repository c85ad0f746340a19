-- What is among a list, one by one.
use Rattle.std.proofs.Common.{◌≡◌, ◌↔◌, ◌⊎◌, ◌++◌, inl, inr, List, [], ◌∷◌, sym, subst, arith}
use Rattle.std.proofs.lemmas.List.Elements.{Contains-append_left, Contains-append_right, Contains-append_cases}
use Rattle.std.proofs.lemmas.List.Elements.{Contains-push, Contains-push_cases}
use Rattle.std.specs.List.{Contains}

module _ {X : Type 0} where
  pub head-in : (x : X) (xs : List X) → Contains (x ∷ xs) x
  head-in x xs = Contains-append_left (x ∷ []) xs x (Contains-push [] x)

  pub tail-in : (x : X) (xs : List X) (y : X) → Contains xs y → Contains (x ∷ xs) y
  tail-in x xs y h = Contains-append_right (x ∷ []) xs y h

  pub none-in : (y : X) → Contains [] y → ⊥
  none-in y h = absurd (omega (arith, h.1))

  pub one-in : (x y : X) → Contains (x ∷ []) y → x ≡ y
  one-in x y h = only (Contains-push_cases [] x y h)
    where
      only : Contains [] y ⊎ (x ≡ y) → x ≡ y
      only (inl k) = absurd (none-in y k)
      only (inr k) = k

  pub cons-cases : (x : X) (xs : List X) (y : X) → Contains (x ∷ xs) y → (x ≡ y) ⊎ Contains xs y
  cons-cases x xs y h = cases (Contains-append_cases (x ∷ []) xs y h)
    where
      cases : Contains (x ∷ []) y ⊎ Contains xs y → (x ≡ y) ⊎ Contains xs y
      cases (inl k) = inl (one-in x y k)
      cases (inr k) = inr k

-- ---- whether P is true of one of a list, which is looked for

abbrev pub One : {X : Type 0} → List X → (X → Type 0) → Type 0
One {X} xs P = (x : X) × Contains xs x × P x

-- what is looked for is found in all exactly where it is in the rest
abbrev pub IsLeft : {X : Type 0} → List X → List X → (X → Type 0) → Type 0
IsLeft all rest P = One all P ↔ One rest P

module _ {X : Type 0} (all rest following : List X) (first : X) (P : X → Type 0) where
  -- the first is none
  pub not-first : IsLeft all rest P → rest ≡ first ∷ following → (P first → ⊥) → IsLeft all following P
  not-first left is none = (
    λ o. on (subst (λ r. One r P) is (left.0 o)),
    λ o. left.1 (subst (λ r. One r P) (sym is)
        (o.0, tail-in first following o.0 o.1, o.2)),
  )
    where
      by : (x : X) → P x → (first ≡ x) ⊎ Contains following x → One following P
      by x p (inl e) = absurd (none (subst P (sym e) p))
      by x p (inr h) = (x, h, p)

      on : One (first ∷ following) P → One following P
      on o = by o.0 o.2 (cons-cases first following o.0 o.1)

-- none remains
pub none-left : {X : Type 0} (all rest : List X) (P : X → Type 0) → IsLeft all rest P → rest ≡ [] → One all P → ⊥
none-left all rest P left is o =
    let k = subst (λ r. One r P) is (left.0 o) in none-in k.0 k.1

-- ---- what is kept of a list, in sequence

-- kept are those in front of the rest that Out isn't true of
pub record IsKeptOf {X : Type 0} (Out : X → Type 0) (all rest kept : List X) : Type 0 where
  pub in_all : (x : X) → Contains rest x → Contains all x
  pub only : (x : X) → Contains kept x → Contains all x × (Out x → ⊥)
  pub each : (x : X) → Contains all x → (Out x → ⊥) → Contains kept x ⊎ Contains rest x

module _ {X : Type 0} (Out : X → Type 0) (all rest following kept : List X) (first : X)
    (is : rest ≡ first ∷ following) (h : IsKeptOf Out all rest kept) where
  among : (x : X) → Contains (first ∷ following) x → Contains all x
  among x k = h.in_all x (subst (λ r. Contains r x) (sym is) k)

  then : (x : X) → Contains kept x ⊎ Contains rest x → Contains kept x ⊎ ((first ≡ x) ⊎ Contains following x)
  then x (inl k) = inl k
  then x (inr k) = inr (cons-cases first following x (subst (λ r. Contains r x) is k))

  -- the first is taken
  pub one-kept : (Out first → ⊥) → IsKeptOf Out all following (kept ++ first ∷ [])
  one-kept not = record {
    in_all = λ x k. among x (tail-in first following x k);
    only = λ x k. by x (Contains-push_cases kept first x k);
    each = λ x k n. on x (then x (h.each x k n));
  }
    where
      by : (x : X) → Contains kept x ⊎ (first ≡ x) → Contains all x × (Out x → ⊥)
      by x (inl k) = h.only x k
      by x (inr e) =
          subst (λ y. Contains all y × (Out y → ⊥)) e (among first (head-in first following), not)

      on : (x : X) → Contains kept x ⊎ ((first ≡ x) ⊎ Contains following x)
          → Contains (kept ++ first ∷ []) x ⊎ Contains following x
      on x (inl k) = inl (Contains-append_left kept (first ∷ []) x k)
      on x (inr (inl e)) = inl (subst (λ y. Contains (kept ++ first ∷ []) y) e (Contains-push kept first))
      on x (inr (inr k)) = inr k

  -- the first is left out
  pub one-out : Out first → IsKeptOf Out all following kept
  one-out out = record {
    in_all = λ x k. among x (tail-in first following x k);
    only = h.only;
    each = λ x k n. on x n (then x (h.each x k n));
  }
    where
      on : (x : X) → (Out x → ⊥) → Contains kept x ⊎ ((first ≡ x) ⊎ Contains following x)
          → Contains kept x ⊎ Contains following x
      on x n (inl k) = inl k
      on x n (inr (inl e)) = absurd (n (subst Out e out))
      on x n (inr (inr k)) = inr k

pub kept-first : {X : Type 0} (Out : X → Type 0) (all : List X) → IsKeptOf Out all all []
kept-first Out all = record {
  in_all = λ x k. k;
  only = λ x k. absurd (none-in x k);
  each = λ x k n. inr k;
}

pub kept-all : {X : Type 0} (Out : X → Type 0) (all rest kept : List X) → IsKeptOf Out all rest kept → rest ≡ []
    → (x : X) → Contains kept x ↔ (Contains all x × (Out x → ⊥))
kept-all {X} Out all rest kept h is x = (λ k. h.only x k, λ p. by (h.each x p.0 p.1)) where
  by : Contains kept x ⊎ Contains rest x → Contains kept x
  by (inl k) = k
  by (inr k) = absurd (none-in x (subst (λ r. Contains r x) is k))
