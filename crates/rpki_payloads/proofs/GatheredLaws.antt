-- Keys of others, gathered in a set.
use Rattle.std.proofs.Common.{◌≡◌, ◌∙◌, ◌↔◌, ◌⊎◌, inl, inr, List, [], ◌∷◌, ap, refl, sym, subst}
use Rattle.std.proofs.Common.{true, cond}
use Rattle.std.proofs.lemmas.Map.Views.{btree_set_contains_iff}
use Rattle.std.specs.BTreeSet as tree
use Rattle.std.specs.Cmp.{IsTotalOrder}
use Rattle.std.specs.List.{Contains}
use Rattle.std.specs.Option.{option_cmp}
use Rattle.std.specs.Ordering.{is_eq}
use Rattle.std.specs.Prelude.{IsTrue, Some, None}
use Rattle.std.specs.declared.cmp.Ordering.{Ordering}
use Rattle.std.specs.declared.cmp.Ordering.TheVariants.{Less, Equal, Greater}
use Rattle.rpki_payloads.specs.Vrp.{IsExact}
use Rattle.rpki_payloads.proofs.AmongLaws.{cons-cases, head-in, none-in, tail-in}

-- ---- what compares as equal is one

pub exact-option : {A : Type 0} (R : A → A → Ordering) → IsExact R → IsExact (option_cmp R)
exact-option R exact None None h = refl
exact-option R exact None (Some y) h = absurd (let k : Less ≡ Equal = h in cc)
exact-option R exact (Some x) None h = absurd (let k : Greater ≡ Equal = h in cc)
exact-option R exact (Some x) (Some y) h = ap Some (exact x y h)

-- ---- a key that is added to a set

module _ {K : Type 0} {R : K → K → Ordering} (o : IsTotalOrder R) (exact : IsExact R) (old new : tree.BTreeSet K)
    (key : K) (added : tree.Updates R old new key true) where
  to : (k : K) (r : Ordering) → R key k ≡ r → IsTrue (tree.contains R new k) → Contains (tree.keys old) k ⊎ (key ≡ k)
  to k Equal e h = inr (exact key k e)
  to k Less e h =
      inl ((btree_set_contains_iff o exact old k).0
      (sym (added.0 k ∙ ap (λ (s : Ordering). cond (is_eq s) true (tree.contains R old k)) e) ∙ h))
  to k Greater e h =
      inl ((btree_set_contains_iff o exact old k).0
      (sym (added.0 k ∙ ap (λ (s : Ordering). cond (is_eq s) true (tree.contains R old k)) e) ∙ h))

  from : (k : K) (r : Ordering) → R key k ≡ r → Contains (tree.keys old) k → IsTrue (tree.contains R new k)
  from k Equal e h = added.0 k ∙ ap (λ (s : Ordering). cond (is_eq s) true (tree.contains R old k)) e
  from k Less e h =
      added.0 k ∙ ap (λ (s : Ordering). cond (is_eq s) true (tree.contains R old k)) e
      ∙ (btree_set_contains_iff o exact old k).1 h
  from k Greater e h =
      added.0 k ∙ ap (λ (s : Ordering). cond (is_eq s) true (tree.contains R old k)) e
      ∙ (btree_set_contains_iff o exact old k).1 h

  pub has-more : (k : K) → Contains (tree.keys new) k ↔ (Contains (tree.keys old) k ⊎ (key ≡ k))
  has-more k = (
    λ h. to k (R key k) refl ((btree_set_contains_iff o exact new k).1 h),
    λ h. (btree_set_contains_iff o exact new k).0 (by h),
  )
    where
      by : Contains (tree.keys old) k ⊎ (key ≡ k) → IsTrue (tree.contains R new k)
      by (inl h) = from k (R key k) refl h
      by (inr e) = subst (λ (q : K). IsTrue (tree.contains R new q)) e added.1

-- ---- the keys of each of a list

-- one of these has this key
abbrev pub IsKeyOf : {F K : Type 0} → (F → K) → List F → K → Type 0
IsKeyOf {F} key fs k = (f : F) × Contains fs f × (key f ≡ k)

-- those in front of the rest are what these keys are of
abbrev pub AreGathered : {F K : Type 0} → (F → K) → (all rest : List F) → List K → Type 0
AreGathered {F} {K} key all rest ks = (k : K) → IsKeyOf key all k ↔ (Contains ks k ⊎ IsKeyOf key rest k)

module _ {F K : Type 0} (key : F → K) where
  pub gathered-first : (fs : List F) (ks : List K) → ks ≡ [] → AreGathered key fs fs ks
  gathered-first fs ks none k = (λ h. inr h, by) where
    by : Contains ks k ⊎ IsKeyOf key fs k → IsKeyOf key fs k
    by (inl h) = absurd (none-in k (subst (λ (all : List K). Contains all k) none h))
    by (inr h) = h

  pub gathered-next : (fs rest following : List F) (f : F) (q : K) (old new : List K) → AreGathered key fs rest old
      → rest ≡ f ∷ following → q ≡ key f → ((k : K) → Contains new k ↔ (Contains old k ⊎ (q ≡ k)))
      → AreGathered key fs following new
  gathered-next fs rest following f q old new before is same step k = (
    λ h. to ((before k).0 h),
    λ h. (before k).1 (from h),
  )
    where
      here : (g : F) → key g ≡ k → (f ≡ g) ⊎ Contains following g → Contains new k ⊎ IsKeyOf key following k
      here g e (inl one) = inl ((step k).1 (inr (same ∙ ap key one ∙ e)))
      here g e (inr there) = inr (g, there, e)

      to : Contains old k ⊎ IsKeyOf key rest k → Contains new k ⊎ IsKeyOf key following k
      to (inl h) = inl ((step k).1 (inl h))
      to (inr a) = here a.0 a.2 (cons-cases f following a.0 (subst (λ (gs : List F). Contains gs a.0) is a.1))

      first : Contains old k ⊎ (q ≡ k) → Contains old k ⊎ IsKeyOf key rest k
      first (inl h) = inl h
      first (inr e) =
          inr (f, subst (λ (gs : List F). Contains gs f) (sym is) (head-in f following), sym same ∙ e)

      from : Contains new k ⊎ IsKeyOf key following k → Contains old k ⊎ IsKeyOf key rest k
      from (inl h) = first ((step k).0 h)
      from (inr a) =
          inr (a.0, subst (λ (gs : List F). Contains gs a.0) (sym is) (tail-in f following a.0 a.1), a.2)

  pub gathered-all : (fs rest : List F) (ks : List K) → AreGathered key fs rest ks → rest ≡ [] → (k : K)
      → Contains ks k ↔ IsKeyOf key fs k
  gathered-all fs rest ks h none k = (λ c. (h k).1 (inl c), λ a. by ((h k).0 a)) where
    by : Contains ks k ⊎ IsKeyOf key rest k → Contains ks k
    by (inl c) = c
    by (inr a) = absurd (none-in a.0 (subst (λ (gs : List F). Contains gs a.0) none a.1))
