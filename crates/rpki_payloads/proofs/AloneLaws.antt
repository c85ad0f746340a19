-- Whether a payload is among those in order.
use Rattle.std.proofs.Common.{◌≡◌, ◌∙◌, ℕ, zero, suc, ◌<◌, ◌≤◌, ◌⊎◌, inl, inr, Bool, true, false, List, [], ◌∷◌}
use Rattle.std.specs.Prelude.{◌||◌}
use Rattle.std.proofs.Common.{length, get_or, refl, sym, subst, ap, arith}
use Rattle.std.specs.Prelude.{Result, Ok, Err}
use Rattle.std.specs.Result.{is_ok}
use Rattle.std.specs.List.{list_any}
use Rattle.std.specs.List.Sorted.{IsBinarySearchResult, IsNonDecreasingBy, IsPartitionPoint, IsSearchInRange}
use Rattle.std.specs.Ordering.{is_eq, ordering_index}
use Rattle.std.specs.declared.cmp.Ordering.{Ordering}
use Rattle.std.specs.declared.cmp.Ordering.TheVariants.{Less, Equal, Greater}
use Rattle.std.proofs.lemmas.Map.Keys.{Less-from_sorted}
use Rattle.rpki_payloads.specs.contracts.vrp.VrpOrd.TheImpl.{ghosts}
use Rattle.rpki_payloads.specs.declared.vrp.Vrp.{Vrp}
use Rattle.rpki_payloads.specs.Alone.{is_among, is_same}
use Rattle.rpki_payloads.specs.Vrp.{AreInOrder, vrp_cmp}
use Rattle.rpki_payloads.proofs.OrderLaws.{exact-vrp, same-cmp, vrp-total}

-- one of them passes
any-at : {X : Type 0} (p : X → Bool) (xs : List X) (i : ℕ) → i < length xs → ((d : X) → p (get_or xs i d) ≡ true)
    → list_any p xs ≡ true
any-at p [] i lt h = absurd (omega (arith, lt))
any-at p (x ∷ xs) zero lt h = rw (h x) refl
any-at p (x ∷ xs) (suc i) lt h = by (p x) (any-at p xs i (omega (arith, lt)) h) where
  by : (b : Bool) → list_any p xs ≡ true → (b || list_any p xs) ≡ true
  by true k = refl
  by false k = k

-- none passes
none-of : {X : Type 0} (p : X → Bool) (xs : List X) → ((i : ℕ) (d : X) → i < length xs → p (get_or xs i d) ≡ false)
    → list_any p xs ≡ false
none-of p [] h = refl
none-of p (x ∷ xs) h = rw (h 0 x (omega arith)) (none-of p xs (λ i d lt. h (suc i) d (omega (arith, lt))))

-- what comes before is no higher
no-higher : (v x y : Vrp) (o p : Ordering) → vrp_cmp x v ≡ o → vrp_cmp y v ≡ p → vrp_cmp x y ≡ Less
    → ordering_index o ≤ ordering_index p
no-higher v x y Less p e f less = omega arith
no-higher v x y Equal Greater e f less = omega arith
no-higher v x y Greater Greater e f less = omega arith
no-higher v x y Equal Equal e f less = omega arith
no-higher v x y Greater Equal e f less =
    let k : vrp_cmp x v ≡ Less = subst (λ (w : Vrp). vrp_cmp x w ≡ Less) (exact-vrp y v f) less in
    absurd (let d : Greater ≡ Less = sym e ∙ k in cc)
no-higher v x y Equal Less e f less =
    let d : Equal ≡ Less = sym e ∙ vrp-total.trans x y v less f in absurd (cc)
no-higher v x y Greater Less e f less =
    let d : Greater ≡ Less = sym e ∙ vrp-total.trans x y v less f in absurd (cc)

rising : (v : Vrp) (vrps : List Vrp) → AreInOrder vrps
    → IsNonDecreasingBy (λ y. ordering_index (vrp_cmp y v)) vrps
rising v vrps order i j d le lt = by (at i j)
  where
    at : (i j : ℕ) → (i ≡ j) ⊎ (i < j) ⊎ (j < i)
    at i j = grind arith

    by : (i ≡ j) ⊎ (i < j) ⊎ (j < i)
        → ordering_index (vrp_cmp (get_or vrps i d) v) ≤ ordering_index (vrp_cmp (get_or vrps j d) v)
    by (inl e) = rw e (omega arith)
    by (inr (inl less)) =
        no-higher v (get_or vrps i d) (get_or vrps j d) _ _ refl refl
        (Less-from_sorted vrp_cmp vrps i j d order less lt)
    by (inr (inr more)) = absurd (omega (arith, le, more))

not-same : (o : Ordering) → (o ≡ Less) ⊎ (o ≡ Greater) → is_eq o ≡ false
not-same Less h = refl
not-same Greater h = refl
not-same Equal (inl e) = absurd (cc)
not-same Equal (inr e) = absurd (cc)

-- what a search finds
by-search : (vrps : List Vrp) (v : Vrp) (r : Result ℕ ℕ) → AreInOrder vrps → IsSearchInRange r (length vrps)
    → IsBinarySearchResult (λ y. vrp_cmp y v) vrps r → is_ok r ≡ is_among v vrps
by-search vrps v (Ok i) order lt h = sym (any-at (is_same v) vrps i lt (λ d. ap is_eq (h d)))
by-search vrps v (Err i) order le h =
    sym (none-of (is_same v) vrps (λ k d lt. not-same (vrp_cmp (get_or vrps k d) v) (side k d lt (at k i))))
  where
    parts : IsPartitionPoint (λ y. vrp_cmp y v ≡ Less) (λ y. vrp_cmp y v ≡ Greater) vrps i
    parts = h (rising v vrps order)

    at : (k i : ℕ) → (k < i) ⊎ (i ≤ k)
    at k i = grind arith

    side : (k : ℕ) (d : Vrp) → k < length vrps → (k < i) ⊎ (i ≤ k)
        → (vrp_cmp (get_or vrps k d) v ≡ Less) ⊎ (vrp_cmp (get_or vrps k d) v ≡ Greater)
    side k d lt (inl below) = inl (parts.0 k d (omega arith) below)
    side k d lt (inr above) = inr (parts.1 k d above lt)

pub found-among : (vrps : List Vrp) (v : Vrp) (r : Result ℕ ℕ) → AreInOrder vrps → IsSearchInRange r (length vrps)
    → IsBinarySearchResult (λ y. ghosts.cmp y v) vrps r → is_ok r ≡ is_among v vrps
found-among vrps v r order bound h =
    by-search vrps v r order bound
    (subst (λ (f : Vrp → Ordering). IsBinarySearchResult f vrps r) (λ i y. same-cmp y v i) h)
