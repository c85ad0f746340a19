-- The last of those with the same payload, where they are in order, is the one with the latest end.
use Rattle.std.proofs.Common.{◌≡◌, ◌↔◌, ◌⊎◌, ◌∙◌, ◌<◌, inl, inr, List, [], ◌∷◌, ap, refl, sym, subst, arith}
use Rattle.std.proofs.lemmas.List.Elements.{All-contains, All-from_recursion}
use Rattle.std.proofs.lemmas.Map.Keys.{sorted_head, sorted_tail}
use Rattle.std.proofs.lemmas.Cmp.{ranked}
use Rattle.std.specs.Ordering.{nat_cmp, ordering_reverse, ordering_then}
use Rattle.std.specs.declared.cmp.Ordering.{Ordering}
use Rattle.std.specs.declared.cmp.Ordering.TheVariants.{Less, Equal, Greater}
use Rattle.std.specs.List.{Contains}
use Rattle.std.specs.Prelude.{MatchOption, slice_get}
use Rattle.std.specs.List.Sorted.{IsStrictlySortedBy}
use Rattle.rpki_payloads.specs.declared.timed.TimedVrp.{TimedVrp}
use Rattle.rpki_payloads.specs.declared.vrp.Vrp.{Vrp}
use Rattle.rpki_payloads.specs.Timed.{HasLater, IsLatest, timed_cmp}
use Rattle.rpki_payloads.specs.Vrp.{vrp_cmp}
use Rattle.rpki_payloads.proofs.AmongLaws.{cons-cases, head-in, tail-in, none-in}
use Rattle.rpki_payloads.proofs.OrderLaws.{exact-vrp, vrp-total}

-- what is below in the order has a payload that is below, or the same with an earlier end
first-less : (s t : TimedVrp) → timed_cmp s t ≡ Less
    → (vrp_cmp s.vrp t.vrp ≡ Less) ⊎ ((s.vrp ≡ t.vrp) × (s.expires < t.expires))
first-less s t h = by (vrp_cmp s.vrp t.vrp) refl h
  where
    by : (o : Ordering) → vrp_cmp s.vrp t.vrp ≡ o → ordering_then o (nat_cmp s.expires t.expires) ≡ Less
        → (vrp_cmp s.vrp t.vrp ≡ Less) ⊎ ((s.vrp ≡ t.vrp) × (s.expires < t.expires))
    by Less e k = inl e
    by Equal e k = inr (exact-vrp s.vrp t.vrp e, ranked s.expires t.expires Less (sym k))
    by Greater e k = absurd (let k' : Greater ≡ Less = k in cc)

not-both : (v w : Vrp) → vrp_cmp v w ≡ Less → vrp_cmp w v ≡ Less → ⊥
not-both v w h k = let e : Less ≡ Greater = sym h ∙ vrp-total.antisymm v w ∙ ap ordering_reverse k in cc

not-itself : (v w : Vrp) → v ≡ w → vrp_cmp v w ≡ Less → ⊥
not-itself v w e h = let k = subst (λ x. vrp_cmp v x ≡ Less) (sym e) h in not-both v v k k

-- the next one has the same payload
abbrev pub IsFollowed : TimedVrp → List TimedVrp → Type 0
IsFollowed t ss = MatchOption (slice_get ss 0) ⊥ (λ s. s.vrp ≡ t.vrp)

-- the rest is in order, and what isn't in it is below all of it
pub record IsAhead (all rest : List TimedVrp) : Type 0 where
  pub sorted : IsStrictlySortedBy timed_cmp rest
  pub before : (s : TimedVrp) → Contains all s
      → Contains rest s ⊎ ((t : TimedVrp) → Contains rest t → timed_cmp s t ≡ Less)

pub first-ahead : (all : List TimedVrp) → IsStrictlySortedBy timed_cmp all → IsAhead all all
first-ahead all sorted = record { sorted = sorted; before = λ s k. inl k }

-- the first is below all that follow it
head-below : (first : TimedVrp) (following : List TimedVrp) → IsStrictlySortedBy timed_cmp (first ∷ following)
    → (t : TimedVrp) → Contains following t → timed_cmp first t ≡ Less
head-below first following sorted t k =
    All-contains (λ y. timed_cmp first y ≡ Less) following t
    (All-from_recursion (λ y. timed_cmp first y ≡ Less) following (sorted_head timed_cmp first following sorted)) k

module _ (all rest following : List TimedVrp) (first : TimedVrp) (is : rest ≡ first ∷ following) where
  sorted-here : IsAhead all rest → IsStrictlySortedBy timed_cmp (first ∷ following)
  sorted-here h = subst (λ r. IsStrictlySortedBy timed_cmp r) is h.sorted

  pub next-ahead : IsAhead all rest → IsAhead all following
  next-ahead h = record {
    sorted = sorted_tail timed_cmp first following (sorted-here h);
    before = λ s k. by s (h.before s k);
  }
    where
      on : (s : TimedVrp) → (first ≡ s) ⊎ Contains following s
          → Contains following s ⊎ ((t : TimedVrp) → Contains following t → timed_cmp s t ≡ Less)
      on s (inl e) =
          inr (λ t k. subst (λ x. timed_cmp x t ≡ Less) e (head-below first following (sorted-here h) t k))
      on s (inr k) = inl k

      by : (s : TimedVrp) → Contains rest s ⊎ ((t : TimedVrp) → Contains rest t → timed_cmp s t ≡ Less)
          → Contains following s ⊎ ((t : TimedVrp) → Contains following t → timed_cmp s t ≡ Less)
      by s (inl k) = on s (cons-cases first following s (subst (λ r. Contains r s) is k))
      by s (inr f) = inr (λ t k. f t (subst (λ r. Contains r t) (sym is) (tail-in first following t k)))

  -- where the next one has the same payload, it has a later end
  pub is-later : IsAhead all rest → ((x : TimedVrp) → Contains rest x → Contains all x) → IsFollowed first following
      → HasLater all first
  is-later h in-all = by following refl
    where
      among : (x : TimedVrp) → Contains following x → Contains all x
      among x k = in-all x (subst (λ r. Contains r x) (sym is) (tail-in first following x k))

      end : (s : TimedVrp) → s.vrp ≡ first.vrp
          → (vrp_cmp first.vrp s.vrp ≡ Less) ⊎ ((first.vrp ≡ s.vrp) × (first.expires < s.expires))
          → first.expires < s.expires
      end s same (inl e) = absurd (not-itself first.vrp s.vrp (sym same) e)
      end s same (inr e) = e.1

      by : (ss : List TimedVrp) → following ≡ ss → IsFollowed first ss → HasLater all first
      by [] e f = absurd f
      by (s ∷ ss) e f =
          let k = subst (λ r. Contains r s) (sym e) (head-in s ss) in
          (s, among s k, f, end s f (first-less first s (head-below first following (sorted-here h) s k)))

  -- where it hasn't, there is no later end
  pub none-later : IsAhead all rest → (IsFollowed first following → ⊥) → HasLater all first → ⊥
  none-later h not (s, k, same, late) = by (h.before s k)
    where
      -- it is below the first
      below : timed_cmp s first ≡ Less → ⊥
      below e = on (first-less s first e)
        where
          on : (vrp_cmp s.vrp first.vrp ≡ Less) ⊎ ((s.vrp ≡ first.vrp) × (s.expires < first.expires)) → ⊥
          on (inl x) = not-itself s.vrp first.vrp same x
          on (inr x) = omega (arith, x.1, late)

      -- it comes after the next one, whose payload is another
      after : (next : TimedVrp) → (next.vrp ≡ first.vrp → ⊥)
          → (vrp_cmp first.vrp next.vrp ≡ Less) ⊎ ((first.vrp ≡ next.vrp) × (first.expires < next.expires))
          → (vrp_cmp next.vrp s.vrp ≡ Less) ⊎ ((next.vrp ≡ s.vrp) × (next.expires < s.expires)) → ⊥
      after next other (inl x) (inl y) = not-both first.vrp next.vrp x (subst (λ v. vrp_cmp next.vrp v ≡ Less) same y)
      after next other (inl x) (inr y) = other (y.0 ∙ same)
      after next other (inr x) y = other (sym x.0)

      follows : (ss : List TimedVrp) → following ≡ ss → Contains ss s → ⊥
      follows [] e c = none-in s c
      follows (next ∷ more) e c = then (cons-cases next more s c)
        where
          sorted : IsStrictlySortedBy timed_cmp (first ∷ next ∷ more)
          sorted = subst (λ r. IsStrictlySortedBy timed_cmp (first ∷ r)) e (sorted-here h)

          other : next.vrp ≡ first.vrp → ⊥
          other x = not (subst (λ r. IsFollowed first r) (sym e) x)

          then : (next ≡ s) ⊎ Contains more s → ⊥
          then (inl x) = other (ap (λ (t : TimedVrp). t.vrp) x ∙ same)
          then (inr x) =
              after next other (first-less first next (head-below first (next ∷ more) sorted next (head-in next more)))
              (first-less next s (head-below next more (sorted_tail timed_cmp first (next ∷ more) sorted) s x))

      is-in : (first ≡ s) ⊎ Contains following s → ⊥
      is-in (inl e) = let k : first.expires ≡ s.expires = ap (λ (t : TimedVrp). t.expires) e in omega (arith, k, late)
      is-in (inr c) = follows following refl c

      by : Contains rest s ⊎ ((t : TimedVrp) → Contains rest t → timed_cmp s t ≡ Less) → ⊥
      by (inl c) = is-in (cons-cases first following s (subst (λ r. Contains r s) is c))
      by (inr f) = below (f first (subst (λ r. Contains r first) (sym is) (head-in first following)))

-- the latest ends are the same of lists that have the same
pub same-latest : (xs ys : List TimedVrp) → ((t : TimedVrp) → Contains xs t ↔ Contains ys t) → (t : TimedVrp)
    → IsLatest xs t ↔ IsLatest ys t
same-latest xs ys same t = (
  λ h. ((same t).0 h.0, λ l. h.1 (l.0, (same l.0).1 l.1, l.2, l.3)),
  λ h. ((same t).1 h.0, λ l. h.1 (l.0, (same l.0).0 l.1, l.2, l.3)),
)
