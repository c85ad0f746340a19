-- Those below an authority wait, as named where both are.
use Rattle.std.proofs.Common.{◌≡◌, ◌⊎◌, ◌++◌, ◌∙◌, ◌<◌, ◌+◌, inl, inr, ℕ, Bool, true, false, not, List, [], ◌∷◌}
use Rattle.std.proofs.Common.{Option, Some, ap, codes, refl, subst, sym}
use Rattle.std.proofs.lemmas.List.Elements.{Contains-append_left, Contains-push, Contains-push_cases}
use Rattle.std.specs.Prelude.{◌↔◌, IsTrue}
use Rattle.std.specs.List.{Contains}
use Rattle.jiff.specs.Types.{DateTime}
use Rattle.rpki_cert.specs.Cert.{CertParts}
use Rattle.rpki_valid.specs.Verified.{Authority, Holder, Terms}
use Rattle.rpki_validation.specs.Basis.{Basis, holder_of, holders}
use Rattle.rpki_validation.specs.Met.{HasMark, Mark}
use Rattle.rpki_text.specs.RsyncText.{uri_of}
use Rattle.rpki_validation.specs.Named.{FollowsPlace, IsFrom, IsNamedBelow, IsNamedByManifest, IsNamedFrom, Stands}
use Rattle.rpki_validation.specs.Noting.{AddsOnly}
use Rattle.rpki_validation.specs.Reached.{IsBelow}
use Rattle.rpki_validation.specs.Rejecting.{IsChild, Only, Rejects}
use Rattle.rpki_validation.specs.Sisters.{AreSistersBelow, IsSister}
use Rattle.rpki_validation.specs.Snapshot.{Published}
use Rattle.rpki_validation.specs.Taking.{Adds}
use Rattle.rpki_validation.specs.declared.outcome.Outcome.{Outcome}
use Rattle.rpki_validation.specs.Held.{AddsHeld, IsSaidOf}
use Rattle.rpki_validation.specs.Holding.{SaysOriginBy, SaysProvidersBy, SaysRouterBy, values}
use Rattle.rpki_validation.specs.Said.{SaysOrigin, SaysProviders, SaysRouter}
use Rattle.rpki_validation.specs.Validated.{IsWaitingBelow, LooksAtOne, WaitBelow, WaitsUnder}
use Rattle.rpki_validation.specs.Waiting.{AddsBelowAll, AddsWaiting, Entry, HasKey, IsAddedUnder, Key}
use Rattle.rpki_validation.proofs.MetLaws.{cons-cases, head-in, none-in, tail-in}
use Rattle.rpki_validation.proofs.NamedLaws.{follows-no, some-is}

twice : (b : Bool) → not (not b) ≡ b
twice true = refl
twice false = refl

-- ---- in sequence

module _ {X : Type 0} (published : Published) (place : Option (List ℕ)) where
  pub below-none : (w : List (Entry X)) → AddsBelowAll published place [] w w
  below-none w = record {
    only = λ e c. inl c;
    all = λ a c. absurd (none-in a c);
    kept = λ key h. h;
  }

  module _ (done : List (Authority X)) (a : Authority X) (old now then : List (Entry X)) (is_named : Bool)
      (before : AddsBelowAll published place done old now) (adds : AddsWaiting is_named a now then)
      (named : IsTrue is_named ↔ IsNamedFrom published a.terms.strictness.attributes place a.cert) where
    abbrev Done' : List (Authority X)
    Done' = done ++ (a ∷ [])

    more : (e : Entry X) → IsAddedUnder published place done e → IsAddedUnder published place Done' e
    more e h = record {
      one = Contains-append_left done (a ∷ []) e.1 h.one;
      marked = h.marked;
      depth = h.depth;
      named = h.named;
    }

    new : IsAddedUnder published place Done' ((not is_named, (a.depth, adds.mark)), a)
    new = record {
      one = Contains-push done a;
      marked = adds.marked;
      depth = refl;
      named = subst (λ (b : Bool). IsTrue b ↔ IsNamedFrom published a.terms.strictness.attributes place a.cert)
          (sym (twice is_named)) named;
    }

    only-then : (e : Entry X) → Contains then e → Contains old e ⊎ IsAddedUnder published place Done' e
    only-then e c = by (adds.only e c) where
      first : Contains old e ⊎ IsAddedUnder published place done e
          → Contains old e ⊎ IsAddedUnder published place Done' e
      first (inl k) = inl k
      first (inr k) = inr (more e k)

      by : Contains now e ⊎ (e ≡ ((not is_named, (a.depth, adds.mark)), a))
          → Contains old e ⊎ IsAddedUnder published place Done' e
      by (inl k) = first (before.only e k)
      by (inr k) = inr (subst (IsAddedUnder published place Done') (sym k) new)

    key-kept : (key : Key) → HasKey now key → HasKey then key
    key-kept key (b, c) = by (adds.kept (key, b) c) where
      by : Contains then (key, b) ⊎ (key ≡ (not is_named, (a.depth, adds.mark))) → HasKey then key
      by (inl k) = (b, k)
      by (inr k) = (a, subst (λ (q : Key). Contains then (q, a)) (sym k) adds.added)

    abbrev Has : Authority X → Type 0
    Has b =
        (is_other : Bool) × (mark : Mark) × HasMark (holder_of b) mark × HasKey then (is_other, (b.depth, mark))
        × (IsTrue (not is_other) ↔ IsNamedFrom published b.terms.strictness.attributes place b.cert)

    all-then : (b : Authority X) → Contains Done' b → Has b
    all-then b c = by (Contains-push_cases done a b c) where
      own : Has a
      own = (
        not is_named,
        adds.mark,
        adds.marked,
        (a, adds.added),
        subst (λ (q : Bool). IsTrue q ↔ IsNamedFrom published a.terms.strictness.attributes place a.cert)
            (sym (twice is_named)) named,
      )

      by : Contains done b ⊎ (a ≡ b) → Has b
      by (inl k) = let h = before.all b k in (h.0, h.1, h.2, key-kept (h.0, (b.depth, h.1)) h.3, h.4)
      by (inr k) = subst Has k own

    pub below-more : AddsBelowAll published place Done' old then
    below-more = record {
      only = only-then;
      all = all-then;
      kept = λ key h. key-kept key (before.kept key h);
    }

pub only-more : {X : Type 0} (done : List (Authority X)) (a : Authority X) (old now then : List (Entry X))
    (is_named : Bool) → ((e : Entry X) → Contains now e → Contains old e ⊎ Contains done e.1)
    → AddsWaiting is_named a now then → (e : Entry X) → Contains then e
    → Contains old e ⊎ Contains (done ++ (a ∷ [])) e.1
only-more {X} done a old now then is_named before adds e c = by (adds.only e c) where
  first : Contains old e ⊎ Contains done e.1 → Contains old e ⊎ Contains (done ++ (a ∷ [])) e.1
  first (inl k) = inl k
  first (inr k) = inr (Contains-append_left done (a ∷ []) e.1 k)

  by : Contains now e ⊎ (e ≡ ((not is_named, (a.depth, adds.mark)), a))
      → Contains old e ⊎ Contains (done ++ (a ∷ [])) e.1
  by (inl k) = first (before e k)
  by (inr k) =
      inr (subst (λ (b : Authority X). Contains (done ++ (a ∷ [])) b) (sym (ap (λ (q : Entry X). q.1) k))
      (Contains-push done a))

-- ---- all of one

holder-in : {X : Type 0} (below : List (Authority X)) (x : Holder) → Contains (holders below) x
    → (a : Authority X) × Contains below a × (holder_of a ≡ x)
holder-in [] x c = absurd (none-in x c)
holder-in {X} (b ∷ below) x c = by (holder-in below x) (cons-cases (holder_of b) (holders below) x c) where
  by : (Contains (holders below) x → (a : Authority X) × Contains below a × (holder_of a ≡ x))
      → (holder_of b ≡ x) ⊎ Contains (holders below) x
      → (a : Authority X) × Contains (b ∷ below) a × (holder_of a ≡ x)
  by later (inl e) = (b, head-in b below, e)
  by later (inr m) = let k = later m in (k.0, tail-in b below k.0 k.1, k.2)

module _ {X : Type 0} (published : Published) (basis : Basis) (is_named : Bool) (issuer : Authority X) (at : DateTime)
    (terms : basis.terms ≡ issuer.terms) (place : Option (List ℕ))
    (from : IsFrom published issuer.terms.strictness.attributes is_named issuer.cert place)
    (below : List (Authority X)) (w w' : List (Entry X))
    (said : issuer.depth < issuer.terms.deepest
    → Adds (IsBelow published basis (holder_of issuer)) (holders {X = X} []) (holders below))
    (children : AddsOnly (IsChild published basis issuer) [] below) (sisters : AreSistersBelow issuer at [] below)
    (adds : AddsBelowAll published place below w w') where
  sister : (a : Authority X) → Contains below a → IsSister issuer.terms issuer.provider at (issuer.depth + 1) a
  sister a c = by (sisters a c) where
    by : Contains [] a ⊎ IsSister issuer.terms issuer.provider at (issuer.depth + 1) a
        → IsSister issuer.terms issuer.provider at (issuer.depth + 1) a
    by (inl k) = absurd (none-in a k)
    by (inr k) = k

  child : (a : Authority X) → Contains below a → IsChild published basis issuer a
  child a c = by (children a c) where
    by : Contains [] a ⊎ IsChild published basis issuer a → IsChild published basis issuer a
    by (inl k) = absurd (none-in a k)
    by (inr k) = k

  abbrev Strict : Terms → Bool
  Strict t = t.strictness.attributes

  strict-of : (a : Authority X) → Contains below a → Strict a.terms ≡ Strict basis.terms
  strict-of a c = ap Strict ((sister a c).terms_are ∙ sym terms)

  from-place : (b : Bool) → IsFrom published (Strict issuer.terms) b issuer.cert place → (x : CertParts)
      → FollowsPlace place x.tbs
      → IsTrue b × ((uri : List ℕ) × IsNamedByManifest published (Strict basis.terms) issuer.cert.tbs uri
      × (place ≡ Some uri))
  from-place true f x h = (
    refl,
    (
      h.uri,
      subst (λ (s : Bool). IsNamedByManifest published s issuer.cert.tbs h.uri) (ap Strict (sym terms))
          ((f h.uri).1 h.place_is),
      h.place_is,
    ),
  )
  from-place false f x h = absurd (follows-no x.tbs (subst (λ (p : Option (List ℕ)). FollowsPlace p x.tbs) f h))

  -- what is named from the place is named below it
  named-from : (a : Authority X) → Contains below a
      → IsNamedFrom published a.terms.strictness.attributes place a.cert
      → IsTrue is_named × IsNamedBelow published basis (holder_of issuer) (holder_of a)
  named-from a c h =
      let p = from-place is_named from a.cert h.0 in (
        p.0,
        record {
          below = (child a c).0;
          follows = record {
            uri = p.1.0;
            named = p.1.1;
            other = h.0.other;
            names = h.0.names;
            same = h.0.same ∙ same-uri (place) h.0.uri p.1.0 h.0.place_is p.1.2;
          };
          stands = subst (λ (s : Bool). Stands published s a.cert) (strict-of a c) h.1;
        },
      )
    where
      same-uri : (o : Option (List ℕ)) (p q : List ℕ) → o ≡ Some p → o ≡ Some q → uri_of p ≡ uri_of q
      same-uri o p q e d = ap uri_of (some-is o p q e d)

  to-place : (b : Bool) → IsTrue b → IsFrom published (Strict issuer.terms) b issuer.cert place → (uri : List ℕ)
      → IsNamedByManifest published (Strict basis.terms) issuer.cert.tbs uri → place ≡ Some uri
  to-place true t f uri h =
      (f uri).0 (subst (λ (s : Bool). IsNamedByManifest published s issuer.cert.tbs uri) (ap Strict terms) h)
  to-place false t f uri h = absurd (cc)

  from-named : IsTrue is_named → (a : Authority X) → Contains below a
      → IsNamedBelow published basis (holder_of issuer) (holder_of a)
      → IsNamedFrom published a.terms.strictness.attributes place a.cert
  from-named t a c h = (
    record {
      uri = h.follows.uri;
      place_is = to-place is_named t from h.follows.uri h.follows.named;
      other = h.follows.other;
      names = h.follows.names;
      same = h.follows.same;
    },
    subst (λ (s : Bool). Stands published s a.cert) (sym (strict-of a c)) h.stands,
  )

  pub only-below : (e : Entry X) → Contains w' e → Contains w e ⊎ IsWaitingBelow published basis is_named issuer e
  only-below e c = by (adds.only e c) where
    by : Contains w e ⊎ IsAddedUnder published place below e
        → Contains w e ⊎ IsWaitingBelow published basis is_named issuer e
    by (inl k) = inl k
    by (inr k) =
        inr (record {
          child = child e.1 k.one;
          marked = k.marked;
          depth = k.depth;
          named = λ t. named-from e.1 k.one (k.named.0 t);
        })

  waits : (b : Bool) (a : Authority X) → Contains below a → (m : Mark) → HasMark (holder_of a) m
      → HasKey w' (b, (a.depth, m)) → (x : Holder) → holder_of a ≡ x → WaitsUnder w' b (issuer.depth + 1) x
  waits b a c m has key x e = (
    m,
    subst (λ (y : Holder). HasMark y m) e has,
    subst (λ (n : ℕ). HasKey w' (b, (n, m))) (sister a c).depth_is key,
  )

  not-other : (b : Bool) → IsTrue (not b) → b ≡ false
  not-other true t = absurd (cc)
  not-other false t = refl

  pub named-below : IsTrue is_named → issuer.depth < issuer.terms.deepest → (x : Holder)
      → IsNamedBelow published basis (holder_of issuer) x → WaitsUnder w' false (issuer.depth + 1) x
  named-below t low x h =
      let k = holder-in below x ((said low x).1 (inr h.below)) in
      let q = adds.all k.0 k.1 in
      let n = q.4.1 (from-named t k.0 k.1 (subst (IsNamedBelow published basis (holder_of issuer)) (sym k.2) h)) in
      waits false k.0 k.1 q.1 q.2
      (subst (λ (b : Bool). HasKey w' (b, (k.0.depth, q.1))) (not-other q.0 n) q.3) x k.2

  pub others-below : issuer.depth < issuer.terms.deepest → (x : Holder)
      → IsBelow published basis (holder_of issuer) x
      → (IsTrue is_named × IsNamedBelow published basis (holder_of issuer) x)
      ⊎ WaitsUnder w' true (issuer.depth + 1) x
  others-below low x h =
      let k = holder-in below x ((said low x).1 (inr h)) in
      let q = adds.all k.0 k.1 in
      by k.0 k.1 k.2 q.0 q.1 q.2 q.3 q.4
    where
      by : (a : Authority X) → Contains below a → holder_of a ≡ x → (b : Bool) (m : Mark) → HasMark (holder_of a) m
          → HasKey w' (b, (a.depth, m))
          → (IsTrue (not b) ↔ IsNamedFrom published a.terms.strictness.attributes place a.cert)
          → (IsTrue is_named × IsNamedBelow published basis (holder_of issuer) x)
          ⊎ WaitsUnder w' true (issuer.depth + 1) x
      by a c e true m has key named = inr (waits true a c m has key x e)
      by a c e false m has key named =
          let n = named-from a c (named.0 refl) in
          inl (n.0, subst (IsNamedBelow published basis (holder_of issuer)) e n.1)

-- ---- what a look at one adds

module _ {X : Type 0} (published : Published) (basis : Basis) (is_named : Bool) (issuer : Authority X) (at : DateTime)
    (terms : basis.terms ≡ issuer.terms) (place : Option (List ℕ))
    (from : IsFrom published issuer.terms.strictness.attributes is_named issuer.cert place)
    (old below : List (Authority X)) (none : old ≡ []) (w w' : List (Entry X)) (o o' : Outcome) where
  pub looks-one : Adds (SaysOrigin published basis (holder_of issuer)) (values o.origins.items) (values
      o'.origins.items)
      → Adds (SaysProviders published basis (holder_of issuer)) (values o.providers.items) (values o'.providers.items)
      → Adds (SaysRouter published basis (holder_of issuer)) (values o.routers.items) (values o'.routers.items)
      → AddsHeld (IsSaidOf published basis (codes ".roa") SaysOriginBy issuer)
      (IsSaidOf published basis (codes ".asa") SaysProvidersBy issuer)
      (IsSaidOf published basis (codes ".cer") SaysRouterBy issuer) o o'
      → Rejects published basis issuer.depth (Only (holder_of issuer)) o.rejections.items o'.rejections.items
      → (issuer.depth < issuer.terms.deepest
      → Adds (IsBelow published basis (holder_of issuer)) (holders old) (holders below))
      → AddsOnly (IsChild published basis issuer) old below → AreSistersBelow issuer at old below
      → AddsBelowAll published place below w w' → LooksAtOne published basis is_named issuer w w' o o'
  looks-one origins providers routers held rejected said children sisters adds =
      let said' = subst (λ (l : List (Authority X)). issuer.depth < issuer.terms.deepest
      → Adds (IsBelow published basis (holder_of issuer)) (holders l) (holders below)) none said in
      let children' = subst (λ (l : List (Authority X)). AddsOnly (IsChild published basis issuer) l below) none
      children in
      let sisters' = subst (λ (l : List (Authority X)). AreSistersBelow issuer at l below) none sisters in
      record {
        origins = origins;
        providers = providers;
        routers = routers;
        held = held;
        rejected = rejected;
        only = only-below published basis is_named issuer at terms place from below w w' said' children' sisters' adds;
        named = named-below published basis is_named issuer at terms place from below w w' said' children' sisters'
            adds;
        others = others-below published basis is_named issuer at terms place from below w w' said' children' sisters'
            adds;
        kept = adds.kept;
      }

-- each that waits is a sister
pub waits-below : {X : Type 0} (issuer : Authority X) (at : DateTime) (old below : List (Authority X)) → old ≡ []
    → (w w' : List (Entry X)) → AreSistersBelow issuer at old below
    → ((e : Entry X) → Contains w' e → Contains w e ⊎ Contains below e.1) → WaitBelow issuer at w w'
waits-below {X} issuer at old below none w w' sisters only e c = by (only e c) where
  one : Contains old e.1 ⊎ IsSister issuer.terms issuer.provider at (issuer.depth + 1) e.1
      → Contains w e ⊎ IsSister issuer.terms issuer.provider at (issuer.depth + 1) e.1
  one (inl m) = absurd (none-in e.1 (subst (λ (l : List (Authority X)). Contains l e.1) none m))
  one (inr s) = inr s

  by : Contains w e ⊎ Contains below e.1
      → Contains w e ⊎ IsSister issuer.terms issuer.provider at (issuer.depth + 1) e.1
  by (inl m) = inl m
  by (inr m) = one (sisters e.1 m)
