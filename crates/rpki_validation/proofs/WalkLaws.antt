-- What a walk tells is exactly what is valid.
use Rattle.std.proofs.Common.{◌≡◌, ◌⊎◌, ◌++◌, ◌∙◌, ◌<◌, ◌≤◌, ◌+◌, inl, inr, not, ℕ, suc, Bool, true, false}
use Rattle.std.proofs.Common.{List, [], ◌∷◌}
use Rattle.std.proofs.Common.{ap, arith, refl, subst, sym, codes}
use Rattle.std.proofs.lemmas.List.Elements.{Contains-append_left, Contains-push, Contains-push_cases}
use Rattle.std.specs.Prelude.{◌↔◌, IsTrue}
use Rattle.std.specs.List.{Contains}
use Rattle.jiff.specs.Types.{DateTime}
use Rattle.rpki.specs.Checkers.{Models}
use Rattle.rpki_contents.specs.Aspa.{AspaParts}
use Rattle.rpki_contents.specs.ListedFile.{ListedFile}
use Rattle.rpki_contents.specs.declared.route_origin.RouteOrigin.{RouteOrigin}
use Rattle.rpki_locator.specs.declared.anchor_uri.AnchorUri.{AnchorUri}
use Rattle.rpki_objects.specs.TypedObject.{TypedParts}
use Rattle.rpki_valid.specs.Verified.{Authority, Holder, Terms}
use Rattle.rpki_validation.specs.declared.outcome.Outcome.{Outcome}
use Rattle.rpki_validation.specs.declared.outcome.Rejection.{Rejection}
use Rattle.rpki_validation.specs.declared.payload.Payload.{Payload}
use Rattle.rpki_validation.specs.Alike.{AreAlike, PublishTheSame}
use Rattle.rpki_validation.specs.Basis.{Basis, basis_by, basis_of, holder_of}
use Rattle.rpki_validation.specs.Counts.{Counts, CountsAt}
use Rattle.rpki_validation.specs.Finding.{IsSole}
use Rattle.rpki_validation.specs.declared.looked.Looked.{Looked}
use Rattle.rpki_validation.specs.Held.{IsSaidOf, SaysBy}
use Rattle.rpki_time.specs.Validity.{HoldsAt, Period}
use Rattle.rpki_validation.specs.Holding.ReachedFor.{Top}
use Rattle.rpki_validation.specs.Levels.Reached.{First}
use Rattle.rpki_validation.specs.Looked.{InsertsLooked}
use Rattle.rpki_validation.specs.Named.{IsNamed, IsNamedBelow}
use Rattle.rpki_validation.specs.Holding.{IsHeldFor, ReachedFor, SaysOriginBy, SaysProvidersBy, SaysRouterBy, values}
use Rattle.rpki_validation.specs.Met.{Mark}
use Rattle.rpki_validation.specs.Noting.{AddsOnly, Noted, Within}
use Rattle.rpki_validation.specs.Payload.{AreProviders, IsOrigin, IsRouter}
use Rattle.rpki_validation.specs.Publication.{PublicationParts}
use Rattle.rpki_validation.specs.Reached.{IsBelow, IsFirstAnchor}
use Rattle.rpki_validation.specs.Rejected.{AreNoted, IsNotedUnder, IsRejectedFile, IsRejection, IsRejectionOf}
use Rattle.rpki_validation.specs.Rejected.{IsRightFile}
use Rattle.rpki_validation.specs.Said.{SaysOrigin, SaysProviders, SaysRouter}
use Rattle.rpki_validation.specs.Snapshot.{Published}
use Rattle.rpki_validation.specs.Taking.{Adds}
use Rattle.rpki_validation.specs.Validated.{AreExactly, IsWaitingBelow, LooksAtOne, SayProviders, WaitBelow, WaitsUnder}
use Rattle.rpki_validation.specs.Sisters.{IsSister}
use Rattle.rpki_validation.specs.Waiting.{AddsWaiting, Entry, IsFirstWaiting}
use Rattle.rpki_validation.proofs.MarkLaws.{met-more, met-was, published-more, published-new, published-was}
use Rattle.rpki_validation.proofs.MarkLaws.{same-itself}
use Rattle.rpki_validation.proofs.TurnLaws.{looked-named, looked-other, passed-named, passed-other}
use Rattle.rpki_validation.proofs.AlikeLaws.{alike-turned, below-alike, origin-alike, providers-alike, router-alike}
use Rattle.rpki_validation.proofs.MetLaws.{head-in, none-in, tail-in}
use Rattle.rpki_validation.proofs.NotingLaws.{noted-more}
use Rattle.rpki_validation.proofs.TraceLaws.{In, IsEntry, IsTrace, PlaceOf, below-looked, counted}
use Rattle.rpki_validation.proofs.TraceLaws.{counted-looked, counts-looked}

-- ---- what is said of those that were looked at

module _ (published : Published) (basis : Basis) where
  -- what is noted stays so
  pub noted-kept : (depth : ℕ) (x : Holder) (old new : List Rejection) → Within old new
      → AreNoted published basis depth x old → AreNoted published basis depth x new
  noted-kept depth x old new within h = record {
    point = λ none. noted-more _ old new within (h.point none);
    files = λ p there file listed octets stands. by p file octets (h.files p there file listed octets stands);
  } where
    by : (p : PublicationParts) (file : ListedFile) (octets : List ℕ)
        → IsRightFile depth basis x p.list file octets
        ⊎ Noted (IsRejectedFile depth basis x p file octets) old
        → IsRightFile depth basis x p.list file octets
        ⊎ Noted (IsRejectedFile depth basis x p file octets) new
    by p file octets (inl k) = inl k
    by p file octets (inr k) = inr (noted-more _ old new within k)

module _ {X : Type 0} (published : Published) (basis : Basis) where
  -- exactly what these say is told, each payload in its period; and exactly what is rejected of them
  pub record IsTold (One : Authority X → Type 0) (o : Outcome) : Type 0 where
    pub origins : (v : RouteOrigin) → Contains (values o.origins.items) v
        ↔ ((a : Authority X) × One a × SaysOrigin published basis (holder_of a) v)
    pub providers : (v : TypedParts AspaParts) → Contains (values o.providers.items) v
        ↔ ((a : Authority X) × One a × SaysProviders published basis (holder_of a) v)
    pub routers : (v : Holder) → Contains (values o.routers.items) v
        ↔ ((a : Authority X) × One a × SaysRouter published basis (holder_of a) v)
    pub origins_hold : (v : Payload RouteOrigin) → Contains o.origins.items v
        → (a : Authority X) × One a × IsSaidOf published basis (codes ".roa") SaysOriginBy a v
    pub providers_hold : (v : Payload (TypedParts AspaParts)) → Contains o.providers.items v
        → (a : Authority X) × One a × IsSaidOf published basis (codes ".asa") SaysProvidersBy a v
    pub routers_hold : (v : Payload Holder) → Contains o.routers.items v
        → (a : Authority X) × One a × IsSaidOf published basis (codes ".cer") SaysRouterBy a v
    pub each : (r : Rejection) → Contains o.rejections.items r
        → (a : Authority X) × One a × IsRejectionOf published basis a.depth (holder_of a) r
    pub noted : (a : Authority X) → One a → AreNoted published basis a.depth (holder_of a) o.rejections.items

  module _ (One : Authority X → Type 0) (none : (a : Authority X) → One a → ⊥) where
    none-said : {V : Type 0} (Says : Authority X → V → Type 0) (xs : List V) → xs ≡ [] → (v : V)
        → Contains xs v ↔ ((a : Authority X) × One a × Says a v)
    none-said {V} Says xs e v = (
      λ h. absurd (none-in v (subst (λ (l : List V). Contains l v) e h)),
      λ h. absurd (none h.0 h.1),
    )

    none-there : {V : Type 0} (P : V → Type 0) (xs : List V) → xs ≡ [] → (v : V) → Contains xs v → P v
    none-there {V} P xs e v h = absurd (none-in v (subst (λ (l : List V). Contains l v) e h))

    pub told-start : (o : Outcome) → o.origins.items ≡ [] → o.providers.items ≡ [] → o.routers.items ≡ []
        → o.rejections.items ≡ [] → IsTold One o
    told-start o origins providers routers rejections = record {
      origins = none-said (λ a v. SaysOrigin published basis (holder_of a) v) (values o.origins.items)
          (ap (λ (l : List (Payload RouteOrigin)). values l) origins);
      providers = none-said (λ a v. SaysProviders published basis (holder_of a) v) (values o.providers.items)
          (ap (λ (l : List (Payload (TypedParts AspaParts))). values l) providers);
      routers = none-said (λ a v. SaysRouter published basis (holder_of a) v) (values o.routers.items)
          (ap (λ (l : List (Payload Holder)). values l) routers);
      origins_hold = none-there _ o.origins.items origins;
      providers_hold = none-there _ o.providers.items providers;
      routers_hold = none-there _ o.routers.items routers;
      each = none-there _ o.rejections.items rejections;
      noted = λ a h. absurd (none a h);
    }

  module _ (One Then : Authority X → Type 0) (a : Authority X) (to : (b : Authority X) → One b → Then b)
      (itself : Then a) (from : (b : Authority X) → Then b → One b ⊎ (a ≡ b)) where
    said-more : {V : Type 0} (Says : Authority X → V → Type 0) (xs ys : List V)
        → ((v : V) → Contains xs v ↔ ((b : Authority X) × One b × Says b v)) → Adds (Says a) xs ys → (v : V)
        → Contains ys v ↔ ((b : Authority X) × Then b × Says b v)
    said-more {V} Says xs ys before adds v = (λ h. forth ((adds v).0 h), λ h. (adds v).1 (back h.0 h.2 (from h.0 h.1)))
      where
        forth : Contains xs v ⊎ Says a v → (b : Authority X) × Then b × Says b v
        forth (inl h) = let k = (before v).0 h in (k.0, to k.0 k.1, k.2)
        forth (inr h) = (a, itself, h)

        back : (b : Authority X) → Says b v → One b ⊎ (a ≡ b) → Contains xs v ⊎ Says a v
        back b s (inl h) = inl ((before v).1 (b, h, s))
        back b s (inr e) = inr (subst (λ (c : Authority X). Says c v) (sym e) s)

    hold-more : {V : Type 0} (Says : Authority X → V → Type 0) (xs ys : List V)
        → ((v : V) → Contains xs v → (b : Authority X) × One b × Says b v) → AddsOnly (Says a) xs ys → (v : V)
        → Contains ys v → (b : Authority X) × Then b × Says b v
    hold-more Says xs ys before adds v h = by (adds v h) where
      by : Contains xs v ⊎ Says a v → (b : Authority X) × Then b × Says b v
      by (inl m) = let k = before v m in (k.0, to k.0 k.1, k.2)
      by (inr s) = (a, itself, s)

    -- what one more says
    pub told-more : (is_named : Bool) (w w' : List (Entry X)) (o o' : Outcome) → IsTold One o
        → LooksAtOne published basis is_named a w w' o o' → IsTold Then o'
    told-more is_named w w' o o' before h = record {
      origins = said-more (λ b v. SaysOrigin published basis (holder_of b) v) (values o.origins.items)
          (values o'.origins.items) before.origins h.origins;
      providers = said-more (λ b v. SaysProviders published basis (holder_of b) v) (values o.providers.items)
          (values o'.providers.items) before.providers h.providers;
      routers = said-more (λ b v. SaysRouter published basis (holder_of b) v) (values o.routers.items)
          (values o'.routers.items) before.routers h.routers;
      origins_hold = hold-more (IsSaidOf published basis (codes ".roa") SaysOriginBy) o.origins.items o'.origins.items
          before.origins_hold h.held.origins;
      providers_hold = hold-more (IsSaidOf published basis (codes ".asa") SaysProvidersBy) o.providers.items
          o'.providers.items before.providers_hold h.held.providers;
      routers_hold = hold-more (IsSaidOf published basis (codes ".cer") SaysRouterBy) o.routers.items
          o'.routers.items before.routers_hold h.held.routers;
      each = hold-more (λ b r. IsRejectionOf published basis b.depth (holder_of b) r) o.rejections.items
          o'.rejections.items before.each (λ r c. rejected r (h.rejected.each r c));
      noted = λ b c. noted-of b (from b c);
    } where
      rejected : (r : Rejection) → Contains o.rejections.items r
          ⊎ ((x : Holder) × (holder_of a ≡ x) × IsRejectionOf published basis a.depth x r)
          → Contains o.rejections.items r ⊎ IsRejectionOf published basis a.depth (holder_of a) r
      rejected r (inl k) = inl k
      rejected r (inr (x, e, k)) = inr (subst (λ (y : Holder). IsRejectionOf published basis a.depth y r) (sym e) k)

      noted-of : (b : Authority X) → One b ⊎ (a ≡ b)
          → AreNoted published basis b.depth (holder_of b) o'.rejections.items
      noted-of b (inl k) =
          noted-kept published basis b.depth (holder_of b) o.rejections.items o'.rejections.items h.rejected.kept
          (before.noted b k)
      noted-of b (inr e) =
          subst (λ (c : Authority X). AreNoted published basis c.depth (holder_of c) o'.rejections.items) e
          (h.rejected.all (holder_of a) refl)

-- ---- one more

module _ {X : Type 0} (published : Published) (basis : Basis) (uris : List AnchorUri) (anchor : Authority X)
    (sole : IsSole (IsFirstAnchor published basis uris) (holder_of anchor)) (ns os : List (Authority X))
    (a : Authority X) where
  abbrev Was : Authority X → Type 0
  Was = In published basis uris anchor sole ns os

  to-ns : (b : Authority X) → Was b → In published basis uris anchor sole (ns ++ (a ∷ [])) os b
  to-ns b (inl c) = inl (Contains-append_left ns (a ∷ []) b c)
  to-ns b (inr c) = inr c

  from-ns : (b : Authority X) → In published basis uris anchor sole (ns ++ (a ∷ [])) os b → Was b ⊎ (a ≡ b)
  from-ns b (inl c) = by (Contains-push_cases ns a b c) where
    by : Contains ns b ⊎ (a ≡ b) → Was b ⊎ (a ≡ b)
    by (inl k) = inl (inl k)
    by (inr k) = inr k
  from-ns b (inr c) = inl (inr c)

  to-os : (b : Authority X) → Was b → In published basis uris anchor sole ns (os ++ (a ∷ [])) b
  to-os b (inl c) = inl c
  to-os b (inr c) = inr (Contains-append_left os (a ∷ []) b c)

  from-os : (b : Authority X) → In published basis uris anchor sole ns (os ++ (a ∷ [])) b → Was b ⊎ (a ≡ b)
  from-os b (inl c) = inl (inl c)
  from-os b (inr c) = by (Contains-push_cases os a b c) where
    by : Contains os b ⊎ (a ≡ b) → Was b ⊎ (a ≡ b)
    by (inl k) = inl (inr k)
    by (inr k) = inr k

-- ---- in the end

module _ {X : Type 0} (published : Published) (basis : Basis) (uris : List AnchorUri) (anchor : Authority X)
    (sole : IsSole (IsFirstAnchor published basis uris) (holder_of anchor)) (ns os : List (Authority X))
    (w : List (Entry X)) (marks places : List Mark) (o : Outcome)
    (at : IsTrace published basis uris anchor sole ns os w marks places)
    (told : IsTold published basis (In published basis uris anchor sole ns os) o) (empty : w ≡ []) where
  abbrev One : Authority X → Type 0
  One = In published basis uris anchor sole ns os

  counts : (a : Authority X) → One a → Counts published basis uris (holder_of a)
  counts a h = record {
    steps = a.depth;
    few = at.few a h;
    counted = counted published basis uris anchor sole ns os w marks places at a h;
  }

  looked : (x : Holder) → Counts published basis uris x → (a : Authority X) × One a × AreAlike x (holder_of a)
  looked x h =
      let k = counts-looked published basis uris anchor sole ns os w marks places at empty x h in
      (k.0, k.1, alike-turned (holder_of k.0) x k.2)

  origin-then : (v : RouteOrigin) → (a : Authority X) × One a × SaysOrigin published basis (holder_of a) v
      → IsOrigin published basis uris v
  origin-then v (a, h, t) = record {
    issuer = holder_of a;
    point = t.point;
    octets = t.octets;
    counted = record { counts = counts a h; published_there = t.file.published_there; file = t.file.file };
    attestation = t.says.0;
    valid = t.says.1;
    says = t.says.2;
  }

  then-origin : (v : RouteOrigin) → IsOrigin published basis uris v
      → (a : Authority X) × One a × SaysOrigin published basis (holder_of a) v
  then-origin v h =
      let k = looked h.issuer h.counted.counts in (
        k.0,
        k.1,
        origin-alike published basis h.issuer (holder_of k.0) k.2 v (record {
          point = h.point;
          octets = h.octets;
          file = record { published_there = h.counted.published_there; file = h.counted.file };
          says = (h.attestation, h.valid, h.says);
        }),
      )

  router-then : (v : Holder) → (a : Authority X) × One a × SaysRouter published basis (holder_of a) v
      → IsRouter published basis uris v
  router-then v (a, h, t) = record {
    issuer = holder_of a;
    point = t.point;
    octets = t.octets;
    counted = record { counts = counts a h; published_there = t.file.published_there; file = t.file.file };
    valid = t.says;
  }

  then-router : (v : Holder) → IsRouter published basis uris v
      → (a : Authority X) × One a × SaysRouter published basis (holder_of a) v
  then-router v h =
      let k = looked h.issuer h.counted.counts in (
        k.0,
        k.1,
        router-alike published basis h.issuer (holder_of k.0) k.2 v (record {
          point = h.point;
          octets = h.octets;
          file = record { published_there = h.counted.published_there; file = h.counted.file };
          says = h.valid;
        }),
      )

  providers-then : (v : AspaParts) → SayProviders (values o.providers.items) v → AreProviders published basis uris v
  providers-then v (x, c, e) =
      let s = (told.providers x).0 c in
      let t = s.2 in
      record {
        issuer = holder_of s.0;
        point = t.point;
        octets = t.octets;
        counted = record { counts = counts s.0 s.1; published_there = t.file.published_there; file = t.file.file };
        attestation = x;
        valid = t.says;
        says = e;
      }

  then-providers : (v : AspaParts) → AreProviders published basis uris v → SayProviders (values o.providers.items) v
  then-providers v h =
      let k = looked h.issuer h.counted.counts in (
        h.attestation,
        (told.providers h.attestation).1 (
          k.0,
          k.1,
          providers-alike published basis h.issuer (holder_of k.0) k.2 h.attestation (record {
            point = h.point;
            octets = h.octets;
            file = record { published_there = h.counted.published_there; file = h.counted.file };
            says = h.valid;
          }),
        ),
        h.says,
      )

  held-for : {T : Type 0} (end : List ℕ) (Says : SaysBy T) (v : Payload T)
      → (a : Authority X) × One a × IsSaidOf published basis end Says a v
      → IsHeldFor published basis uris end Says v
  held-for end Says v (a, h, s) = record {
    steps = a.depth;
    few = at.few a h;
    issuer = holder_of a;
    above = a.period;
    counted = counted published basis uris anchor sole ns os w marks places at a h;
    reached = at.exact a h;
    said = s;
  }

  -- something that counts publishes the same as what is below
  covered : (k : ℕ) (x y : Holder) → CountsAt published basis uris k x → k < basis.terms.deepest
      → IsBelow published basis x y → (z : Holder) × Counts published basis uris z × PublishTheSame z y
  covered k x y h low below =
      let d = counted-looked published basis uris anchor sole ns os w marks places at empty k x (omega (arith, low))
      h in
      by d.0 (omega (arith, low, d.3)) (below-looked published basis uris anchor sole ns os w marks places at empty
      d.0 y
      d.1 (omega (arith, low, d.3)) (below-alike published basis x (holder_of d.0) (alike-turned (holder_of d.0) x
      d.2) y
      below))
    where
      by : (a : Authority X) → a.depth < basis.terms.deepest
          → IsNamed published basis uris (suc a.depth) y ⊎ PlaceOf published basis uris anchor sole ns os y
          → (z : Holder) × Counts published basis uris z × PublishTheSame z y
      by a few (inl n) = (y, record { steps = suc a.depth; few = omega (arith, few); counted = inl n }, same-itself y)
      by a few (inr p) = (holder_of p.0, counts p.0 p.1, p.2)

  -- what is told is exactly what is valid
  pub told-exactly : AreExactly published basis uris o
  told-exactly = record {
    anchor = holder_of anchor;
    first = sole.holds;
    origins = λ v. (λ h. origin-then v ((told.origins v).0 h), λ h. (told.origins v).1 (then-origin v h));
    providers = λ v. (providers-then v, then-providers v);
    routers = λ v. (λ h. router-then v ((told.routers v).0 h), λ h. (told.routers v).1 (then-router v h));
    origins_hold = λ v c. held-for (codes ".roa") SaysOriginBy v (told.origins_hold v c);
    providers_hold = λ v c. held-for (codes ".asa") SaysProvidersBy v (told.providers_hold v c);
    routers_hold = λ v c. held-for (codes ".cer") SaysRouterBy v (told.routers_hold v c);
    rejections = λ r c. rejection r (told.each r c);
    rejected = λ x h. noted-under x (looked x h);
    covered = covered;
  } where
    rejection : (r : Rejection) → (a : Authority X) × One a × IsRejectionOf published basis a.depth (holder_of a) r
        → IsRejection published basis uris r
    rejection r (a, h, k) = record {
      steps = a.depth;
      few = at.few a h;
      issuer = holder_of a;
      counted = counted published basis uris anchor sole ns os w marks places at a h;
      rejected = k;
    }

    noted-under : (x : Holder) → (a : Authority X) × One a × AreAlike x (holder_of a)
        → IsNotedUnder published basis uris o.rejections.items x
    noted-under x (a, h, s) = record {
      steps = a.depth;
      few = at.few a h;
      issuer = holder_of a;
      alike = alike-turned x (holder_of a) s;
      counted = counted published basis uris anchor sole ns os w marks places at a h;
      noted = told.noted a h;
    }

-- ---- turns

module _ {X : Type 0} (published : Published) (basis : Basis) (uris : List AnchorUri) (anchor : Authority X)
    (sole : IsSole (IsFirstAnchor published basis uris) (holder_of anchor)) where
  -- some authorities were looked at, these wait, and what was said is told
  pub record IsWalked (w : List (Entry X)) (k : Looked) (o : Outcome) : Type 0 where
    pub ns : List (Authority X)
    pub os : List (Authority X)
    pub trace : IsTrace published basis uris anchor sole ns os w k.named k.places
    pub told : IsTold published basis (In published basis uris anchor sole ns os) o

  pub walked-all : (w : List (Entry X)) (k : Looked) (o : Outcome) → IsWalked w k o → w ≡ []
      → AreExactly published basis uris o
  walked-all w k o h e =
      told-exactly published basis uris anchor sole h.ns h.os w k.named k.places o h.trace h.told e

  -- the trust anchor waits
  pub walked-start : (k : Looked) (o : Outcome) (w : List (Entry X)) → k.named ≡ [] → k.places ≡ []
      → o.origins.items ≡ [] → o.providers.items ≡ [] → o.routers.items ≡ [] → o.rejections.items ≡ []
      → anchor.depth ≡ 0 → anchor.period ≡ anchor.cert.tbs.validity → AddsWaiting true anchor [] w → IsWalked w k o
  walked-start k o w named places origins providers routers rejections depth own adds = record {
    ns = [];
    os = [];
    trace = record {
      named = λ a c. absurd (none-in a c);
      others = λ a c. absurd (none-in a c);
      taken = λ n x h. absurd h;
      few = λ a h. absurd (none a h);
      exact = λ a h. absurd (none a h);
      entries = λ e c. entry e (adds.only e c);
      first = inr (
        0,
        omega arith,
        (
          adds.mark,
          adds.marked,
          (
            anchor,
            subst (λ (n : ℕ). Contains w ((false, (n, adds.mark)), anchor)) depth adds.added,
          ),
        ),
      );
      below = λ b x c. absurd (none-in b c);
      rest = λ b x h. absurd (none b h);
      published_at = λ x. (
        λ h. absurd (none-in h.0 (subst (λ (l : List Mark). Contains l h.0) places h.2)),
        λ h. absurd (none h.0 h.1),
      );
      marked = λ x. (
        λ h. absurd (none-in h.0 (subst (λ (l : List Mark). Contains l h.0) named h.2)),
        λ h. absurd (none-in h.0 h.1),
      );
      lows = λ a e c. absurd (none-in a c);
      phase = inl refl;
    };
    told = told-start published basis (In published basis uris anchor sole [] []) none o origins providers routers
        rejections;
  } where
    none : (a : Authority X) → In published basis uris anchor sole [] [] a → ⊥
    none a (inl c) = none-in a c
    none a (inr c) = none-in a c

    one : IsEntry published basis uris anchor sole [] [] ((false, (anchor.depth, adds.mark)), anchor)
    one = record {
      marked = adds.marked;
      depth = refl;
      few = omega (arith, depth);
      exact = subst (λ (n : ℕ). ReachedFor published basis (IsFirstAnchor published basis uris) n (holder_of anchor)
          anchor.period) (sym depth) (Top (holder_of anchor) anchor.period sole.holds (λ m.
          subst (λ (q : Period). HoldsAt q m ↔ HoldsAt anchor.cert.tbs.validity m) (sym own) (λ h. h, λ h. h)));
      named = λ t. subst (λ (n : ℕ). IsNamed published basis uris n (holder_of anchor)) (sym depth)
          (First (holder_of anchor) sole.holds);
      other = λ t. let c : ◌≡◌ {A = Bool} false true = t in absurd (cc);
    }

    entry : (e : Entry X) → Contains [] e ⊎ (e ≡ ((false, (anchor.depth, adds.mark)), anchor))
        → IsEntry published basis uris anchor sole [] [] e
    entry e (inl c) = absurd (none-in e c)
    entry e (inr s) = subst (IsEntry published basis uris anchor sole [] []) (sym s) one

  module _ (a : Authority X) (old rest : List (Entry X)) (k k' : Looked) (o : Outcome) where
    abbrev Walked : List (Entry X) → Looked → Outcome → Type 0
    Walked = IsWalked

    abbrev At : Bool → ℕ × Mark → Entry X
    At b key = ((not b, key), a)

    -- it is passed over
    pub passed : (b : Bool) → IsFirstWaiting b a old rest → InsertsLooked b (holder_of a) k k' false
        → IsWalked old k o → IsWalked rest k' o
    passed true first h before =
        let trace = subst (λ (w : List (Entry X)). IsTrace published basis uris anchor sole before.ns before.os w
        k.named
        k.places) first.removed before.trace in
        record {
          ns = before.ns;
          os = before.os;
          trace = passed-named published basis uris anchor sole before.ns before.os (At true first.key) rest k.named
              k.places trace first.above k'.named k'.places refl (met-was k.named k'.named (holder_of a) h.0)
              (met-more k.named k'.named (holder_of a) false h.0)
              (published-more k.places k'.places (holder_of a) h.1.0 h.1.1);
          told = before.told;
        }
    passed false first h before =
        let trace = subst (λ (w : List (Entry X)). IsTrace published basis uris anchor sole before.ns before.os w
        k.named
        k.places) first.removed before.trace in
        record {
          ns = before.ns;
          os = before.os;
          trace = passed-other published basis uris anchor sole before.ns before.os (At false first.key) rest k.named
              k.places trace first.above k'.named k'.places refl
              (published-was k.places k'.places (holder_of a) h.1) h.0
              (published-more k.places k'.places (holder_of a) false h.1);
          told = before.told;
        }

    -- it is looked at
    module _ (w' : List (Entry X)) (o' : Outcome) (b : Bool) (looks : LooksAtOne published basis b a rest w' o o')
        (terms : a.terms ≡ basis.terms)
        (sisters : (f : Entry X) → Contains w' f → Contains rest f ⊎ ((f.1.depth ≡ a.depth + 1)
        × (f.1.depth ≤ basis.terms.deepest))) where
      abbrev New : Entry X → Type 0
      New f = IsWaitingBelow published basis b a f × (f.1.depth ≡ a.depth + 1) × (f.1.depth ≤ basis.terms.deepest)

      only : (f : Entry X) → Contains w' f → Contains rest f ⊎ New f
      only f c = by (looks.only f c) (sisters f c) where
        by : Contains rest f ⊎ IsWaitingBelow published basis b a f
            → Contains rest f ⊎ ((f.1.depth ≡ a.depth + 1) × (f.1.depth ≤ basis.terms.deepest))
            → Contains rest f ⊎ New f
        by (inl m) s = inl m
        by (inr h) (inl m) = inl m
        by (inr h) (inr s) = inr (h, s.0, s.1)

      low : a.depth < basis.terms.deepest → a.depth < a.terms.deepest
      low h = subst (λ (t : Terms). a.depth < t.deepest) (sym terms) h

      named-of : IsTrue b → a.depth < basis.terms.deepest → (x : Holder)
          → IsNamedBelow published basis (holder_of a) x → WaitsUnder w' false (a.depth + 1) x
      named-of t h = looks.named t (low h)

      others-of : a.depth < basis.terms.deepest → (x : Holder) → IsBelow published basis (holder_of a) x
          → (IsTrue b × IsNamedBelow published basis (holder_of a) x) ⊎ WaitsUnder w' true (a.depth + 1) x
      others-of h = looks.others (low h)

    pub looked-at : (w' : List (Entry X)) (o' : Outcome) (b : Bool) → LooksAtOne published basis b a rest w' o o'
        → a.terms ≡ basis.terms
        → ((f : Entry X) → Contains w' f → Contains rest f ⊎ ((f.1.depth ≡ a.depth + 1)
        × (f.1.depth ≤ basis.terms.deepest)))
        → IsFirstWaiting b a old rest → InsertsLooked b (holder_of a) k k' true → IsWalked old k o
        → IsWalked w' k' o'
    looked-at w' o' true looks terms sisters first h before =
        let trace = subst (λ (w : List (Entry X)). IsTrace published basis uris anchor sole before.ns before.os w
        k.named
        k.places) first.removed before.trace in
        record {
          ns = before.ns ++ (a ∷ []);
          os = before.os;
          trace = looked-named published basis uris anchor sole before.ns before.os (At true first.key) rest k.named
              k.places trace first.above k'.named k'.places w' true (only w' o' true looks terms sisters)
              (named-of w' o' true looks terms sisters) (others-of w' o' true looks terms sisters) looks.kept
              (published-more k.places k'.places (holder_of a) h.1.0 h.1.1) refl refl
              (met-more k.named k'.named (holder_of a) true h.0);
          told = told-more published basis (In published basis uris anchor sole before.ns before.os)
              (In published basis uris anchor sole (before.ns ++ (a ∷ [])) before.os) a
              (to-ns published basis uris anchor sole before.ns before.os a) (inl (Contains-push before.ns a))
              (from-ns published basis uris anchor sole before.ns before.os a) true rest w' o o' before.told looks;
        }
    looked-at w' o' false looks terms sisters first h before =
        let trace = subst (λ (w : List (Entry X)). IsTrace published basis uris anchor sole before.ns before.os w
        k.named
        k.places) first.removed before.trace in
        record {
          ns = before.ns;
          os = before.os ++ (a ∷ []);
          trace = looked-other published basis uris anchor sole before.ns before.os (At false first.key) rest k.named
              k.places trace first.above k'.named k'.places w' false (only w' o' false looks terms sisters)
              (named-of w' o' false looks terms sisters) (others-of w' o' false looks terms sisters) looks.kept
              (published-more k.places k'.places (holder_of a) true h.1) refl (λ t. not-true t)
              (published-new k.places k'.places (holder_of a) h.1) h.0;
          told = told-more published basis (In published basis uris anchor sole before.ns before.os)
              (In published basis uris anchor sole before.ns (before.os ++ (a ∷ []))) a
              (to-os published basis uris anchor sole before.ns before.os a) (inr (Contains-push before.os a))
              (from-os published basis uris anchor sole before.ns before.os a) false rest w' o o' before.told looks;
        } where
          not-true : IsTrue false → ⊥
          not-true t = let c : ◌≡◌ {A = Bool} false true = t in absurd (cc)

-- what is told below a trust anchor of these terms, by this provider
module _ {X : Type 0} (models : Models X) (published : Published)
    (at : DateTime) (uris : List AnchorUri) (anchor : Authority X) (o : Outcome) where
  pub told-under : (terms : Terms) (provider : X) → anchor.terms ≡ terms → anchor.provider ≡ provider
      → IsSole (IsFirstAnchor published (basis_by models terms provider at) uris) (holder_of anchor)
      → ((us : List AnchorUri)
      → IsSole (IsFirstAnchor published (basis_of models anchor at) us) (holder_of anchor)
      → AreExactly published (basis_of models anchor at) us o)
      → AreExactly published (basis_by models terms provider at) uris o
  told-under terms provider same by sole told =
      let e = ap (λ (t : Terms). basis_by models t anchor.provider at) same
      ∙ ap (λ (x : X). basis_by models terms x at) by in
      subst (λ (b : Basis). AreExactly published b uris o) e
      (told uris (subst (λ (b : Basis). IsSole (IsFirstAnchor published b uris) (holder_of anchor)) (sym e) sole))

-- ---- sisters

pub start-sisters : {X : Type 0} (anchor : Authority X) (at : DateTime) (w : List (Entry X)) → HoldsAt anchor.period at
    → anchor.depth ≡ 0 → AddsWaiting true anchor [] w → (e : Entry X) → Contains w e
    → IsSister anchor.terms anchor.provider at e.1.depth e.1
start-sisters {X} anchor at w period depth adds e c = by (adds.only e c) where
  own : IsSister anchor.terms anchor.provider at anchor.depth anchor
  own = record { period = period; terms_are = refl; provider_is = refl; depth_is = refl; few = omega (arith, depth) }

  by : Contains [] e ⊎ (e ≡ ((false, (anchor.depth, adds.mark)), anchor))
      → IsSister anchor.terms anchor.provider at e.1.depth e.1
  by (inl m) = absurd (none-in e m)
  by (inr s) =
      subst (λ (a : Authority X). IsSister anchor.terms anchor.provider at a.depth a)
      (sym (ap (λ (q : Entry X). q.1) s)) own

module _ {X : Type 0} (terms : Terms) (provider : X) (at : DateTime) (a : Authority X) (b : Bool)
    (old rest : List (Entry X)) (first : IsFirstWaiting b a old rest)
    (before : (e : Entry X) → Contains old e → IsSister terms provider at e.1.depth e.1) where
  pub first-sister : IsSister terms provider at a.depth a
  first-sister =
      before ((not b, first.key), a) (subst (λ (l : List (Entry X)). Contains l ((not b, first.key), a))
      (sym first.removed) (head-in ((not b, first.key), a) rest))

  pub rest-sisters : (e : Entry X) → Contains rest e → IsSister terms provider at e.1.depth e.1
  rest-sisters e c =
      before e (subst (λ (l : List (Entry X)). Contains l e) (sym first.removed)
      (tail-in ((not b, first.key), a) rest e c))

  pub more-sisters : (w : List (Entry X)) → WaitBelow a at rest w → (e : Entry X) → Contains w e
      → IsSister terms provider at e.1.depth e.1
  more-sisters w waits e c = by (waits e c) where
    by : Contains rest e ⊎ IsSister a.terms a.provider at (a.depth + 1) e.1
        → IsSister terms provider at e.1.depth e.1
    by (inl m) = rest-sisters e m
    by (inr s) = record {
      period = s.period;
      terms_are = s.terms_are ∙ first-sister.terms_are;
      provider_is = s.provider_is ∙ first-sister.provider_is;
      depth_is = refl;
      few = subst (λ (t : Terms). e.1.depth ≤ t.deepest) first-sister.terms_are
          (omega (arith, s.few, s.depth_is));
    }

  -- how deep those are that wait
  pub deep-sisters : (w : List (Entry X)) → WaitBelow a at rest w → (e : Entry X) → Contains w e
      → Contains rest e ⊎ ((e.1.depth ≡ a.depth + 1) × (e.1.depth ≤ terms.deepest))
  deep-sisters w waits e c = by (waits e c) where
    by : Contains rest e ⊎ IsSister a.terms a.provider at (a.depth + 1) e.1
        → Contains rest e ⊎ ((e.1.depth ≡ a.depth + 1) × (e.1.depth ≤ terms.deepest))
    by (inl m) = inl m
    by (inr s) =
        inr (
          s.depth_is,
          subst (λ (t : Terms). e.1.depth ≤ t.deepest) first-sister.terms_are (omega (arith, s.few, s.depth_is)),
        )

-- what is looked at under the terms and the provider of the trust anchor
pub looks-under : {X : Type 0} (models : Models X) (published : Published)
    (at : DateTime) (terms : Terms) (provider : X) (b : Bool) (a : Authority X) (w w' : List (Entry X)) (o o' : Outcome)
    → a.terms ≡ terms → a.provider ≡ provider
    → LooksAtOne published (basis_of models a at) b a w w' o o'
    → LooksAtOne published (basis_by models terms provider at) b a w w' o o'
looks-under {X} models published at terms provider b a w w' o o' same by h =
    subst (λ (q : Basis). LooksAtOne published q b a w w' o o')
    (ap (λ (t : Terms). basis_by models t a.provider at) same
    ∙ ap (λ (x : X). basis_by models terms x at) by) h
