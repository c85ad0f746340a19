-- What is found under a locator, from what is valid under it; and under several, in sequence.
use Rattle.std.proofs.Common.{◌≡◌, ◌↔◌, ◌∙◌, ℕ, zero, suc, Bool, true, false, List, [], ◌∷◌, ◌++◌, length}
use Rattle.std.proofs.Common.{refl, sym, subst, ap}
use Rattle.std.proofs.Common.{append_assoc, append-nil, arith, ◌⊎◌, inl, inr}
use Rattle.std.proofs.lemmas.List.Elements.{Contains-append_left, Contains-append_right, Contains-append_cases}
use Rattle.std.proofs.lemmas.List.Elements.{Contains-push, Contains-push_cases}
use Rattle.std.specs.Prelude.{◌&&◌, Option, Some}
use Rattle.std.specs.List.{Contains, flat_map}
use Rattle.std.specs.declared.cmp.Ordering.{Ordering}
use Rattle.rpki.specs.PublicKey.{KeyParts}
use Rattle.rpki_contents.specs.Aspa.{AspaParts}
use Rattle.rpki_contents.specs.declared.route_origin.RouteOrigin.{RouteOrigin}
use Rattle.rpki_locator.specs.declared.anchor_uri.AnchorUri.{AnchorUri}
use Rattle.rpki_objects.specs.TypedObject.{TypedParts}
use Rattle.rpki_payloads.specs.declared.vap.CustomerProvider.{CustomerProvider}
use Rattle.rpki_payloads.specs.Payloads.{PayloadParts}
use Rattle.rpki_payloads.specs.RouterKey.{key_cmp}
use Rattle.rpki_payloads.specs.Sets.{IsSetOf}
use Rattle.rpki_payloads.specs.Vap.{pair_cmp, pairs_of}
use Rattle.rpki_payloads.specs.Vrp.{AreOrigins, origin_of, vrp_cmp}
use Rattle.rpki_valid.specs.Verified.{Holder}
use Rattle.rpki_validation.specs.Basis.{Basis}
use Rattle.rpki_validation.specs.declared.payload.Payload.{Payload}
use Rattle.rpki_validation.specs.Finding.{IsNone}
use Rattle.rpki_validation.specs.Holding.{IsOriginFor, values}
use Rattle.rpki_validation.specs.Levels.{Reached}
use Rattle.rpki_validation.specs.Levels.Reached.{First, Next}
use Rattle.rpki_validation.specs.Payload.{AreProviders, IsOrigin, IsRouter}
use Rattle.rpki_validation.specs.declared.outcome.Rejection.{Rejection}
use Rattle.rpki_validation.specs.Counts.{Counts, CountsAt, Taken}
use Rattle.rpki_validation.specs.Named.{IsNamed}
use Rattle.rpki_validation.specs.Reached.{IsFirstAnchor}
use Rattle.rpki_validation.specs.Rejected.{IsNotedUnder, IsRejection}
use Rattle.rpki_validation.specs.Snapshot.{Published, Where}
use Rattle.rpki_validation.specs.Validated.{SayProviders}
use Rattle.rpkivalid.specs.Counted.{tally_of}
use Rattle.rpkivalid.specs.Ends.{AreEnds}
use Rattle.rpkivalid.specs.Found.{AreFound, IsFoundIn, IsProvider, IsSetWhere, router_keys}
use Rattle.rpkivalid.specs.Locators.{Holds, NamedParts}
use Rattle.rpkivalid.specs.Paths.{copy_in}

-- ---- what is among a list

module _ {X : Type 0} where
  head-in : (x : X) (xs : List X) → Contains (x ∷ xs) x
  head-in x xs = Contains-append_left (x ∷ []) xs x (Contains-push [] x)

  tail-in : (x : X) (xs : List X) (y : X) → Contains xs y → Contains (x ∷ xs) y
  tail-in x xs y h = Contains-append_right (x ∷ []) xs y h

  none-in : (y : X) → Contains [] y → ⊥
  none-in y h = absurd (omega (arith, h.1))

  one-in : (x y : X) → Contains (x ∷ []) y → x ≡ y
  one-in x y h = only (Contains-push_cases [] x y h) where
    only : Contains [] y ⊎ (x ≡ y) → x ≡ y
    only (inl k) = absurd (none-in y k)
    only (inr k) = k

  cons-cases : (x : X) (xs : List X) (y : X) → Contains (x ∷ xs) y → (x ≡ y) ⊎ Contains xs y
  cons-cases x xs y h = cases (Contains-append_cases (x ∷ []) xs y h) where
    cases : Contains (x ∷ []) y ⊎ Contains xs y → (x ≡ y) ⊎ Contains xs y
    cases (inl k) = inl (one-in x y k)
    cases (inr k) = inr k

-- ---- what is among the lists of each of a list

flat-to : {A B : Type 0} (f : B → List A) (xs : List B) (v : A) (x : B) → Contains xs x → Contains (f x) v
    → Contains (flat_map f xs) v
flat-to f [] v x h k = absurd (none-in x h)
flat-to {A} {B} f (y ∷ ys) v x h k = by (cons-cases y ys x h) (λ i. flat-to f ys v x i k) where
  by : (y ≡ x) ⊎ Contains ys x → (Contains ys x → Contains (flat_map f ys) v) → Contains (flat_map f (y ∷ ys)) v
  by (inl e) more =
      Contains-append_left (f y) (flat_map f ys) v (subst (λ (z : B). Contains (f z) v) (sym e) k)
  by (inr i) more = Contains-append_right (f y) (flat_map f ys) v (more i)

flat-from : {A B : Type 0} (f : B → List A) (xs : List B) (v : A) → Contains (flat_map f xs) v
    → (x : B) × Contains xs x × Contains (f x) v
flat-from f [] v h = absurd (none-in v h)
flat-from {A} {B} f (y ∷ ys) v h = by (Contains-append_cases (f y) (flat_map f ys) v h) (flat-from f ys v) where
  by : Contains (f y) v ⊎ Contains (flat_map f ys) v
      → (Contains (flat_map f ys) v → (x : B) × Contains ys x × Contains (f x) v)
      → (x : B) × Contains (y ∷ ys) x × Contains (f x) v
  by (inl k) more = (y, head-in y ys, k)
  by (inr k) more = let m = more k in (m.0, tail-in y ys m.0 m.1, m.2)

-- lists of payloads, with their periods or without them
pub flat-values : {T A : Type 0} (f : T → List A) (ps : List (Payload T))
    → flat_map (λ p. f p.value) ps ≡ flat_map f (values ps)
flat-values f [] = refl
flat-values f (p ∷ ps) = ap (λ w. f p.value ++ w) (flat-values f ps)

-- what is said by some of a list is a set, where it is known which
pub set-where : {A B : Type 0} (known : Option Published) (R : A → A → Ordering) (f : B → List A) (xs : List B)
    (P : Published → B → Type 0) (all : List A) → IsSetOf R (Contains (flat_map f xs)) all
    → Where known (λ published. (x : B) → Contains xs x ↔ P published x)
    → IsSetWhere known R (λ published v. (x : B) × P published x × Contains (f x) v) all
set-where {A} {B} known R f xs P all set exactly = record {
  order = set.order;
  each = λ published k v. (
    λ h. from published k v (flat-from f xs v ((set.each v).0 h)),
    λ h. (set.each v).1 (flat-to f xs v h.0 ((exactly published k h.0).1 h.1) h.2),
  );
}
  where
    from : (published : Published) → known ≡ Some published → (v : A)
        → (x : B) × Contains xs x × Contains (f x) v → (x : B) × P published x × Contains (f x) v
    from published k v h = (h.0, (exactly published k h.0).0 h.1, h.2)

-- nothing is, where nothing is said
pub none-where : {A : Type 0} (known : Option Published) (R : A → A → Ordering) (P : Published → A → Type 0)
    (all : List A) → IsSetOf R (Contains []) all → Where known (λ published. (v : A) → P published v → ⊥)
    → IsSetWhere known R P all
none-where known R P all set none = record {
  order = set.order;
  each = λ published k v. (λ h. absurd (none-in v ((set.each v).0 h)), λ h. absurd (none published k v h));
}

-- ---- without a trust anchor

-- without a first one nothing is reached
none-reached : {N : Type 0} {F : N → Type 0} {B : N → N → Type 0} → IsNone F → (n : ℕ) (x : N) → Reached F B n x → ⊥
none-reached none _ _ (First x f) = none x f
none-reached none _ _ (Next n above x reached below) = none-reached none n above reached

-- without a trust anchor no authority counts
module _ (published : Published) (basis : Basis) (uris : List AnchorUri)
    (none : IsNone (IsFirstAnchor published basis uris)) where
  none-above : (S : ℕ → Holder → Type 0) → ((n : ℕ) (x : Holder) → S n x → ⊥) → (n : ℕ) (x : Holder)
      → IsNamed published basis uris n x ⊎ S n x → ⊥
  none-above S nothing n x (inl h) = none-reached none n x h
  none-above S nothing n x (inr h) = nothing n x h

  none-taken : (r n : ℕ) (x : Holder) → Taken published basis uris r n x → ⊥
  none-taken zero n x h = h
  none-taken (suc r) n x (inl h) = none-taken r n x h
  none-taken (suc r) n x (inr h) =
      none-above (Taken published basis uris r) (none-taken r) h.holds.steps h.holds.above h.holds.counts

  none-counted : (n : ℕ) (x : Holder) → CountsAt published basis uris n x → ⊥
  none-counted n x (inl h) = none-reached none n x h
  none-counted n x (inr h) = none-taken h.0 n x h.1

none-counts : (published : Published) (basis : Basis) (uris : List AnchorUri) (x : Holder)
    → IsNone (IsFirstAnchor published basis uris) → Counts published basis uris x → ⊥
none-counts published basis uris x none counts = none-counted published basis uris none counts.steps x counts.counted

-- ---- a locator

module _ (holds : Holds) (folder : List ℕ) (basis : KeyParts → Basis) (l : NamedParts) (p : PayloadParts)
    (name : List ℕ) (uris : List AnchorUri) (name-is : name ≡ l.name) (uris-are : uris ≡ l.uris)
    (named : p.name ≡ name) where
  -- a fact of what is published for the locator
  here : (P : Published → List AnchorUri → Type 0) → Where (copy_in folder name holds) (λ published. P published uris)
      → Where (copy_in folder l.name holds) (λ published. P published l.uris)
  here P h =
      subst (λ (us : List AnchorUri). Where (copy_in folder l.name holds) (λ published. P published us)) uris-are
      (subst (λ (n : List ℕ). Where (copy_in folder n holds) (λ published. P published uris)) name-is h)

  module _ (origins : List (Payload RouteOrigin)) (attestations : List (TypedParts AspaParts)) (routers : List Holder)
      (vrps-are : AreOrigins (values origins) p.vrps) (ends-are : AreEnds origins p.timed)
      (pairs-are : IsSetOf pair_cmp (Contains (flat_map (λ x. pairs_of x.content) attestations)) p.pairs)
      (keys-are : IsSetOf key_cmp (Contains (flat_map (router_keys (basis l.key).by.sha1) routers)) p.keys) where
    -- the route origins that are found
    vrps-where : Where (copy_in folder l.name holds)
        (λ published. (v : RouteOrigin) → Contains (values origins) v ↔ IsOrigin published (basis l.key) l.uris v)
        → IsSetWhere (copy_in folder l.name holds) vrp_cmp
        (λ published v. IsOrigin published (basis l.key) l.uris (origin_of v)) p.vrps
    vrps-where there = record {
      order = vrps-are.order;
      each = λ published k v. (
        λ h. (there published k (origin_of v)).0 ((vrps-are.each v).0 h),
        λ h. (vrps-are.each v).1 ((there published k (origin_of v)).1 h),
      );
    }

    -- the providers that are found
    pairs-where : Where (copy_in folder l.name holds)
        (λ published. (x : AspaParts) → SayProviders attestations x ↔ AreProviders published (basis l.key) l.uris x)
        → IsSetWhere (copy_in folder l.name holds) pair_cmp
        (λ published v. IsProvider published (basis l.key) l.uris v) p.pairs
    pairs-where there = record {
      order = pairs-are.order;
      each = λ published k v. (
        λ h. from published k v (flat-from (λ x. pairs_of x.content) attestations v ((pairs-are.each v).0 h)),
        λ h. (pairs-are.each v).1 (to v h.0 ((there published k h.0).1 h.1) h.2),
      );
    }
      where
        from : (published : Published) → copy_in folder l.name holds ≡ Some published → (v : CustomerProvider)
            → (x : TypedParts AspaParts) × Contains attestations x × Contains (pairs_of x.content) v
            → IsProvider published (basis l.key) l.uris v
        from published k v h = (h.0.content, (there published k h.0.content).0 (h.0, h.1, refl), h.2)

        to : (v : CustomerProvider) (a : AspaParts) → SayProviders attestations a → Contains (pairs_of a) v
            → Contains (flat_map (λ x. pairs_of x.content) attestations) v
        to v a s c =
            flat-to (λ x. pairs_of x.content) attestations v s.0 s.1
            (subst (λ (b : AspaParts). Contains (pairs_of b) v) (sym s.2) c)

    pub found-valid : (rejections : List Rejection) → Where (copy_in folder name holds)
        (λ published. (v : RouteOrigin) → Contains (values origins) v ↔ IsOrigin published (basis l.key) uris v)
        → Where (copy_in folder name holds)
        (λ published. (v : Payload RouteOrigin) → Contains origins v → IsOriginFor published (basis l.key) uris v)
        → Where (copy_in folder name holds)
        (λ published. (x : AspaParts) → SayProviders attestations x ↔ AreProviders published (basis l.key) uris x)
        → Where (copy_in folder name holds)
        (λ published. (x : Holder) → Contains routers x ↔ IsRouter published (basis l.key) uris x)
        → Where (copy_in folder name holds) (λ published. (x : Holder) × IsFirstAnchor published (basis l.key) uris x)
        → Where (copy_in folder name holds)
        (λ published. (r : Rejection) → Contains rejections r → IsRejection published (basis l.key) uris r)
        → Where (copy_in folder name holds)
        (λ published. (x : Holder) → Counts published (basis l.key) uris x
        → IsNotedUnder published (basis l.key) uris rejections x)
        → p.tally ≡ Some (tally_of true rejections) → IsFoundIn holds folder basis l p true
    found-valid rejections says-origins holds-origins says-providers says-routers first each every counted = record {
      name = named ∙ name-is;
      vrps = vrps-where (here (λ published us. (v : RouteOrigin)
          → Contains (values origins) v ↔ IsOrigin published (basis l.key) us v) says-origins);
      timed = record {
        origins = origins;
        hold = here (λ published us. (v : Payload RouteOrigin) → Contains origins v
            → IsOriginFor published (basis l.key) us v) holds-origins;
        each = here (λ published us. (v : RouteOrigin) → Contains (values origins) v
            ↔ IsOrigin published (basis l.key) us v) says-origins;
        ends = ends-are;
      };
      pairs = pairs-where (here (λ published us. (x : AspaParts)
          → SayProviders attestations x ↔ AreProviders published (basis l.key) us x) says-providers);
      keys = set-where (copy_in folder l.name holds) key_cmp (router_keys (basis l.key).by.sha1) routers
          (λ published x. IsRouter published (basis l.key) l.uris x) p.keys keys-are
          (here (λ published us. (x : Holder) → Contains routers x ↔ IsRouter published (basis l.key) us x)
          says-routers);
      counted = record {
        rejections = rejections;
        are = here (λ published us. (r : Rejection) → Contains rejections r
            → IsRejection published (basis l.key) us r) each;
        all = here (λ published us. (x : Holder) → Counts published (basis l.key) us x
            → IsNotedUnder published (basis l.key) us rejections x) every;
        tally_is = counted;
      };
      anchor = λ e. here (λ published us. (x : Holder) × IsFirstAnchor published (basis l.key) us x) first;
      none = λ e. let h : true ≡ false = e in absurd (cc);
    }

  pub found-none : AreOrigins [] p.vrps → AreEnds [] p.timed → IsSetOf pair_cmp (Contains []) p.pairs
      → IsSetOf key_cmp (Contains []) p.keys
      → Where (copy_in folder name holds) (λ published. IsNone (IsFirstAnchor published (basis l.key) uris))
      → p.tally ≡ Some (tally_of false []) → IsFoundIn holds folder basis l p false
  found-none vrps-are ends-are pairs-are keys-are none counted =
      let there = here (λ published us. IsNone (IsFirstAnchor published (basis l.key) us)) none in
      record {
        name = named ∙ name-is;
        vrps = record {
          order = vrps-are.order;
          each = λ published k v. (
            λ h. let c = (vrps-are.each v).0 h in absurd (omega (arith, c.1)),
            λ h. absurd (none-counts published (basis l.key) l.uris h.issuer (there published k) h.counted.counts),
          );
        };
        timed = record {
          origins = [];
          hold = λ published k v h. absurd (none-in v h);
          each = λ published k v. (
            λ h. absurd (none-in v h),
            λ h. absurd (none-counts published (basis l.key) l.uris h.issuer (there published k) h.counted.counts),
          );
          ends = ends-are;
        };
        pairs = none-where (copy_in folder l.name holds) pair_cmp _ p.pairs pairs-are
            (λ published k v h. let a = h.1 in
            none-counts published (basis l.key) l.uris a.issuer (there published k) a.counted.counts);
        keys = none-where (copy_in folder l.name holds) key_cmp _ p.keys keys-are
            (λ published k v h. let a = h.1 in
            none-counts published (basis l.key) l.uris a.issuer (there published k) a.counted.counts);
        counted = record {
          rejections = [];
          are = λ published k r h. absurd (none-in r h);
          all = λ published k x h. absurd (none-counts published (basis l.key) l.uris x (there published k) h);
          tally_is = counted;
        };
        anchor = λ e. let h : false ≡ true = e in absurd (cc);
        none = λ e. there;
      }

-- those in front of the rest are found
abbrev pub IsUpTo : (NamedParts → PayloadParts → Bool → Type 0) → List NamedParts → List NamedParts
    → List PayloadParts → Bool → Type 0
IsUpTo R locators rest found all =
    (more : List PayloadParts) (others : Bool) → AreFound R rest more others
    → AreFound R locators (found ++ more) (all && others)

and-then : (a b c : Bool) → (a && (b && c)) ≡ ((a && b) && c)
and-then true b c = refl
and-then false b c = refl

and-true : (a : Bool) → (a && true) ≡ a
and-true true = refl
and-true false = refl

module _ (R : NamedParts → PayloadParts → Bool → Type 0) (locators : List NamedParts) where
  pub found-step : (rest : List NamedParts) (l : NamedParts) (found : List PayloadParts) (all : Bool)
      (p : PayloadParts) (one : Bool) → IsUpTo R locators (l ∷ rest) found all → R l p one
      → IsUpTo R locators rest (found ++ p ∷ []) (all && one)
  found-step rest l found all p one before is = λ more others h.
      subst (λ (b : Bool). AreFound R locators ((found ++ p ∷ []) ++ more) b) (and-then all one others)
      (subst (λ (ps : List PayloadParts). AreFound R locators ps (all && (one && others)))
      (sym (append_assoc found (p ∷ []) more))
      (before (p ∷ more) (one && others) (one, others, is, h, refl)))

  pub found-end : (rest : List NamedParts) (found : List PayloadParts) (all : Bool) → length rest ≡ 0
      → IsUpTo R locators rest found all → AreFound R locators found all
  found-end (l ∷ rest) found all none before = absurd (omega (arith, none))
  found-end [] found all none before =
      subst (λ (b : Bool). AreFound R locators found b) (and-true all)
      (subst (λ (ps : List PayloadParts). AreFound R locators ps (all && true)) (append-nil found)
      (before [] true refl))
