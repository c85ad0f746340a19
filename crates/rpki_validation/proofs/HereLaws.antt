-- What octets say under a list that counts is added.
use Rattle.std.proofs.Common.{◌≡◌, ◌++◌, ◌∙◌, ◌<◌, ◌+◌, ℕ, Bool, true, false, List, [], ◌∷◌, Result, Ok, Err, codes}
use Rattle.std.proofs.Common.{Option, arith, inl, inr, nat_eq, subst, sym}
use Rattle.std.specs.List.{Contains, ends_with}
use Rattle.std.specs.Bool.{MatchBool}
use Rattle.std.specs.Prelude.{IfErr, IsErr, IsErrAnd}
use Rattle.rpki.specs.Provider.{Checkers}
use Rattle.rpki.specs.Checkers.{Models, checkers_of}
use Rattle.rpki_cert.specs.declared.profile.Profile.{Profile}
use Rattle.rpki_cert.specs.declared.profile.Profile.TheVariants.{Ca, Router}
use Rattle.rpki_cert.specs.Cert.{CertParts, SpellsCert}
use Rattle.rpki_cert.specs.CertFault.{IsDecodedPart}
use Rattle.rpki_cert.specs.Profile.{HasProfile}
use Rattle.rpki_contents.specs.Aspa.{AspaParts}
use Rattle.rpki_contents.specs.ListedFile.{ListedFile}
use Rattle.rpki_contents.specs.Roa.{AttestationParts}
use Rattle.rpki_contents.specs.RouteOrigin.{origins}
use Rattle.rpki_contents.specs.declared.route_origin.RouteOrigin.{RouteOrigin}
use Rattle.rpki_objects.specs.TypedObject.{TypedParts}
use Rattle.jiff.specs.Types.{DateTime}
use Rattle.rpki_time.specs.Validity.{HoldsAt}
use Rattle.rpki_valid.specs.declared.resource.set.ResourceSet.{ResourceSet}
use Rattle.rpki_valid.specs.CrlIssued.{InForce}
use Rattle.rpki_valid.specs.Verified.{Authority, Holder, IsAuthorityAt, IsVerified, Terms}
use Rattle.rpki_valid.specs.Verified.{verified_by}
use Rattle.rpki_valid.specs.Verified.IsAuthorityAt.{Issued as IssuedBelow, Root}
use Rattle.rpki_valid.specs.declared.staleness.Staleness.{Staleness}
use Rattle.rpki_validation.specs.declared.reason.Reason.{Reason}
use Rattle.rpki_validation.specs.declared.stop.Stop.{Stop}
use Rattle.rpki_validation.specs.declared.stop.Stop.TheVariants.{Rejected, OutOfMemory}
use Rattle.rpki_validation.specs.Adding.{AddsAuthoritiesHere, AddsFile, AddsOriginsHere, AddsProvidersHere}
use Rattle.rpki_validation.specs.Adding.{AddsRoutersHere}
use Rattle.rpki_validation.specs.Adding.{AreProvidersHere}
use Rattle.rpki_validation.specs.Adding.{Found, IsCertHere, IsSaidBy, MayIssue, SaysOriginHere}
use Rattle.rpki_validation.specs.Adding.{UnlessMemory, WhereMemory}
use Rattle.rpki_validation.specs.Basis.{basis_in, holder_of}
use Rattle.rpki_validation.specs.Finding.{IsCertReason, IsNone, IsRejected, IsSole, StopsAt}
use Rattle.rpki_validation.specs.Issued.{AreOriginsIn, AreProvidersIn, HasWrongConstraints, IsCountedCert, IsNoCertIn}
use Rattle.rpki_validation.specs.Issued.{IsNoRouterIn}
use Rattle.rpki_validation.specs.Issued.IsNoCertIn.{NoAuthority, NoRouter, Unread, WrongConstraints}
use Rattle.rpki_validation.specs.Rejected.IsWrongFile.{NoCert, NoOrigins, NoProviders}
use Rattle.rpki_validation.specs.Rejecting.{IsRightHere, IsSettled, IsWrongHere, SettlesCert, SettlesFile}
use Rattle.rpki_validation.specs.Rejecting.{SettlesOrigins, SettlesProviders}
use Rattle.rpki_validation.specs.Steps.{IsIssuedHere, IsNoAuthorityHere}
use Rattle.rpki_validation.specs.Taking.{Adds}
use Rattle.rpki_validation.proofs.AddingLaws.{adds-list, adds-sole, stops-none}
use Rattle.rpki_validation.proofs.EndingLaws.{adds-never, adds-where, asa-cer, roa-asa, roa-cer}
use Rattle.rpki_validation.proofs.FindingLaws.{stops-later}
use Rattle.rpki_validation.proofs.TakingLaws.{adds-none}

-- ---- steps

-- what a `?` returns
pub tried-memory : {R : Type 0} (A : Type 0) (d : Stop) (r : Result R Stop) → IsErr r × IsErrAnd r (λ e. e ≡ d)
    → UnlessMemory A d → WhereMemory r A
tried-memory A d (Ok x) h k = absurd h.1
tried-memory A d (Err e) h k = subst (UnlessMemory A) (sym h.1) k

pub memory-here : (A : Type 0) (s : Stop) → A → UnlessMemory A s
memory-here A (Rejected reason) a = a
memory-here A OutOfMemory a = tt

-- what follows from what is known
pub where-memory : {R : Type 0} (A B : Type 0) (r : Result R Stop) → (A → B) → WhereMemory r A → WhereMemory r B
where-memory A B (Ok x) f h = f h
where-memory A B (Err (Rejected reason)) f h = f h
where-memory A B (Err OutOfMemory) f h = tt

pub where-always : {R : Type 0} (A : Type 0) (r : Result R Stop) → A → WhereMemory r A
where-always A (Ok x) a = a
where-always A (Err (Rejected reason)) a = a
where-always A (Err OutOfMemory) a = tt

pub err-always : {R : Type 0} (A : Type 0) (r : Result R Stop) → A → IfErr r (UnlessMemory A)
err-always A (Ok x) a = tt
err-always A (Err (Rejected reason)) a = a
err-always A (Err OutOfMemory) a = tt

pub err-memory : {R : Type 0} (A : Type 0) (d : Stop) (r : Result R Stop) → IsErr r × IsErrAnd r (λ e. e ≡ d)
    → UnlessMemory A d → IfErr r (UnlessMemory A)
err-memory A d (Ok x) h k = absurd h.1
err-memory A d (Err e) h k = subst (UnlessMemory A) (sym h.1) k

pub where-both : {R : Type 0} (A B D : Type 0) (r : Result R Stop) → (A → B → D) → WhereMemory r A → WhereMemory r B
    → WhereMemory r D
where-both A B D (Ok x) f h k = f h k
where-both A B D (Err (Rejected reason)) f h k = f h k
where-both A B D (Err OutOfMemory) f h k = tt

module _ {X : Type 0} (models : Models X) (c : InForce X) where
  module _ (octets : List ℕ) where
    -- ---- attestations

    abbrev Origins : TypedParts AttestationParts → Type 0
    Origins = AreOriginsIn (basis_in models c) (holder_of c.issuer) c.list octets

    abbrev AddsOrigins' : List RouteOrigin → List RouteOrigin → Type 0
    AddsOrigins' = AddsOriginsHere models c octets

    pub no-origins : (K : Reason → Type 0) (s : Stop) (xs : List RouteOrigin) → StopsAt Origins K s
        → UnlessMemory (AddsOrigins' xs xs) s
    no-origins K s xs h = stops-none Origins K (AddsOrigins' xs xs) s (λ none. adds-none _ xs (λ v k. none k.0 k.1)) h

    pub origins-found : (x : TypedParts AttestationParts) → IsSole Origins x → (xs : List RouteOrigin)
        → AddsOrigins' xs (xs ++ origins x.content)
    origins-found x h xs =
        adds-list (λ v. SaysOriginHere models c v octets) xs (origins x.content)
        (λ v k. (x, h.holds, k))
        (λ v k. subst (λ (y : TypedParts AttestationParts). Contains (origins y.content) v) (h.sole k.0 k.1) k.2)

    abbrev Providers : TypedParts AspaParts → Type 0
    Providers = AreProvidersIn (basis_in models c) (holder_of c.issuer) c.list octets

    abbrev AddsProviders' : List (TypedParts AspaParts) → List (TypedParts AspaParts) → Type 0
    AddsProviders' = AddsProvidersHere models c octets

    pub no-providers : (K : Reason → Type 0) (s : Stop) (xs : List (TypedParts AspaParts)) → StopsAt Providers K s
        → UnlessMemory (AddsProviders' xs xs) s
    no-providers K s xs h = stops-none Providers K (AddsProviders' xs xs) s (λ none. adds-none _ xs none) h

    pub providers-found : (x : TypedParts AspaParts) → IsSole Providers x → (xs : List (TypedParts AspaParts))
        → AddsProviders' xs (xs ++ x ∷ [])
    providers-found x h xs = adds-sole Providers x h xs

    -- ---- certificates

    abbrev IsCert : Profile → Holder → Type 0
    IsCert profile x = IsCertHere models c profile x octets

    abbrev AddsRouters' : List Holder → List Holder → Type 0
    AddsRouters' = AddsRoutersHere models c octets

    abbrev AddsBelow' : List Holder → List Holder → Type 0
    AddsBelow' = AddsAuthoritiesHere models c octets

    abbrev Spelled : CertParts → Type 0
    Spelled x = SpellsCert x octets

    pub unread-routers : (K : Reason → Type 0) (s : Stop) (xs : List Holder) → StopsAt Spelled K s
        → UnlessMemory (AddsRouters' xs xs) s
    unread-routers K s xs h =
        stops-none Spelled K (AddsRouters' xs xs) s (λ none. adds-none _ xs (λ x k. none x.cert k.spells)) h

    pub unread-below : (K : Reason → Type 0) (s : Stop) (xs : List Holder) → StopsAt Spelled K s
        → UnlessMemory (AddsBelow' xs xs) s
    unread-below K s xs h =
        stops-none Spelled K (AddsBelow' xs xs) s (λ none may. adds-none _ xs (λ x k. none x.cert k.spells)) h

    pub unread-cert : (s : Stop) → StopsAt Spelled (IsCertReason (IsDecodedPart octets) (λ e. ⊥)) s
        → StopsAt (IsCountedCert c.issuer.depth (basis_in models c) (holder_of c.issuer) c.list octets)
        (IsNoCertIn c.issuer.depth (basis_in models c) (holder_of c.issuer) c.list octets) s
    unread-cert s h =
        stops-later _ _ Spelled (IsCertReason (IsDecodedPart octets) (λ e. ⊥)) s h (λ none. none-of none)
        (λ reason k. Unread k) where
          none-of : IsNone Spelled
              → IsNone (IsCountedCert c.issuer.depth (basis_in models c) (holder_of c.issuer) c.list
              octets)
          none-of none x (inl h) = none x.cert h.spells
          none-of none x (inr h) = none x.cert h.1.spells

    module _ (cert : CertParts) (read : IsSole Spelled cert) where
      abbrev Issued : Profile → ResourceSet → Type 0
      Issued profile = IsIssuedHere models c profile cert

      the-cert : (profile : Profile) (x : Holder) → IsCert profile x → x.cert ≡ cert
      the-cert profile x h = read.sole x.cert h.spells

      issued : (profile : Profile) (x : Holder) → IsCert profile x → Issued profile x.resources
      issued profile x h =
          subst (λ (y : CertParts). IsIssuedHere models c profile y x.resources)
          (the-cert profile x h) h.valid

      -- another profile
      other : (profile : Profile) → ((strict : Bool) → HasProfile profile strict cert.tbs → ⊥) → IsNone (IsCert profile)
      other profile not x h = not c.issuer.terms.strictness.names (issued profile x h).profiled

      pub other-routers : ((strict : Bool) → HasProfile Router strict cert.tbs → ⊥) → (xs : List Holder)
          → AddsRouters' xs xs
      other-routers not xs = adds-none _ xs (other Router not)

      pub other-below : ((strict : Bool) → HasProfile Ca strict cert.tbs → ⊥) → (xs : List Holder)
          → AddsBelow' xs xs
      other-below not xs may = adds-none _ xs (other Ca not)

      -- it isn't issued
      pub no-routers : (K : Reason → Type 0) (s : Stop) (xs : List Holder) → StopsAt (Issued Router) K s
          → UnlessMemory (AddsRouters' xs xs) s
      no-routers K s xs h =
          stops-none (Issued Router) K (AddsRouters' xs xs) s
          (λ none. adds-none _ xs (λ x k. none x.resources (issued Router x k))) h

      pub no-below : (s : Stop) (xs : List Holder) → IsNoAuthorityHere models c cert s
          → UnlessMemory (AddsBelow' xs xs) s
      no-below s xs h =
          stops-none (λ (r : ResourceSet). MayIssue models c × Issued Ca r) _ (AddsBelow' xs xs) s
          (λ none may. adds-none _ xs (λ x k. none x.resources (may, issued Ca x k))) h

      -- it is, and has these resources
      held : (profile : Profile) (x : Holder) → x.cert ≡ cert → IsSole (Issued profile) x.resources
          → IsSole (IsCert profile) x
      held profile x e h = record {
        holds = record {
          spells = subst (λ (y : CertParts). SpellsCert y octets) (sym e) read.holds;
          valid = subst (λ (y : CertParts). IsIssuedHere models c profile y x.resources) (sym e) h.holds;
        };
        sole = λ y k.
            let cert = the-cert profile y k ∙ sym e in
            let resources = h.sole y.resources (issued profile y k) in
            λ i. record { cert = cert i; resources = resources i };
      }

      pub routers-found : (x : Holder) → x.cert ≡ cert → IsSole (Issued Router) x.resources → (xs : List Holder)
          → AddsRouters' xs (xs ++ x ∷ [])
      routers-found x e h xs = adds-sole (IsCert Router) x (held Router x e h) xs

      -- ---- whether it counts

      abbrev Counted : Holder → Type 0
      Counted =
          IsCountedCert c.issuer.depth (basis_in models c) (holder_of c.issuer) c.list octets

      abbrev Why : Reason → Type 0
      Why = IsNoCertIn c.issuer.depth (basis_in models c) (holder_of c.issuer) c.list octets

      none-counted : IsNone (IsCert Router) → (MayIssue models c → IsNone (IsCert Ca)) → IsNone Counted
      none-counted router ca x (inl h) = router x h
      none-counted router ca x (inr h) = ca h.0 x h.1

      pub wrong-constraints : (s : Stop) → ((strict : Bool) → HasProfile Router strict cert.tbs → ⊥)
          → ((strict : Bool) → HasProfile Ca strict cert.tbs → ⊥) → IsRejected (HasWrongConstraints cert.tbs) s
          → StopsAt Counted Why s
      wrong-constraints (Rejected reason) router ca h =
          (none-counted (other Router router) (λ may. other Ca ca), WrongConstraints cert read.holds h)
      wrong-constraints OutOfMemory router ca h = tt

      pub no-authority : (s : Stop) → ((strict : Bool) → HasProfile Router strict cert.tbs → ⊥)
          → IsNoAuthorityHere models c cert s → StopsAt Counted Why s
      no-authority s router h =
          stops-later Counted Why (λ (r : ResourceSet). MayIssue models c × Issued Ca r) _ s h
          (λ none. none-counted (other Router router) (λ may x k. none x.resources (may, issued Ca x k)))
          (λ reason k. NoAuthority cert read.holds router k)

      pub no-router : (s : Stop) → ((strict : Bool) → HasProfile Ca strict cert.tbs → ⊥)
          → StopsAt (Issued Router) (IsCertReason (λ q. ⊥)
          (IsNoRouterIn (basis_in models c) (holder_of c.issuer) c.list cert)) s
          → StopsAt Counted Why s
      no-router s ca h =
          stops-later Counted Why (Issued Router) _ s h
          (λ none. none-counted (λ x k. none x.resources (issued Router x k)) (λ may. other Ca ca))
          (λ reason k. NoRouter cert read.holds ca k)

      pub router-counts : (x : Holder) → x.cert ≡ cert → IsSole (Issued Router) x.resources → (y : Holder) × Counted y
      router-counts x e h = (x, inl (held Router x e h).holds)

      pub authority-counts : (a : Authority X) → a.cert ≡ cert → IsSole (Issued Ca) a.resources
          → MayIssue models c → (y : Holder) × Counted y
      authority-counts a e h may = (holder_of a, inr (may, (held Ca (holder_of a) e h).holds))

      pub authority-said : (a : Authority X) → a.cert ≡ cert → IsSole (Issued Ca) a.resources → IsCert Ca (holder_of a)
      authority-said a e h = (held Ca (holder_of a) e h).holds

      pub router-said : (x : Holder) → x.cert ≡ cert → IsSole (Issued Router) x.resources → IsCert Router x
      router-said x e h = (held Router x e h).holds

      pub below-found : (a : Authority X) → a.cert ≡ cert → IsSole (Issued Ca) a.resources → (xs : List Holder)
          → AddsBelow' xs (xs ++ holder_of a ∷ [])
      below-found a e h xs may = adds-sole (IsCert Ca) (holder_of a) (held Ca (holder_of a) e h) xs

  -- ---- a file, by its name

  module _ (file : ListedFile) (octets : List ℕ) where
    abbrev Adds' : Found → Found → Type 0
    Adds' = AddsFile models c file octets

    abbrev End : List ℕ → Type 0
    End end = ends_with nat_eq file.0 end ≡ true

    abbrev Says : RouteOrigin → List ℕ → Type 0
    Says = SaysOriginHere models c

    abbrev Are : TypedParts AspaParts → List ℕ → Type 0
    Are = AreProvidersHere models c

    abbrev with_origins : Found → List RouteOrigin → Found
    with_origins f xs = record f { origins = xs }

    abbrev with_providers : Found → List (TypedParts AspaParts) → Found
    with_providers f xs = record f { providers = xs }

    pub origins-file : End (codes ".roa") → (old : Found) (new : List RouteOrigin)
        → AddsOriginsHere models c octets old.origins new → Adds' old (with_origins old new)
    origins-file roa old new h = record {
      origins = adds-where _ _ roa old.origins new h;
      providers = adds-never _ _ (roa-asa file.0 roa) old.providers;
      routers = adds-never _ _ (roa-cer file.0 roa) old.routers;
      below = λ may. adds-never _ _ (roa-cer file.0 roa) old.below;
    }

    pub providers-file : (End (codes ".roa") → ⊥) → End (codes ".asa") → (old : Found)
        (new : List (TypedParts AspaParts)) → AddsProvidersHere models c octets old.providers new
        → Adds' old (with_providers old new)
    providers-file none asa old new h = record {
      origins = adds-never _ _ none old.origins;
      providers = adds-where _ _ asa old.providers new h;
      routers = adds-never _ _ (asa-cer file.0 asa) old.routers;
      below = λ may. adds-never _ _ (asa-cer file.0 asa) old.below;
    }

    pub cert-file : (End (codes ".roa") → ⊥) → (End (codes ".asa") → ⊥) → End (codes ".cer") → (old new : Found)
        → old.origins ≡ new.origins → old.providers ≡ new.providers
        → AddsRoutersHere models c octets old.routers new.routers
        → AddsAuthoritiesHere models c octets old.below new.below → Adds' old new
    cert-file none not cer old new o p h k = record {
      origins = subst
          (λ (xs : List RouteOrigin). Adds (λ v. IsSaidBy (codes ".roa") (Says v) file octets) old.origins xs) o
          (adds-never (End (codes ".roa")) (λ v. Says v octets) none old.origins);
      providers = subst
          (λ (xs : List (TypedParts AspaParts)).
          Adds (λ x. IsSaidBy (codes ".asa") (Are x) file octets) old.providers xs) p
          (adds-never (End (codes ".asa")) (λ x. Are x octets) not old.providers);
      routers = adds-where _ _ cer old.routers new.routers h;
      below = λ may. adds-where _ _ cer old.below new.below (k may);
    }

    pub other-file : (End (codes ".roa") → ⊥) → (End (codes ".asa") → ⊥) → (End (codes ".cer") → ⊥) → (xs : Found)
        → Adds' xs xs
    other-file none not never xs = record {
      origins = adds-never _ _ none xs.origins;
      providers = adds-never _ _ not xs.providers;
      routers = adds-never _ _ never xs.routers;
      below = λ may. adds-never _ _ never xs.below;
    }

    -- ---- whether it counts

    abbrev Right : Type 0
    Right = IsRightHere models c file octets

    abbrev Wrong : Reason → Type 0
    Wrong = IsWrongHere models c file octets

    abbrev Settled : {R : Type 0} → Result R Stop → Type 0
    Settled = SettlesFile models c file octets

    settled : {R V : Type 0} (P : V → Type 0) (K : Reason → Type 0) (r : Result R Stop)
        → (((v : V) × P v) → Right) → ((reason : Reason) → IsNone P → K reason → Wrong reason) → IsSettled P K r
        → Settled r
    settled P K (Ok x) right wrong h = right h
    settled P K (Err (Rejected reason)) right wrong h = wrong reason h.0 h.1
    settled P K (Err OutOfMemory) right wrong h = tt

    pub origins-settled : {R : Type 0} (r : Result R Stop) → End (codes ".roa")
        → SettlesOrigins models c octets r → Settled r
    origins-settled r roa =
        settled _ _ r
        (λ h. record {
          origins = λ e. h;
          providers = λ e. absurd (roa-asa file.0 roa e);
          cert = λ e. absurd (roa-cer file.0 roa e);
        })
        (λ reason none k. NoOrigins roa none k)

    pub providers-settled : {R : Type 0} (r : Result R Stop) → End (codes ".asa")
        → SettlesProviders models c octets r → Settled r
    providers-settled r asa =
        settled _ _ r
        (λ h. record {
          origins = λ e. absurd (roa-asa file.0 e asa);
          providers = λ e. h;
          cert = λ e. absurd (asa-cer file.0 asa e);
        })
        (λ reason none k. NoProviders asa none k)

    pub cert-settled : {R : Type 0} (r : Result R Stop) → End (codes ".cer")
        → SettlesCert models c octets r → Settled r
    cert-settled r cer =
        settled _ _ r
        (λ h. record {
          origins = λ e. absurd (roa-cer file.0 e cer);
          providers = λ e. absurd (asa-cer file.0 e cer);
          cert = λ e. h;
        })
        (λ reason none k. NoCert cer none k)

    pub other-settled : (End (codes ".roa") → ⊥) → (End (codes ".asa") → ⊥) → (End (codes ".cer") → ⊥) → Right
    other-settled roa asa cer = record {
      origins = λ e. absurd (roa e);
      providers = λ e. absurd (asa e);
      cert = λ e. absurd (cer e);
    }

-- ---- paths

-- an authority below another has a path that may be so long
deep-enough : (terms : Terms) (asked : Option Staleness) (by : Checkers) (at : DateTime) (n : ℕ) (x : Holder)
    → IsAuthorityAt terms asked by at n x → (k : ℕ) → n ≡ k + 1 → k < terms.deepest
deep-enough terms asked by at _ _ (Root x h) k is = absurd (omega (arith, is))
deep-enough terms asked by at _ _ (IssuedBelow n m issuer x up e low link) k is = omega (arith, e, low, is)

pub may-issue : {X : Type 0} (models : Models X) (c : InForce X)
    (a : Authority X) → IsVerified (verified_by models a) → HoldsAt a.period c.at
    → a.depth ≡ c.issuer.depth + 1 → a.terms ≡ c.issuer.terms → MayIssue models c
may-issue models c a verified period deep same =
    subst (λ (t : Terms). c.issuer.depth < t.deepest) same
    (deep-enough a.terms a.asked (checkers_of models a.provider) c.at a.depth (holder_of a)
    (verified c.at period) c.issuer.depth deep)

-- ---- answers of tests

pub told-authority : (cert : CertParts) (b : Bool) → b ≡ true
    → ((strict : Bool) → MatchBool b (HasProfile Router strict cert.tbs → ⊥) (HasProfile Ca strict cert.tbs → ⊥))
    → (strict : Bool) → HasProfile Router strict cert.tbs → ⊥
told-authority cert b e h strict =
    subst (λ (t : Bool). MatchBool t (HasProfile Router strict cert.tbs → ⊥) (HasProfile Ca strict cert.tbs → ⊥)) e
    (h strict)

pub told-router : (cert : CertParts) (b : Bool) → b ≡ false
    → ((strict : Bool) → MatchBool b (HasProfile Router strict cert.tbs → ⊥) (HasProfile Ca strict cert.tbs → ⊥))
    → (strict : Bool) → HasProfile Ca strict cert.tbs → ⊥
told-router cert b e h strict =
    subst (λ (t : Bool). MatchBool t (HasProfile Router strict cert.tbs → ⊥) (HasProfile Ca strict cert.tbs → ⊥)) e
    (h strict)

pub ends-so : (b t : Bool) → t ≡ b → t ≡ true → b ≡ true
ends-so b t e h = sym e ∙ h

pub ends-otherwise : (b t : Bool) → t ≡ b → t ≡ false → b ≡ true → ⊥
ends-otherwise b t e h k = let f : ◌≡◌ {A = Bool} true false = sym k ∙ sym e ∙ h in absurd (cc)
