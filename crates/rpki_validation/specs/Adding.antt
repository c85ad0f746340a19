-- What is added to what a walk has found, by a file, by the files of a point, and by the point of an authority.
use Rattle.std.specs.Prelude.{◌≡◌, ◌⊎◌, ◌<◌, ℕ, true, List, [], ◌∷◌, nat_eq, Option, Result, MatchResult}
use Rattle.std.specs.Prelude.{IfOk, Vec, codes}
use Rattle.std.specs.List.{Contains, ends_with}
use Rattle.jiff.specs.Types.{DateTime}
use Rattle.rpki.specs.Checkers.{Models}
use Rattle.rpki_cert.specs.declared.profile.Profile.{Profile}
use Rattle.rpki_cert.specs.declared.profile.Profile.TheVariants.{Ca, Router}
use Rattle.rpki_contents.specs.Aspa.{AspaParts}
use Rattle.rpki_contents.specs.ListedFile.{ListedFile}
use Rattle.rpki_contents.specs.Roa.{AttestationParts}
use Rattle.rpki_contents.specs.RouteOrigin.{origins}
use Rattle.rpki_contents.specs.declared.route_origin.RouteOrigin.{RouteOrigin}
use Rattle.rpki_objects.specs.TypedObject.{TypedParts}
use Rattle.rpki_valid.specs.CrlIssued.{InForce}
use Rattle.rpki_valid.specs.Verified.{Authority, Holder}
use Rattle.rpki_validation.specs.declared.outcome.Outcome.{Outcome}
use Rattle.rpki_validation.specs.declared.payload.Payload.{Payload}
use Rattle.rpki_validation.specs.declared.stop.Stop.{Stop}
use Rattle.rpki_validation.specs.declared.stop.Stop.TheVariants.{Rejected, OutOfMemory}
use Rattle.rpki_validation.specs.Basis.{basis_in, basis_of, holder_of, holders}
use Rattle.rpki_validation.specs.Holding.{values}
use Rattle.rpki_validation.specs.Issued.{AreOriginsIn, AreProvidersIn, IsCertIn}
use Rattle.rpki_validation.specs.Reached.{IsBelow}
use Rattle.rpki_validation.specs.Said.{SaysOrigin, SaysProviders, SaysRouter}
use Rattle.rpki_validation.specs.Snapshot.{Published, Where}
use Rattle.rpki_validation.specs.Taking.{Adds}

-- ---- steps

abbrev pub UnlessMemory : Type 0 → Stop → Type 0
UnlessMemory A (Rejected reason) = A
UnlessMemory A OutOfMemory = Unit {0}

-- the fact, whether a step is done or something is rejected: of allocation failure nothing is said
abbrev pub WhereMemory : {R : Type 0} → Result R Stop → Type 0 → Type 0
WhereMemory r A = MatchResult r (λ _. A) (UnlessMemory A)

-- ---- what is found

-- payloads, and authorities
pub record Found : Type 0 where
  pub origins : List RouteOrigin
  pub providers : List (TypedParts AspaParts)
  pub routers : List Holder
  pub below : List Holder

abbrev pub found : {X A : Type 0} → Vec (Authority X) A → Outcome → Found
found below outcome = record {
  origins = values outcome.origins.items;
  providers = values outcome.providers.items;
  routers = values outcome.routers.items;
  below = holders below.items;
}

-- Exactly these payloads are added, and these authorities, where a path may be so long.
pub record AddsSaid (may : Type 0) (IsOrigin : RouteOrigin → Type 0)
    (AreProviders : TypedParts AspaParts → Type 0) (IsRouter IsAuthority : Holder → Type 0) (old new : Found)
    : Type 0 where
  pub origins : Adds IsOrigin old.origins new.origins
  pub providers : Adds AreProviders old.providers new.providers
  pub routers : Adds IsRouter old.routers new.routers
  pub below : may → Adds IsAuthority old.below new.below

-- ---- files

-- the name of the file ends so, and P is true of its octets
abbrev pub IsSaidBy : List ℕ → (List ℕ → Type 0) → ListedFile → List ℕ → Type 0
IsSaidBy end P file octets = (ends_with nat_eq file.0 end ≡ true) × P octets

-- of one of the files, each with its octets
abbrev pub IsSaidAmong : List ℕ → (List ℕ → Type 0) → List ListedFile → List (List ℕ) → Type 0
IsSaidAmong end P [] os = ⊥
IsSaidAmong end P (file ∷ files) [] = ⊥
IsSaidAmong end P (file ∷ files) (o ∷ os) = IsSaidBy end P file o ⊎ IsSaidAmong end P files os

-- ---- what octets say under a list that counts

module _ {X : Type 0} (models : Models X) (c : InForce X) where
  -- they are an attestation that says the prefix may be announced
  abbrev pub SaysOriginHere : RouteOrigin → List ℕ → Type 0
  SaysOriginHere v octets =
      (x : TypedParts AttestationParts)
      × AreOriginsIn (basis_in models c) (holder_of c.issuer) c.list octets x
      × Contains (origins x.content) v

  -- they are this attestation of providers
  abbrev pub AreProvidersHere : TypedParts AspaParts → List ℕ → Type 0
  AreProvidersHere x octets = AreProvidersIn (basis_in models c) (holder_of c.issuer) c.list octets x

  -- they are this certificate
  abbrev pub IsCertHere : Profile → Holder → List ℕ → Type 0
  IsCertHere profile x octets = IsCertIn profile (basis_in models c) (holder_of c.issuer) c.list octets x

  -- an authority below that of the list is no deeper than its path may be
  abbrev pub MayIssue : Type 0
  MayIssue = c.issuer.depth < c.issuer.terms.deepest

  -- what they say is added
  abbrev pub AddsOriginsHere : List ℕ → List RouteOrigin → List RouteOrigin → Type 0
  AddsOriginsHere octets = Adds (λ v. SaysOriginHere v octets)

  abbrev pub AddsProvidersHere : List ℕ → List (TypedParts AspaParts) → List (TypedParts AspaParts) → Type 0
  AddsProvidersHere octets = Adds (λ x. AreProvidersHere x octets)

  abbrev pub AddsRoutersHere : List ℕ → List Holder → List Holder → Type 0
  AddsRoutersHere octets = Adds (λ x. IsCertHere Router x octets)

  abbrev pub AddsAuthoritiesHere : List ℕ → List Holder → List Holder → Type 0
  AddsAuthoritiesHere octets old new = MayIssue → Adds (λ x. IsCertHere Ca x octets) old new

  -- what a file says is added
  abbrev pub AddsFile : ListedFile → List ℕ → Found → Found → Type 0
  AddsFile file octets =
      AddsSaid MayIssue (λ v. IsSaidBy (codes ".roa") (SaysOriginHere v) file octets)
      (λ x. IsSaidBy (codes ".asa") (AreProvidersHere x) file octets)
      (λ x. IsSaidBy (codes ".cer") (IsCertHere Router x) file octets)
      (λ x. IsSaidBy (codes ".cer") (IsCertHere Ca x) file octets)

  -- what files say
  abbrev pub AddsFiles : List ListedFile → List (List ℕ) → Found → Found → Type 0
  AddsFiles files octets =
      AddsSaid MayIssue (λ v. IsSaidAmong (codes ".roa") (SaysOriginHere v) files octets)
      (λ x. IsSaidAmong (codes ".asa") (AreProvidersHere x) files octets)
      (λ x. IsSaidAmong (codes ".cer") (IsCertHere Router x) files octets)
      (λ x. IsSaidAmong (codes ".cer") (IsCertHere Ca x) files octets)

-- ---- what the point of an authority says

module _ {X : Type 0} (models : Models X) (known : Option Published)
    (issuer : Authority X) (at : DateTime) where
  -- all that it says is added
  abbrev pub AddsPoint : {R : Type 0} → Found → Found → Result R Stop → Type 0
  AddsPoint old new r =
      let basis = basis_of models issuer at in
      let x = holder_of issuer in
      Where known (λ published. WhereMemory r (AddsSaid (issuer.depth < issuer.terms.deepest)
      (SaysOrigin published basis x) (SaysProviders published basis x) (SaysRouter published basis x)
      (IsBelow published basis x) old new))

  -- the same, in sequence, of a walk that ends where allocation fails
  abbrev pub AddsOrigins : {E : Type 0} → List (Payload RouteOrigin) → List (Payload RouteOrigin)
      → Result (Unit {0}) E → Type 0
  AddsOrigins old new r =
      Where known (λ published. IfOk r (λ _. Adds
      (SaysOrigin published (basis_of models issuer at) (holder_of issuer)) (values old) (values new)))

  abbrev pub AddsProviders : {E : Type 0} → List (Payload (TypedParts AspaParts))
      → List (Payload (TypedParts AspaParts))
      → Result (Unit {0}) E → Type 0
  AddsProviders old new r =
      Where known (λ published. IfOk r (λ _. Adds
      (SaysProviders published (basis_of models issuer at) (holder_of issuer)) (values old)
      (values new)))

  abbrev pub AddsRouters : {E : Type 0} → List (Payload Holder) → List (Payload Holder) → Result (Unit {0}) E → Type 0
  AddsRouters old new r =
      Where known (λ published. IfOk r (λ _. Adds
      (SaysRouter published (basis_of models issuer at) (holder_of issuer)) (values old) (values new)))

  abbrev pub AddsAuthorities : {E : Type 0} → List (Authority X) → List (Authority X) → Result (Unit {0}) E → Type 0
  AddsAuthorities old new r =
      Where known (λ published. IfOk r (λ _. issuer.depth < issuer.terms.deepest
      → Adds (IsBelow published (basis_of models issuer at) (holder_of issuer)) (holders old)
      (holders new)))
