-- What steps of a walk promise of the periods of payloads.
use Rattle.std.specs.Prelude.{ℕ, List, Option, codes}
use Rattle.jiff.specs.Types.{DateTime}
use Rattle.rpki.specs.Checkers.{Models}
use Rattle.rpki_cert.specs.Cert.{CertParts}
use Rattle.rpki_contents.specs.declared.route_origin.RouteOrigin.{RouteOrigin}
use Rattle.rpki_contents.specs.Aspa.{AspaParts}
use Rattle.rpki_contents.specs.ListedFile.{ListedFile}
use Rattle.rpki_crl.specs.Crl.{CrlParts}
use Rattle.rpki_objects.specs.TypedObject.{TypedParts}
use Rattle.rpki_valid.specs.CrlIssued.{CountsAt, InForce}
use Rattle.rpki_valid.specs.Verified.{Authority, Holder}
use Rattle.rpki_validation.specs.declared.outcome.Outcome.{Outcome}
use Rattle.rpki_validation.specs.declared.payload.Payload.{Payload}
use Rattle.rpki_validation.specs.Adding.{IsSaidBy}
use Rattle.rpki_validation.specs.Basis.{Basis, basis_in, basis_of, holder_of}
use Rattle.rpki_validation.specs.Holding.{IsPeriodUnder, IsSaidFor, SaysOriginBy, SaysProvidersBy}
use Rattle.rpki_validation.specs.Holding.{SaysRouterBy}
use Rattle.rpki_validation.specs.Noting.{AddsOnly, AnyPair}
use Rattle.rpki_validation.specs.Snapshot.{Published, Where}

-- payloads that are added are such
pub record AddsHeld (IsOrigin : Payload RouteOrigin → Type 0) (AreProviders : Payload (TypedParts AspaParts) → Type 0)
    (IsRouter : Payload Holder → Type 0) (old new : Outcome) : Type 0 where
  pub origins : AddsOnly IsOrigin old.origins.items new.origins.items
  pub providers : AddsOnly AreProviders old.providers.items new.providers.items
  pub routers : AddsOnly IsRouter old.routers.items new.routers.items

-- what octets say, by a certificate
abbrev pub SaysBy : Type 0 → Type 1
SaysBy T = Basis → Holder → CrlParts → List ℕ → T → CertParts → Type 0

-- ---- under a list that counts

module _ {X : Type 0} (models : Models X) (c : InForce X) where
  -- octets say the payload, in its period
  abbrev pub IsSaidHere : {T : Type 0} → SaysBy T → List ℕ → Payload T → Type 0
  IsSaidHere Says octets v =
      (cert : CertParts)
      × Says (basis_in models c) (holder_of c.issuer) c.list octets v.value cert
      × IsPeriodUnder (CountsAt c) cert v.period

  -- a file does, whose name ends so
  abbrev pub IsSaidByFile : {T : Type 0} → List ℕ → SaysBy T → ListedFile → List ℕ → Payload T → Type 0
  IsSaidByFile end Says file octets v = IsSaidBy end (λ o. IsSaidHere Says o v) file octets

  abbrev pub AddsHeldFile : ListedFile → List ℕ → Outcome → Outcome → Type 0
  AddsHeldFile file octets =
      AddsHeld (IsSaidByFile (codes ".roa") SaysOriginBy file octets)
      (IsSaidByFile (codes ".asa") SaysProvidersBy file octets) (IsSaidByFile (codes ".cer") SaysRouterBy file octets)

  abbrev pub IsSaidByOne : {T : Type 0} → List ℕ → SaysBy T → List ListedFile → List (List ℕ) → Payload T → Type 0
  IsSaidByOne end Says files octets v = AnyPair (λ file one. IsSaidByFile end Says file one v) files octets

  abbrev pub AddsHeldFiles : List ListedFile → List (List ℕ) → Outcome → Outcome → Type 0
  AddsHeldFiles files octets =
      AddsHeld (IsSaidByOne (codes ".roa") SaysOriginBy files octets)
      (IsSaidByOne (codes ".asa") SaysProvidersBy files octets) (IsSaidByOne (codes ".cer") SaysRouterBy files octets)

-- ---- of an authority

abbrev pub IsSaidOf : {X T : Type 0} → Published → Basis → List ℕ → SaysBy T → Authority X → Payload T → Type 0
IsSaidOf published basis end Says a = IsSaidFor published basis end Says (holder_of a) a.period

module _ {X : Type 0} (models : Models X) (known : Option Published)
    (issuer : Authority X) (at : DateTime) where
  abbrev pub AddsHeldOf : Outcome → Outcome → Type 0
  AddsHeldOf old new =
      let basis = basis_of models issuer at in
      Where known (λ published. AddsHeld (IsSaidOf published basis (codes ".roa") SaysOriginBy issuer)
      (IsSaidOf published basis (codes ".asa") SaysProvidersBy issuer)
      (IsSaidOf published basis (codes ".cer") SaysRouterBy issuer) old new)
