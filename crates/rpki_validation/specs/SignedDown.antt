-- Payloads are signed down from the key of the locator (RFC 6480 6).
use Rattle.std.specs.Prelude.{◌≡◌, List, Some}
use Rattle.std.specs.List.{Contains}
use Rattle.jiff.specs.Types.{DateTime}
use Rattle.rpki.specs.Checkers.{Models}
use Rattle.rpki_cert.specs.declared.profile.Profile.{Profile}
use Rattle.rpki_cert.specs.declared.profile.Profile.TheVariants.{Ee, Router}
use Rattle.rpki_contents.specs.declared.route_origin.RouteOrigin.{RouteOrigin}
use Rattle.rpki_contents.specs.Aspa.{AspaParts}
use Rattle.rpki_contents.specs.Roa.{AttestationParts}
use Rattle.rpki_contents.specs.RouteOrigin.{origins}
use Rattle.rpki_locator.specs.declared.anchor_uri.AnchorUri.{AnchorUri}
use Rattle.rpki_objects.specs.TypedObject.{TypedParts}
use Rattle.rpki_valid.specs.declared.resource.set.ResourceSet.{ResourceSet}
use Rattle.rpki_valid.specs.declared.staleness.Staleness.TheVariants.{Refused}
use Rattle.rpki_valid.specs.ObjectVerified.{IsSignedObject}
use Rattle.rpki_valid.specs.Processed.{KeepsOriginRules, KeepsAspaRules}
use Rattle.rpki_valid.specs.Verified.{HasPath, Holder, Terms, holder}
use Rattle.rpki_validation.specs.Basis.{Basis, basis_by}
use Rattle.rpki_validation.specs.Payload.{AreProviders, IsOrigin, IsRouter}
use Rattle.rpki_validation.specs.Snapshot.{Published}

-- A path leads from a certificate of this profile up to the trust anchor with the locator's key: each certificate is
-- signed by the one above and valid at the moment, within its resources, and not on its list, which counts then.
abbrev pub IsSignedDown : Profile → Basis → Holder → Type 0
IsSignedDown profile basis x = HasPath profile basis.terms (Some Refused) (Some Refused) basis.by basis.at x

-- the certificate of the object is so, which has signed it, and the object keeps the rules of its type under the
-- resources of that
pub record IsObjectSignedDown {C : Type 0} (Rules : TypedParts C → ResourceSet → Type 0) (basis : Basis)
    (x : TypedParts C) : Type 0 where
  pub held : ResourceSet
  pub signed : IsSignedObject basis.by x.object
  pub path : IsSignedDown Ee basis (holder x.object.cert held)
  pub rules : Rules x held

-- of a route origin, an attestation that says it
abbrev pub AreOriginsSignedDown : {X : Type 0} → Models X → X → Type 0
AreOriginsSignedDown models provider =
    (published : Published) (terms : Terms) (at : DateTime) (uris : List AnchorUri) (v : RouteOrigin)
    → IsOrigin published (basis_by models terms provider at) uris v
    → (x : TypedParts AttestationParts) × Contains (origins x.content) v
    × IsObjectSignedDown KeepsOriginRules (basis_by models terms provider at) x

-- of providers, an attestation that is of them
abbrev pub AreProvidersSignedDown : {X : Type 0} → Models X → X → Type 0
AreProvidersSignedDown models provider =
    (published : Published) (terms : Terms) (at : DateTime) (uris : List AnchorUri) (v : AspaParts)
    → AreProviders published (basis_by models terms provider at) uris v
    → (x : TypedParts AspaParts) × (x.content ≡ v)
    × IsObjectSignedDown KeepsAspaRules (basis_by models terms provider at) x

-- of a router, its certificate
abbrev pub AreRoutersSignedDown : {X : Type 0} → Models X → X → Type 0
AreRoutersSignedDown models provider =
    (published : Published) (terms : Terms) (at : DateTime) (uris : List AnchorUri) (x : Holder)
    → IsRouter published (basis_by models terms provider at) uris x
    → IsSignedDown Router (basis_by models terms provider at) x
