-- What is valid under a locator (RFC 6811 2, RFC 8209, draft-ietf-sidrops-aspa-profile).
use Rattle.std.specs.Prelude.{◌≡◌, ℕ, List, codes}
use Rattle.std.specs.List.{Contains}
use Rattle.rpki_cert.specs.declared.profile.Profile.TheVariants.{Router}
use Rattle.rpki_contents.specs.declared.route_origin.RouteOrigin.{RouteOrigin}
use Rattle.rpki_contents.specs.Aspa.{AspaParts}
use Rattle.rpki_contents.specs.Roa.{AttestationParts}
use Rattle.rpki_contents.specs.RouteOrigin.{origins}
use Rattle.rpki_locator.specs.declared.anchor_uri.AnchorUri.{AnchorUri}
use Rattle.rpki_objects.specs.TypedObject.{TypedParts}
use Rattle.rpki_valid.specs.Verified.{Holder}
use Rattle.rpki_validation.specs.Basis.{Basis}
use Rattle.rpki_validation.specs.Issued.{AreOriginsIn, AreProvidersIn, IsCertIn}
use Rattle.rpki_validation.specs.Point.{IsFile, IsPoint}
use Rattle.rpki_validation.specs.Publication.{PublicationParts}
use Rattle.rpki_validation.specs.Counts.{Counts}
use Rattle.rpki_validation.specs.Snapshot.{Published}

-- the octets are a file, whose name ends so, of a point of an authority that counts
pub record IsCounted (published : Published) (basis : Basis) (uris : List AnchorUri) (end octets : List ℕ)
    (issuer : Holder) (point : PublicationParts) : Type 0 where
  pub counts : Counts published basis uris issuer
  pub published_there : IsPoint published basis issuer point
  pub file : IsFile published basis point end octets

-- this prefix may be announced: an attestation says so
pub record IsOrigin (published : Published) (basis : Basis) (uris : List AnchorUri) (v : RouteOrigin) : Type 0 where
  pub issuer : Holder
  pub point : PublicationParts
  pub octets : List ℕ
  pub counted : IsCounted published basis uris (codes ".roa") octets issuer point
  pub attestation : TypedParts AttestationParts
  pub valid : AreOriginsIn basis issuer point.list octets attestation
  pub says : Contains (origins attestation.content) v

-- these are the providers of the customer: an attestation says so
pub record AreProviders (published : Published) (basis : Basis) (uris : List AnchorUri) (v : AspaParts) : Type 0 where
  pub issuer : Holder
  pub point : PublicationParts
  pub octets : List ℕ
  pub counted : IsCounted published basis uris (codes ".asa") octets issuer point
  pub attestation : TypedParts AspaParts
  pub valid : AreProvidersIn basis issuer point.list octets attestation
  pub says : attestation.content ≡ v

-- the certificate is of a router, with these resources
pub record IsRouter (published : Published) (basis : Basis) (uris : List AnchorUri) (x : Holder) : Type 0 where
  pub issuer : Holder
  pub point : PublicationParts
  pub octets : List ℕ
  pub counted : IsCounted published basis uris (codes ".cer") octets issuer point
  pub valid : IsCertIn Router basis issuer point.list octets x
