-- What the point of an authority says, whether or not the authority counts.
use Rattle.std.specs.Prelude.{ℕ, List, codes}
use Rattle.std.specs.List.{Contains}
use Rattle.rpki_cert.specs.declared.profile.Profile.TheVariants.{Router}
use Rattle.rpki_contents.specs.declared.route_origin.RouteOrigin.{RouteOrigin}
use Rattle.rpki_contents.specs.Aspa.{AspaParts}
use Rattle.rpki_contents.specs.Roa.{AttestationParts}
use Rattle.rpki_contents.specs.RouteOrigin.{origins}
use Rattle.rpki_objects.specs.TypedObject.{TypedParts}
use Rattle.rpki_valid.specs.Verified.{Holder}
use Rattle.rpki_validation.specs.Basis.{Basis}
use Rattle.rpki_validation.specs.Issued.{AreOriginsIn, AreProvidersIn, IsCertIn}
use Rattle.rpki_validation.specs.Point.{IsFile, IsPoint}
use Rattle.rpki_validation.specs.Publication.{PublicationParts}
use Rattle.rpki_validation.specs.Snapshot.{Published}

-- the octets are a file, whose name ends so, of a point of the authority
pub record IsFileOf (published : Published) (basis : Basis) (end octets : List ℕ) (issuer : Holder)
    (point : PublicationParts) : Type 0 where
  pub published_there : IsPoint published basis issuer point
  pub file : IsFile published basis point end octets

-- of such a file P is true
pub record IsSaid (published : Published) (basis : Basis) (end : List ℕ) (issuer : Holder)
    (P : PublicationParts → List ℕ → Type 0) : Type 0 where
  pub point : PublicationParts
  pub octets : List ℕ
  pub file : IsFileOf published basis end octets issuer point
  pub says : P point octets

-- an attestation is among the octets that says the prefix may be announced
abbrev pub SayOrigin : Basis → Holder → RouteOrigin → PublicationParts → List ℕ → Type 0
SayOrigin basis issuer v point octets =
    (x : TypedParts AttestationParts) × AreOriginsIn basis issuer point.list octets x
    × Contains (origins x.content) v

abbrev pub SaysOrigin : Published → Basis → Holder → RouteOrigin → Type 0
SaysOrigin published basis issuer v = IsSaid published basis (codes ".roa") issuer (SayOrigin basis issuer v)

-- the same of an attestation of providers
abbrev pub SaysProviders : Published → Basis → Holder → TypedParts AspaParts → Type 0
SaysProviders published basis issuer x =
    IsSaid published basis (codes ".asa") issuer (λ point octets. AreProvidersIn basis issuer point.list octets x)

-- and of the certificate of a router
abbrev pub SaysRouter : Published → Basis → Holder → Holder → Type 0
SaysRouter published basis issuer x =
    IsSaid published basis (codes ".cer") issuer (λ point octets. IsCertIn Router basis issuer point.list octets x)
