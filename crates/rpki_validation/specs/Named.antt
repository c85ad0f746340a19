-- Authorities that are named: the manifest that one publishes names where its certificate is, and the certificate where
-- that of its issuer is (RFC 6487 4.8.7).
use Rattle.std.specs.Prelude.{◌≡◌, ℕ, Bool, true, false, List, Option, None, Some, Result}
use Rattle.rpki_cert.specs.Access.{HasUri, SpellsRsyncAccess, ca_issuers}
use Rattle.rpki_cert.specs.Cert.{CertParts, SpellsCert, TbsParts}
use Rattle.rpki_cert.specs.Known.{authority_info_access}
use Rattle.rpki_contents.specs.Manifest.{ManifestParts}
use Rattle.rpki_locator.specs.declared.anchor_uri.AnchorUri.{AnchorUri}
use Rattle.rpki_objects.specs.TypedObject.{TypedParts, manifest_object}
use Rattle.rpki_text.specs.RsyncText.{uri_of}
use Rattle.rpki_valid.specs.Verified.{Holder}
use Rattle.rpki_validation.specs.declared.stop.Stop.{Stop}
use Rattle.rpki_validation.specs.Basis.{Basis}
use Rattle.rpki_validation.specs.Finding.{Finds}
use Rattle.rpki_validation.specs.Levels.{Reached}
use Rattle.rpki_validation.specs.Met.{IsPlace}
use Rattle.rpki_validation.specs.Publication.{HasManifest, ValueAt}
use Rattle.rpki_validation.specs.Reached.{IsBelow, IsFirstAnchor}
use Rattle.rpki_validation.specs.Snapshot.{Published, Where}

-- where the certificate of the issuer is, as this one says: the first rsync URI of its access
abbrev pub NamesIssuer : TbsParts → List ℕ → Type 0
NamesIssuer t uri = HasUri authority_info_access (SpellsRsyncAccess ca_issuers) t.extensions (Some uri)

-- Where the certificate of the subject is, as its manifest says: a manifest is where the certificate says, and the
-- certificate in that names the URI of its issuer's.
pub record IsNamedByManifest (published : Published) (strict : Bool) (t : TbsParts) (uri : List ℕ) : Type 0 where
  pub place : List ℕ
  pub manifest_place : HasManifest t place
  pub manifest : TypedParts ManifestParts
  pub there : ValueAt published (manifest_object strict) (uri_of place) manifest
  pub names : NamesIssuer manifest.object.cert.tbs uri

-- a certificate is at the URI of which the same is signed
pub record IsCertAt (published : Published) (x : CertParts) (uri : List ℕ) : Type 0 where
  pub octets : List ℕ
  pub stands : published.objects (uri_of uri) ≡ Some octets
  pub cert : CertParts
  pub spells : SpellsCert cert octets
  pub same : cert.signed.signed ≡ x.signed.signed

-- the certificate is where its subject's manifest says
pub record Stands (published : Published) (strict : Bool) (x : CertParts) : Type 0 where
  pub uri : List ℕ
  pub named : IsNamedByManifest published strict x.tbs uri
  pub cert : IsCertAt published x uri

-- it names its issuer's where the manifest of that does
pub record Follows (published : Published) (strict : Bool) (issuer x : TbsParts) : Type 0 where
  pub uri : List ℕ
  pub named : IsNamedByManifest published strict issuer uri
  pub other : List ℕ
  pub names : NamesIssuer x other
  pub same : uri_of other ≡ uri_of uri

-- the one authority is below the other, by name
pub record IsNamedBelow (published : Published) (basis : Basis) (issuer x : Holder) : Type 0 where
  pub below : IsBelow published basis issuer x
  pub follows : Follows published basis.terms.strictness.attributes issuer.cert.tbs x.cert.tbs
  pub stands : Stands published basis.terms.strictness.attributes x.cert

-- so many steps lead down by name from the trust anchor of the locator with these URIs
abbrev pub IsNamed : Published → Basis → List AnchorUri → ℕ → Holder → Type 0
IsNamed published basis uris = Reached (IsFirstAnchor published basis uris) (IsNamedBelow published basis)

-- ---- as it is decided

-- the manifest of the subject; or none
pub record IsManifestOf (published : Published) (strict : Bool) (t : TbsParts) (manifest : TypedParts ManifestParts)
    : Type 0 where
  pub place : List ℕ
  pub manifest_place : HasManifest t place
  pub there : ValueAt published (manifest_object strict) (uri_of place) manifest

abbrev pub FindsManifestOf : Option Published → Bool → TbsParts → Result (TypedParts ManifestParts) Stop → Type 0
FindsManifestOf known strict t r =
    Where known (λ published. Finds (λ x. x) (IsManifestOf published strict t) (λ reason. Unit {0}) r)

-- the certificate names the place as that of its issuer's
pub record FollowsPlace (place : Option (List ℕ)) (t : TbsParts) : Type 0 where
  pub uri : List ℕ
  pub place_is : place ≡ Some uri
  pub other : List ℕ
  pub names : NamesIssuer t other
  pub same : uri_of other ≡ uri_of uri

-- and is where its subject's manifest says
abbrev pub IsNamedFrom : Published → Bool → Option (List ℕ) → CertParts → Type 0
IsNamedFrom published strict place x = FollowsPlace place x.tbs × Stands published strict x

-- where the certificate is of an authority that is named, as its manifest says; of another it isn't asked
abbrev pub IsFrom : Published → Bool → Bool → CertParts → Option (List ℕ) → Type 0
IsFrom published strict true issuer place = IsPlace (IsNamedByManifest published strict issuer.tbs) place
IsFrom published strict false issuer place = place ≡ None
