-- What the steps of a validator promise.
use Rattle.std.specs.Prelude.{◌<◌, Bool, List, ℕ, Option, Result}
use Rattle.jiff.specs.Types.{DateTime}
use Rattle.rpki.specs.Checkers.{Models}
use Rattle.rpki_cert.specs.Cert.{CertParts, TbsParts}
use Rattle.rpki_cert.specs.declared.profile.Profile.{Profile}
use Rattle.rpki_cert.specs.declared.profile.Profile.TheVariants.{Ca, Router}
use Rattle.rpki_contents.specs.Aspa.{AspaParts}
use Rattle.rpki_contents.specs.ListedFile.{ListedFile}
use Rattle.rpki_contents.specs.Manifest.{ManifestParts}
use Rattle.rpki_contents.specs.Roa.{AttestationParts}
use Rattle.rpki_locator.specs.declared.anchor_uri.AnchorUri.{AnchorUri}
use Rattle.rpki_crl.specs.Crl.{CrlParts}
use Rattle.rpki_objects.specs.TypedObject.{TypedParts, manifest_object}
use Rattle.rpki_text.specs.RsyncText.{RsyncUri}
use Rattle.rpki_valid.specs.declared.resource.set.ResourceSet.{ResourceSet}
use Rattle.rpki_valid.specs.CrlIssued.{InForce}
use Rattle.rpki_valid.specs.Verified.{Authority, Terms}
use Rattle.rpki_validation.specs.declared.router.RouterCert.{RouterCert}
use Rattle.rpki_validation.specs.declared.stop.Stop.{Stop}
use Rattle.rpki_validation.specs.Basis.{basis_by, basis_in, holder_of}
use Rattle.rpki_validation.specs.Finding.{Finds, IsCertReason, IsSole, StopsAt}
use Rattle.rpki_validation.specs.Issued.{AreOriginsIn, AreNoOriginsIn, AreProvidersIn, AreNoProvidersIn, IsIssuedCert}
use Rattle.rpki_validation.specs.Issued.{IsNoAuthorityIn, IsNoRouterIn}
use Rattle.rpki_validation.specs.Point.{AreOctetsOf, IsIncomplete}
use Rattle.rpki_validation.specs.Publication.{IsListOn, IsNoFile, IsNoListOn, IsNoPublication, IsNoValue, IsPublication}
use Rattle.rpki_validation.specs.Publication.{PublicationParts, StandsAs, ValueAt}
use Rattle.rpki_validation.specs.Reached.{IsAnchorAt, IsAnchorIn, IsFirstAnchor, IsNoAnchor, IsNoAnchorAt, IsNoAnchorIn}
use Rattle.rpki_validation.specs.Snapshot.{Published, Where}

-- ---- trust anchors

module _ {X : Type 0} (models : Models X) (terms : Terms) (provider : X)
    (at : DateTime) where
  -- the trust anchor that the octets are
  abbrev pub FindsAnchorIn : List ℕ → Result (Authority X) Stop → Type 0
  FindsAnchorIn octets =
      let basis = basis_by models terms provider at in
      Finds holder_of (IsAnchorIn basis octets) (IsNoAnchorIn basis octets)

  -- that which was fetched from the URI
  abbrev pub FindsAnchorAt : Option Published → AnchorUri → Result (Authority X) Stop → Type 0
  FindsAnchorAt known uri r =
      let basis = basis_by models terms provider at in
      Where known (λ published. Finds holder_of (IsAnchorAt published basis uri) (IsNoAnchorAt published basis uri) r)

  -- that of a locator with these URIs
  abbrev pub FindsAnchor : Option Published → List AnchorUri → Result (Authority X) Stop → Type 0
  FindsAnchor known uris r =
      let basis = basis_by models terms provider at in
      Where known (λ published. Finds holder_of (IsFirstAnchor published basis uris)
      (IsNoAnchor published basis uris) r)

-- ---- what is published

-- the manifest at the URI
abbrev pub FindsManifest : Option Published → Bool → RsyncUri → Result (TypedParts ManifestParts) Stop → Type 0
FindsManifest known strict uri r =
    Where known (λ published. Finds (λ x. x) (ValueAt published (manifest_object strict) uri)
    (IsNoValue published (manifest_object strict) uri) r)

module _ (known : Option Published) (sha256 : List ℕ → List ℕ) where
  -- the octets of a file in the folder
  abbrev pub FindsFile : List ℕ → ListedFile → Result (List ℕ) Stop → Type 0
  FindsFile folder file r =
      Where known (λ published. Finds (λ x. x) (StandsAs published sha256 folder file)
      (IsNoFile published sha256 folder file) r)

  -- those of all files
  abbrev pub FindsFiles : {V : Type 0} → (V → List (List ℕ)) → List ℕ → List ListedFile → Result V Stop → Type 0
  FindsFiles view folder files r =
      Where known (λ published. Finds view (AreOctetsOf published sha256 folder files)
      (IsIncomplete published sha256 folder files) r)

  -- the list of a manifest with these files
  abbrev pub FindsList : List ℕ → List ListedFile → Result CrlParts Stop → Type 0
  FindsList folder files r =
      Where known (λ published. Finds (λ x. x) (IsListOn published sha256 folder files)
      (IsNoListOn published sha256 folder files) r)

  -- the publication that the certificate names
  abbrev pub FindsPublication : Bool → TbsParts → Result PublicationParts Stop → Type 0
  FindsPublication strict t r =
      Where known (λ published. Finds (λ x. x) (IsPublication published sha256 strict t)
      (IsNoPublication published sha256 strict t) r)

-- ---- what an authority has issued, by a list that counts

module _ {X : Type 0} (models : Models X) (c : InForce X) where
  -- the attestation of route origins that the octets are
  abbrev pub FindsOrigins : List ℕ → Result (TypedParts AttestationParts) Stop → Type 0
  FindsOrigins octets =
      let basis = basis_in models c in
      Finds (λ x. x) (AreOriginsIn basis (holder_of c.issuer) c.list octets)
      (AreNoOriginsIn basis (holder_of c.issuer) c.list octets)

  -- the attestation of providers that they are
  abbrev pub FindsProviders : List ℕ → Result (TypedParts AspaParts) Stop → Type 0
  FindsProviders octets =
      let basis = basis_in models c in
      Finds (λ x. x) (AreProvidersIn basis (holder_of c.issuer) c.list octets)
      (AreNoProvidersIn basis (holder_of c.issuer) c.list octets)

  -- the authority of the list has issued the certificate, of this profile, which has these resources
  abbrev pub IsIssuedHere : Profile → CertParts → ResourceSet → Type 0
  IsIssuedHere profile = IsIssuedCert profile (basis_in models c) (holder_of c.issuer) c.list

  -- of an authority
  abbrev pub IsAuthorityHere : CertParts → ResourceSet → Type 0
  IsAuthorityHere cert = IsSole (IsIssuedHere Ca cert)

  -- of none; or the path would be too long
  abbrev pub IsNoAuthorityHere : CertParts → Stop → Type 0
  IsNoAuthorityHere cert =
      StopsAt (λ (r : ResourceSet). (c.issuer.depth < c.issuer.terms.deepest) × IsIssuedHere Ca cert r)
      (IsCertReason (λ _. ⊥)
      (IsNoAuthorityIn c.issuer.depth (basis_in models c) (holder_of c.issuer) c.list cert))

  -- of a router
  abbrev pub FindsRouter : CertParts → Result RouterCert Stop → Type 0
  FindsRouter cert =
      Finds (λ x. x.resources) (IsIssuedHere Router cert)
      (IsCertReason (λ _. ⊥) (IsNoRouterIn (basis_in models c) (holder_of c.issuer) c.list cert))
