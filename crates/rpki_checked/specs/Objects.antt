-- Signed objects that are handed out (RFC 6488 3, RFC 9286 5.1, 6.3, RFC 9582 5, draft-ietf-sidrops-aspa-profile 4).
use Rattle.std.specs.Prelude.{◌⊎◌, ℕ, true, List, Some, Result, MatchResult}
use Rattle.rpki_der.specs.Prelude.{Format, IsWholeFault}
use Rattle.rpki.specs.Provider.{Checkers}
use Rattle.rpki.specs.Checkers.{Models, checkers_of}
use Rattle.rpki.specs.declared.repository.error.ValidationError.{ValidationError}
use Rattle.rpki_cert.specs.declared.profile.Profile.TheVariants.{Ee}
use Rattle.rpki_cert.specs.Profile.{rules_of, HasProfile}
use Rattle.rpki_cert.specs.RuleError.{ChecksBy, IsFirstError}
use Rattle.rpki_contents.specs.Manifest.{ManifestParts}
use Rattle.rpki_objects.specs.Strictness.{all_strict}
use Rattle.rpki_objects.specs.SignedObject.{ObjectParts}
use Rattle.rpki_objects.specs.TypedObject.{TypedParts, origin_object, aspa_object, manifest_object}
use Rattle.rpki_issue.specs.SignedObjects.{ObjectToSign, IsIssuedObject, IsObjectRefused}
use Rattle.rpki_valid.specs.declared.resource.set.ResourceSet.{ResourceSet}
use Rattle.rpki_valid.specs.CrlIssued.{InForce, HasListedPath}
use Rattle.rpki_valid.specs.ErrorTexts.{not_inherited_text}
use Rattle.rpki_valid.specs.ObjectResources.{AreInherited}
use Rattle.rpki_valid.specs.ObjectVerified.{IsSignedObject, IsUnsignedObject, IsValidObject, IsInvalidObject}
use Rattle.rpki_valid.specs.Processed.{KeepsOwnOriginRules, IsOwnOriginError, KeepsOwnAspaRules, IsOwnAspaError}
use Rattle.rpki_valid.specs.Processed.{KeepsOriginRules, BreaksOriginRules, KeepsAspaRules, BreaksAspaRules}
use Rattle.rpki_valid.specs.Processed.{KeepsManifestRules, BreaksManifestRules, IsProcessed, IsUnprocessed}
use Rattle.rpki_valid.specs.ResourceSet.{AreWithin, IsOut}
use Rattle.rpki_valid.specs.Valid.{HasReason, Unless}
use Rattle.rpki_valid.specs.Verified.{verified_by}
use Rattle.rpki_checked.specs.declared.error.CheckError.{CheckError}
use Rattle.rpki_checked.specs.Checked.{IsFound, IsUnfound, IsCheckRefusal}

-- what the second step makes
abbrev pub IsMadeObject : Checkers → ObjectToSign → List ℕ → List ℕ → List ℕ → Type 0
IsMadeObject by = IsIssuedObject by

-- the second step refuses it; or what it makes is none that is asked for
abbrev pub IsObjectRefusal : Checkers → ObjectToSign → List ℕ → List ℕ → (List ℕ → ValidationError → Type 0)
    → CheckError → Type 0
IsObjectRefusal by made certificate value =
    IsCheckRefusal (IsObjectRefused by made certificate value)
    (IsMadeObject by made certificate value)

-- the octets are an object of this format that is so; or they aren't, with this error
abbrev pub IsObject : {C : Type 0} → Format (TypedParts C) → (TypedParts C → Type 0) → List ℕ → Type 0
IsObject F = IsFound F.spells

abbrev pub IsNoObject : {C : Type 0} → Format (TypedParts C) → (TypedParts C → ValidationError → Type 0) → List ℕ
    → ValidationError → Type 0
IsNoObject F = IsUnfound F.spells (IsWholeFault F.spells F.fault)

-- ---- by the certificate alone

-- an end entity of its profile, names checked too, whose key has signed the content
pub record IsSignedAlone (by : Checkers) (x : ObjectParts) : Type 0 where
  pub profiled : HasProfile Ee true x.cert.tbs
  pub signed : IsSignedObject by x

abbrev pub IsNotAlone : Checkers → ObjectParts → ValidationError → Type 0
IsNotAlone by x =
    Unless (HasProfile Ee true x.cert.tbs) (IsFirstError true x.cert.tbs (rules_of Ee))
    (IsUnsignedObject by x)

abbrev pub ChecksAlone : Checkers → ObjectParts → Result (Unit {0}) ValidationError → Type 0
ChecksAlone by x = ChecksBy (IsSignedAlone by x) (IsNotAlone by x)

-- the same, and these rules hold
pub record IsOwn (by : Checkers) (Rules : Type 0) (x : ObjectParts) : Type 0 where
  pub alone : IsSignedAlone by x
  pub rules : Rules

-- the error where it isn't so: of the first; or allocation failed
abbrev pub IsNotOwn : Checkers → Type 0 → (ValidationError → Type 0) → ObjectParts → ValidationError → Type 0
IsNotOwn by Rules Broken x = Unless (IsSignedAlone by x) (IsNotAlone by x) (λ e. IsOut e ⊎ ((Rules → ⊥) × Broken e))

-- a check of octets
abbrev pub ChecksOctets : {R : Type 0} → (List ℕ → Type 0) → (List ℕ → ValidationError → Type 0) → List ℕ
    → Result R ValidationError → Type 0
ChecksOctets Valid Wrong whole r = MatchResult r (λ _. Valid whole) (Wrong whole)

-- the resources that the certificate lists are those that the content wants (RFC 9582 5; of providers the profile 4)
abbrev pub IsOwnOrigin : Checkers → List ℕ → Type 0
IsOwnOrigin by = IsObject (origin_object all_strict) (λ x. IsOwn by (KeepsOwnOriginRules x) x.object)

abbrev pub IsNoOwnOrigin : Checkers → List ℕ → ValidationError → Type 0
IsNoOwnOrigin by =
    IsNoObject (origin_object all_strict)
    (λ x. IsNotOwn by (KeepsOwnOriginRules x) (IsOwnOriginError x) x.object)

abbrev pub ChecksOwnOrigin : Checkers → List ℕ → Result (Unit {0}) ValidationError → Type 0
ChecksOwnOrigin by = ChecksOctets (IsOwnOrigin by) (IsNoOwnOrigin by)

abbrev pub IsOwnOriginRefusal : Checkers → ObjectToSign → List ℕ → List ℕ → CheckError → Type 0
IsOwnOriginRefusal by made certificate value = IsObjectRefusal by made certificate value (IsNoOwnOrigin by)

abbrev pub IsOwnAspa : Checkers → List ℕ → Type 0
IsOwnAspa by = IsObject (aspa_object true) (λ x. IsOwn by (KeepsOwnAspaRules x) x.object)

abbrev pub IsNoOwnAspa : Checkers → List ℕ → ValidationError → Type 0
IsNoOwnAspa by = IsNoObject (aspa_object true) (λ x. IsNotOwn by (KeepsOwnAspaRules x) (IsOwnAspaError x) x.object)

abbrev pub ChecksOwnAspa : Checkers → List ℕ → Result (Unit {0}) ValidationError → Type 0
ChecksOwnAspa by = ChecksOctets (IsOwnAspa by) (IsNoOwnAspa by)

abbrev pub IsOwnAspaRefusal : Checkers → ObjectToSign → List ℕ → List ℕ → CheckError → Type 0
IsOwnAspaRefusal by made certificate value = IsObjectRefusal by made certificate value (IsNoOwnAspa by)

-- all resources that a manifest's certificate names are its issuer's (RFC 9286 5.1)
abbrev pub IsInherited : TypedParts ManifestParts → Type 0
IsInherited x = AreInherited x.object.cert.tbs.extensions

abbrev pub IsOwnManifest : Checkers → List ℕ → Type 0
IsOwnManifest by = IsObject (manifest_object true) (λ x. IsOwn by (IsInherited x) x.object)

abbrev pub IsNoOwnManifest : Checkers → List ℕ → ValidationError → Type 0
IsNoOwnManifest by =
    IsNoObject (manifest_object true)
    (λ x. IsNotOwn by (IsInherited x) (HasReason not_inherited_text) x.object)

abbrev pub ChecksOwnManifest : Checkers → List ℕ → Result (Unit {0}) ValidationError → Type 0
ChecksOwnManifest by = ChecksOctets (IsOwnManifest by) (IsNoOwnManifest by)

abbrev pub IsOwnManifestRefusal : Checkers → ObjectToSign → List ℕ → List ℕ → CheckError → Type 0
IsOwnManifestRefusal by made certificate value = IsObjectRefusal by made certificate value (IsNoOwnManifest by)

-- ---- by an issuer's list that counts

-- it is valid at the list's moment, with these resources, of which the rules hold, and a path of authorities leads from
-- its certificate to a trust anchor
pub record IsAccepted {X : Type 0} (models : Models X) (c : InForce X)
    (Rules : ResourceSet → Type 0) (x : ObjectParts) : Type 0 where
  pub held : ResourceSet
  pub processed : IsProcessed
      (IsValidObject (Some c.list) (verified_by models c.issuer) c.at x) Rules held
  pub path : HasListedPath models Ee c x.cert held
  pub within : AreWithin held c.issuer.resources

abbrev pub IsUnaccepted : {X : Type 0} → Models X → InForce X → (ResourceSet → ValidationError → Type 0) → ObjectParts
    → ValidationError → Type 0
IsUnaccepted models c Wrong x =
    let v = verified_by models c.issuer in
    IsUnprocessed (IsValidObject (Some c.list) v c.at x) (IsInvalidObject (Some c.list) v c.at x) Wrong

abbrev pub IsAcceptedOrigin : {X : Type 0} → Models X → InForce X → List ℕ → Type 0
IsAcceptedOrigin models c = IsObject (origin_object all_strict) (λ x. IsAccepted models c (KeepsOriginRules x) x.object)

abbrev pub IsNoOrigin : {X : Type 0} → Models X → InForce X → List ℕ → ValidationError → Type 0
IsNoOrigin models c = IsNoObject (origin_object all_strict) (λ x. IsUnaccepted models c (BreaksOriginRules x) x.object)

abbrev pub ChecksOrigin : {X : Type 0} → Models X → InForce X → List ℕ → Result ResourceSet ValidationError → Type 0
ChecksOrigin models c = ChecksOctets (IsAcceptedOrigin models c) (IsNoOrigin models c)

abbrev pub IsOriginRefusal : {X : Type 0} → Models X → InForce X → ObjectToSign → List ℕ → List ℕ → CheckError → Type 0
IsOriginRefusal models c made certificate value =
    IsObjectRefusal (checkers_of models c.issuer.provider) made certificate value
    (IsNoOrigin models c)

abbrev pub IsAcceptedAspa : {X : Type 0} → Models X → InForce X → List ℕ → Type 0
IsAcceptedAspa models c = IsObject (aspa_object true) (λ x. IsAccepted models c (KeepsAspaRules x) x.object)

abbrev pub IsNoAspa : {X : Type 0} → Models X → InForce X → List ℕ → ValidationError → Type 0
IsNoAspa models c = IsNoObject (aspa_object true) (λ x. IsUnaccepted models c (BreaksAspaRules x) x.object)

abbrev pub ChecksAspa : {X : Type 0} → Models X → InForce X → List ℕ → Result ResourceSet ValidationError → Type 0
ChecksAspa models c = ChecksOctets (IsAcceptedAspa models c) (IsNoAspa models c)

abbrev pub IsAspaRefusal : {X : Type 0} → Models X → InForce X → ObjectToSign → List ℕ → List ℕ → CheckError → Type 0
IsAspaRefusal models c made certificate value =
    IsObjectRefusal (checkers_of models c.issuer.provider) made certificate value
    (IsNoAspa models c)

abbrev pub IsAcceptedManifest : {X : Type 0} → Models X → InForce X → List ℕ → Type 0
IsAcceptedManifest models c =
    IsObject (manifest_object true)
    (λ x. IsAccepted models c (λ _. KeepsManifestRules c.at x) x.object)

abbrev pub IsNoManifest : {X : Type 0} → Models X → InForce X → List ℕ → ValidationError → Type 0
IsNoManifest models c =
    IsNoObject (manifest_object true)
    (λ x. IsUnaccepted models c (λ _. BreaksManifestRules c.at x) x.object)

abbrev pub ChecksManifest : {X : Type 0} → Models X → InForce X → List ℕ → Result ResourceSet ValidationError → Type 0
ChecksManifest models c = ChecksOctets (IsAcceptedManifest models c) (IsNoManifest models c)

abbrev pub IsManifestRefusal : {X : Type 0} → Models X → InForce X → ObjectToSign → List ℕ → List ℕ → CheckError
    → Type 0
IsManifestRefusal models c made certificate value =
    IsObjectRefusal (checkers_of models c.issuer.provider) made certificate value
    (IsNoManifest models c)
