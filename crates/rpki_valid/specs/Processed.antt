-- Signed objects of one type that are valid for a verified authority at a moment, and keep the rules of their type (RFC
-- 6488 3, RFC 9286 5.1, 6.3, RFC 9582 5, draft-ietf-sidrops-aspa-profile 4).
use Rattle.std.specs.Prelude.{◌⊎◌, ◌≤ℤ◌, ℕ, List, Some, Result, MatchResult}
use Rattle.jiff.specs.Types.{DateTime}
use Rattle.jiff.specs.Words.{civil_nanos}
use Rattle.rpki.specs.declared.repository.error.ValidationError.{ValidationError}
use Rattle.rpki.specs.Checkers.{Models}
use Rattle.rpki_resources.specs.Blocks.{IsAmong}
use Rattle.rpki_contents.specs.Aspa.{AspaParts}
use Rattle.rpki_contents.specs.Manifest.{ManifestParts}
use Rattle.rpki_contents.specs.Roa.{AttestationParts}
use Rattle.rpki_contents.specs.Within.{AreWithin}
use Rattle.rpki_valid.specs.declared.resource.set.ResourceSet.{ResourceSet}
use Rattle.rpki_valid.specs.ResourceSet.{IsOut, HasOwnResources}
use Rattle.rpki_valid.specs.Valid.{HasReason, Unless}
use Rattle.rpki_valid.specs.CrlIssued.{InForce}
use Rattle.rpki_valid.specs.Verified.{verified_by, IsRefusedWith}
use Rattle.rpki_objects.specs.SignedObject.{ObjectParts}
use Rattle.rpki_valid.specs.ObjectVerified.{IsValidObject, IsInvalidObject}
use Rattle.rpki_objects.specs.TypedObject.{TypedParts}
use Rattle.rpki_valid.specs.ObjectResources.{AreInherited, HasAddresses, HasNumbers, HasNoAddresses, HasNoNumbers}
use Rattle.rpki_valid.specs.ObjectResources.{AreOwnAddresses, AreOwnNumbers}
use Rattle.rpki_valid.specs.ErrorTexts.{not_inherited_text, later_manifest_text, stale_manifest_text}
use Rattle.rpki_valid.specs.ErrorTexts.{no_addresses_text, inherited_addresses_text, numbers_beside_text}
use Rattle.rpki_valid.specs.ErrorTexts.{prefix_outside_text, no_numbers_text, inherited_numbers_text}
use Rattle.rpki_valid.specs.ErrorTexts.{addresses_beside_text, customer_outside_text}

-- ---- rules, in sequence

-- the rule is broken, and the error has this text
abbrev pub IsBroken : Type 0 → List ℕ → ValidationError → Type 0
IsBroken P text e = (P → ⊥) × HasReason text e

-- a check of rules: each holds; or the error is that of the first that is broken
abbrev pub ChecksRules : Type 0 → (ValidationError → Type 0) → Result (Unit {0}) ValidationError → Type 0
ChecksRules Rules Wrong r = MatchResult r (λ _. Rules) Wrong

-- ---- those of manifests

-- this update is not after the moment, and the next not before it (RFC 9286 6.3)
abbrev pub IsManifestOut : DateTime → ManifestParts → Type 0
IsManifestOut at x = civil_nanos x.this_update ≤ℤ civil_nanos at

abbrev pub IsManifestCurrent : DateTime → ManifestParts → Type 0
IsManifestCurrent at x = civil_nanos at ≤ℤ civil_nanos x.next_update

-- the resources of the certificate are the issuer's (RFC 9286 5.1); and the manifest holds at the moment
pub record KeepsManifestRules (at : DateTime) (x : TypedParts ManifestParts) : Type 0 where
  pub inherited : AreInherited x.object.cert.tbs.extensions
  pub out : IsManifestOut at x.content
  pub current : IsManifestCurrent at x.content

-- the error where one is broken: of the first, in this order
abbrev pub BreaksManifestRules : DateTime → TypedParts ManifestParts → ValidationError → Type 0
BreaksManifestRules at x =
    Unless (AreInherited x.object.cert.tbs.extensions) (HasReason not_inherited_text)
    (Unless (IsManifestOut at x.content) (HasReason later_manifest_text)
    (IsBroken (IsManifestCurrent at x.content) stale_manifest_text))

-- ---- those of route origin attestations

-- The certificate has addresses of its own, and no numbers; and each prefix is among the resources that it has (RFC
-- 9582
-- 5).
pub record KeepsOriginRules (x : TypedParts AttestationParts) (held : ResourceSet) : Type 0 where
  pub addresses : HasAddresses x.object.cert.tbs.extensions
  pub own : AreOwnAddresses x.object.cert.tbs.extensions
  pub numbers : HasNoNumbers x.object.cert.tbs.extensions
  pub within : AreWithin x.content held.ipv4 held.ipv6

-- allocation failed; or a prefix is outside of the resources
abbrev pub IsOriginOutside : TypedParts AttestationParts → ResourceSet → ValidationError → Type 0
IsOriginOutside x held e =
    IsOut e ⊎ IsBroken (AreWithin x.content held.ipv4 held.ipv6) prefix_outside_text e

abbrev pub BreaksOriginRules : TypedParts AttestationParts → ResourceSet → ValidationError → Type 0
BreaksOriginRules x held =
    Unless (HasAddresses x.object.cert.tbs.extensions) (HasReason no_addresses_text)
    (Unless (AreOwnAddresses x.object.cert.tbs.extensions) (HasReason inherited_addresses_text)
    (Unless (HasNoNumbers x.object.cert.tbs.extensions) (HasReason numbers_beside_text)
    (IsOriginOutside x held)))

-- ---- those of attestations of providers

-- The certificate has numbers of its own, and no addresses; and the customer is one of the numbers that it has
-- (draft-ietf-sidrops-aspa-profile 4).
pub record KeepsAspaRules (x : TypedParts AspaParts) (held : ResourceSet) : Type 0 where
  pub numbers : HasNumbers x.object.cert.tbs.extensions
  pub own : AreOwnNumbers x.object.cert.tbs.extensions
  pub addresses : HasNoAddresses x.object.cert.tbs.extensions
  pub within : IsAmong x.content.customer held.asn

abbrev pub BreaksAspaRules : TypedParts AspaParts → ResourceSet → ValidationError → Type 0
BreaksAspaRules x held =
    Unless (HasNumbers x.object.cert.tbs.extensions) (HasReason no_numbers_text)
    (Unless (AreOwnNumbers x.object.cert.tbs.extensions) (HasReason inherited_numbers_text)
    (Unless (HasNoAddresses x.object.cert.tbs.extensions) (HasReason addresses_beside_text)
    (IsBroken (IsAmong x.content.customer held.asn) customer_outside_text)))

-- ---- the object, and its rules

-- the object is valid with these resources, and the rules hold of them
pub record IsProcessed (Valid Rules : ResourceSet → Type 0) (held : ResourceSet) : Type 0 where
  pub object : Valid held
  pub rules : Rules held

-- it isn't valid, with the error of that; or it is valid with these resources, of which the rules say the error
abbrev pub IsUnprocessed : (ResourceSet → Type 0) → (ValidationError → Type 0)
    → (ResourceSet → ValidationError → Type 0) → ValidationError → Type 0
IsUnprocessed Valid Invalid Wrong e =
    IsRefusedWith Valid Invalid e ⊎ ((held : ResourceSet) × Valid held × Wrong held e)

-- a check that returns the resources of the object, whose certificate is not on the list that counts
abbrev pub ProcessesObject : {X : Type 0} → Models X → InForce X → ObjectParts → (ResourceSet → Type 0)
    → (ResourceSet → ValidationError → Type 0) → Result ResourceSet ValidationError → Type 0
ProcessesObject models c x Rules Wrong r =
    let v = verified_by models c.issuer in
    MatchResult r (IsProcessed (IsValidObject (Some c.list) v c.at x) Rules)
    (IsUnprocessed (IsValidObject (Some c.list) v c.at x) (IsInvalidObject (Some c.list) v c.at x) Wrong)

abbrev pub ProcessesManifest : {X : Type 0} → Models X → InForce X → TypedParts ManifestParts
    → Result ResourceSet ValidationError → Type 0
ProcessesManifest models c x =
    ProcessesObject models c x.object (λ _. KeepsManifestRules c.at x) (λ _. BreaksManifestRules c.at x)

abbrev pub ProcessesOrigin : {X : Type 0} → Models X → InForce X → TypedParts AttestationParts
    → Result ResourceSet ValidationError → Type 0
ProcessesOrigin models c x = ProcessesObject models c x.object (KeepsOriginRules x) (BreaksOriginRules x)

abbrev pub ProcessesAspa : {X : Type 0} → Models X → InForce X → TypedParts AspaParts
    → Result ResourceSet ValidationError → Type 0
ProcessesAspa models c x = ProcessesObject models c x.object (KeepsAspaRules x) (BreaksAspaRules x)

-- ---- by the certificate alone

-- The rules of an attestation with the resources that its certificate lists. They are its own,
-- and so no issuer is asked.
abbrev pub KeepsOwnOriginRules : TypedParts AttestationParts → Type 0
KeepsOwnOriginRules x =
    (held : ResourceSet) × HasOwnResources x.object.cert.tbs.extensions held × KeepsOriginRules x held

abbrev pub KeepsOwnAspaRules : TypedParts AspaParts → Type 0
KeepsOwnAspaRules x =
    (held : ResourceSet) × HasOwnResources x.object.cert.tbs.extensions held × KeepsAspaRules x held

-- the error where one is broken: of the first, in this order
abbrev pub IsOwnOriginError : TypedParts AttestationParts → ValidationError → Type 0
IsOwnOriginError x =
    Unless (HasAddresses x.object.cert.tbs.extensions) (HasReason no_addresses_text)
    (Unless (AreOwnAddresses x.object.cert.tbs.extensions) (HasReason inherited_addresses_text)
    (Unless (HasNoNumbers x.object.cert.tbs.extensions) (HasReason numbers_beside_text)
    (HasReason prefix_outside_text)))

abbrev pub IsOwnAspaError : TypedParts AspaParts → ValidationError → Type 0
IsOwnAspaError x =
    Unless (HasNumbers x.object.cert.tbs.extensions) (HasReason no_numbers_text)
    (Unless (AreOwnNumbers x.object.cert.tbs.extensions) (HasReason inherited_numbers_text)
    (Unless (HasNoAddresses x.object.cert.tbs.extensions) (HasReason addresses_beside_text)
    (HasReason customer_outside_text)))

-- a check of rules: each holds; or one doesn't, with its error; or allocation failed
abbrev pub ChecksOwnRules : Type 0 → (ValidationError → Type 0) → Result (Unit {0}) ValidationError → Type 0
ChecksOwnRules Rules Wrong r = MatchResult r (λ _. Rules) (λ e. IsOut e ⊎ ((Rules → ⊥) × Wrong e))
