-- What the files of a point say: route origins, providers, routers and authorities, each valid at the moment.
use Rattle.std.specs.Prelude.{◌⊎◌, ◌<◌, ℕ, Bool, true, List, Some}
use Rattle.rpki_der.specs.Prelude.{Format, IsWholeFault}
use Rattle.rpki.specs.declared.repository.error.ValidationError.{ValidationError}
use Rattle.rpki_contents.specs.Aspa.{AspaParts}
use Rattle.rpki_contents.specs.Roa.{AttestationParts}
use Rattle.rpki_cert.specs.declared.profile.Profile.{Profile}
use Rattle.rpki_cert.specs.declared.profile.Profile.TheVariants.{Ca, Router}
use Rattle.rpki_cert.specs.Cert.{CertParts, SpellsCert, TbsParts, find}
use Rattle.rpki_cert.specs.CertFault.{IsDecodedPart}
use Rattle.rpki_cert.specs.ExtensionContent.{SpellsConstraints, constraints_content}
use Rattle.rpki_x509.specs.Authority.{WholeFault}
use Rattle.rpki_cert.specs.Known.{basic_constraints, IsFoundWrong}
use Rattle.rpki_cert.specs.Profile.{HasProfile}
use Rattle.rpki_crl.specs.Crl.{CrlParts}
use Rattle.rpki_objects.specs.SignedObject.{ObjectParts}
use Rattle.rpki_objects.specs.TypedObject.{TypedParts, origin_object, aspa_object}
use Rattle.rpki_valid.specs.declared.resource.set.ResourceSet.{ResourceSet}
use Rattle.rpki_valid.specs.ErrorTexts.{too_long_text}
use Rattle.rpki_valid.specs.ObjectVerified.{IsValidObject, IsInvalidObject}
use Rattle.rpki_valid.specs.Processed.{IsProcessed, IsUnprocessed, KeepsOriginRules, BreaksOriginRules}
use Rattle.rpki_valid.specs.Processed.{KeepsAspaRules, BreaksAspaRules}
use Rattle.rpki_valid.specs.Valid.{HasReason, Unless}
use Rattle.rpki_valid.specs.Verified.{Holder, IsRefusedLink, IsVerifiedBy}
use Rattle.rpki_validation.specs.declared.reason.Reason.{Reason}
use Rattle.rpki_validation.specs.Basis.{Basis, verified_at}
use Rattle.rpki_validation.specs.Finding.{IsCertReason, IsObjectReason}

-- ---- signed objects

-- the authority has issued the object, which isn't on its list, and which has these resources
abbrev pub IsIssuedObject : Basis → Holder → CrlParts → ObjectParts → ResourceSet → Type 0
IsIssuedObject basis issuer list = IsValidObject (Some list) (verified_at basis issuer) basis.at

-- why it has none
abbrev pub IsUnissuedObject : Basis → Holder → CrlParts → ObjectParts → ValidationError → Type 0
IsUnissuedObject basis issuer list = IsInvalidObject (Some list) (verified_at basis issuer) basis.at

-- octets that are an object of F, which the authority has issued, and of which the rules of its type hold
pub record IsObjectIn {C : Type 0} (F : Format (TypedParts C)) (Rules : TypedParts C → ResourceSet → Type 0)
    (basis : Basis) (issuer : Holder) (list : CrlParts) (octets : List ℕ) (x : TypedParts C) : Type 0 where
  pub spells : F.spells x octets
  pub held : ResourceSet
  pub valid : IsProcessed (IsIssuedObject basis issuer list x.object) (Rules x) held

-- octets that aren't one: no object of F, with the error of that; or one that isn't valid, or breaks a rule
abbrev pub IsNoObjectIn : {C : Type 0} → Format (TypedParts C) → (TypedParts C → ResourceSet → ValidationError → Type 0)
    → Basis → Holder → CrlParts → List ℕ → Reason → Type 0
IsNoObjectIn {C} F Wrong basis issuer list octets =
    IsObjectReason (IsWholeFault F.spells F.fault octets)
    (λ e. (x : TypedParts C) × F.spells x octets
    × IsUnprocessed (IsIssuedObject basis issuer list x.object) (IsUnissuedObject basis issuer list x.object)
    (Wrong x) e)

-- route origins (RFC 9582)
abbrev pub AreOriginsIn : Basis → Holder → CrlParts → List ℕ → TypedParts AttestationParts → Type 0
AreOriginsIn basis = IsObjectIn (origin_object basis.terms.strictness) KeepsOriginRules basis

abbrev pub AreNoOriginsIn : Basis → Holder → CrlParts → List ℕ → Reason → Type 0
AreNoOriginsIn basis = IsNoObjectIn (origin_object basis.terms.strictness) BreaksOriginRules basis

-- providers of an autonomous system (draft-ietf-sidrops-aspa-profile)
abbrev pub AreProvidersIn : Basis → Holder → CrlParts → List ℕ → TypedParts AspaParts → Type 0
AreProvidersIn basis = IsObjectIn (aspa_object basis.terms.strictness.attributes) KeepsAspaRules basis

abbrev pub AreNoProvidersIn : Basis → Holder → CrlParts → List ℕ → Reason → Type 0
AreNoProvidersIn basis = IsNoObjectIn (aspa_object basis.terms.strictness.attributes) BreaksAspaRules basis

-- ---- certificates

-- the authority has issued the certificate, of this profile, which isn't on its list, and which has these resources
abbrev pub IsIssuedCert : Profile → Basis → Holder → CrlParts → CertParts → ResourceSet → Type 0
IsIssuedCert profile basis issuer list = IsVerifiedBy profile (Some list) (verified_at basis issuer) basis.at

-- octets that are such a certificate
pub record IsCertIn (profile : Profile) (basis : Basis) (issuer : Holder) (list : CrlParts) (octets : List ℕ)
    (x : Holder) : Type 0 where
  pub spells : SpellsCert x.cert octets
  pub valid : IsIssuedCert profile basis issuer list x.cert x.resources

-- ---- certificates that count, of authorities and routers

-- why a certificate is not that of an authority below an issuer so many steps below the trust anchor: a path may not be
-- longer; or the issuer has issued no such authority
abbrev pub IsNoAuthorityIn : ℕ → Basis → Holder → CrlParts → CertParts → ValidationError → Type 0
IsNoAuthorityIn depth basis issuer list x =
    Unless (depth < basis.terms.deepest) (HasReason too_long_text)
    (IsRefusedLink Ca (Some list) (verified_at basis issuer) basis.at x)

-- why it is not that of a router
abbrev pub IsNoRouterIn : Basis → Holder → CrlParts → CertParts → ValidationError → Type 0
IsNoRouterIn basis issuer list = IsRefusedLink Router (Some list) (verified_at basis issuer) basis.at

-- octets that are a certificate that counts: that of a router, or of an authority where a path may be longer
abbrev pub IsCountedCert : ℕ → Basis → Holder → CrlParts → List ℕ → Holder → Type 0
IsCountedCert depth basis issuer list octets x =
    IsCertIn Router basis issuer list octets x
    ⊎ ((depth < basis.terms.deepest) × IsCertIn Ca basis issuer list octets x)

-- basic constraints that are malformed, or not as critical as they have to be
abbrev pub HasWrongConstraints : TbsParts → Reason → Type 0
HasWrongConstraints t =
    IsCertReason (λ _. ⊥)
    (IsFoundWrong true SpellsConstraints (WholeFault constraints_content) (find basic_constraints t.extensions))

-- Why octets are none: no certificate; or one whose basic constraints are wrong, or which can only be that of an
-- authority, or of a router, and isn't valid as that.
pub data IsNoCertIn (depth : ℕ) (basis : Basis) (issuer : Holder) (list : CrlParts) (octets : List ℕ) (reason : Reason)
    : Type 0 where
  Unread : IsCertReason (IsDecodedPart octets) (λ e. ⊥) reason → IsNoCertIn depth basis issuer list octets reason
  WrongConstraints : (x : CertParts) → SpellsCert x octets → HasWrongConstraints x.tbs reason
      → IsNoCertIn depth basis issuer list octets reason
  NoAuthority : (x : CertParts) → SpellsCert x octets → ((strict : Bool) → HasProfile Router strict x.tbs → ⊥)
      → IsCertReason (λ q. ⊥) (IsNoAuthorityIn depth basis issuer list x) reason
      → IsNoCertIn depth basis issuer list octets reason
  NoRouter : (x : CertParts) → SpellsCert x octets → ((strict : Bool) → HasProfile Ca strict x.tbs → ⊥)
      → IsCertReason (λ q. ⊥) (IsNoRouterIn basis issuer list x) reason
      → IsNoCertIn depth basis issuer list octets reason
