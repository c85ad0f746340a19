-- The profiles of certificates: trust anchors, certification authorities and end entities (RFC 6487 4), end entities
-- without subject information access (RFC 9323 2), and BGPsec routers (RFC 8209 3.1). A profile is its rules.
use Rattle.std.specs.Prelude.{Bool, List, [], ◌∷◌, ◌++◌, All, Result, MatchResult}
use Rattle.rpki.specs.declared.repository.error.ValidationError.{ValidationError}
use Rattle.rpki_cert.specs.declared.profile.Profile.{Profile}
use Rattle.rpki_cert.specs.declared.profile.Profile.TheVariants.{Ta, Ca, Ee, DetachedEe, Router}
use Rattle.rpki_cert.specs.declared.profile.rule.CertRule.{CertRule}
use Rattle.rpki_cert.specs.declared.profile.rule.CertRule.TheVariants.{SerialNumber, CriticalExtensions, Issuer}
use Rattle.rpki_cert.specs.declared.profile.rule.CertRule.TheVariants.{IssuerSize, SubjectSize, RouterSerialNumber}
use Rattle.rpki_cert.specs.declared.profile.rule.CertRule.TheVariants.{Validity}
use Rattle.rpki_cert.specs.declared.profile.rule.CertRule.TheVariants.{Subject, RouterSubject, RsaKey, RouterKey}
use Rattle.rpki_cert.specs.declared.profile.rule.CertRule.TheVariants.{BasicConstraints, NoBasicConstraints}
use Rattle.rpki_cert.specs.declared.profile.rule.CertRule.TheVariants.{SubjectKeyIdentifier, AuthorityKeyIdentifier}
use Rattle.rpki_cert.specs.declared.profile.rule.CertRule.TheVariants.{OwnAuthority, SelfIssued, AuthorityUsage}
use Rattle.rpki_cert.specs.declared.profile.rule.CertRule.TheVariants.{EndUsage}
use Rattle.rpki_cert.specs.declared.profile.rule.CertRule.TheVariants.{NoExtendedKeyUsage, RouterPurpose}
use Rattle.rpki_cert.specs.declared.profile.rule.CertRule.TheVariants.{RevocationList}
use Rattle.rpki_cert.specs.declared.profile.rule.CertRule.TheVariants.{NoRevocationList, IssuerCertificate}
use Rattle.rpki_cert.specs.declared.profile.rule.CertRule.TheVariants.{NoIssuerCertificate}
use Rattle.rpki_cert.specs.declared.profile.rule.CertRule.TheVariants.{Repository, Manifest, ManifestPlace}
use Rattle.rpki_cert.specs.declared.profile.rule.CertRule.TheVariants.{SignedObject}
use Rattle.rpki_cert.specs.declared.profile.rule.CertRule.TheVariants.{ObjectAccess, Notifications, NoSubjectAccess}
use Rattle.rpki_cert.specs.declared.profile.rule.CertRule.TheVariants.{CertificatePolicies, Resources, ResourceVersion}
use Rattle.rpki_cert.specs.declared.profile.rule.CertRule.TheVariants.{RouterNumbers, ResourceBlocks, OwnResources}
use Rattle.rpki_cert.specs.declared.extension.known_view.KnownView.{KnownView}
use Rattle.rpki_cert.specs.declared.profile.CheckError.{CheckError}
use Rattle.rpki_cert.specs.Cert.{TbsParts}
use Rattle.rpki_cert.specs.KnownView.{AreKnown, IsFirstWrong}
use Rattle.rpki_cert.specs.Rule.{Obeys, IsFirstBroken}
use Rattle.rpki_cert.specs.RuleError.{ChecksBy, IsFirstError}

-- ---- rules that profiles have in common

-- those that every profile begins with (RFC 6487 4.2, 4.4, 4.6, 4.8, RFC 5280 A.1, RFC 8360 4.2)
abbrev pub common_rules : List CertRule
common_rules =
    SerialNumber ∷ CriticalExtensions ∷ Issuer ∷ IssuerSize ∷ Validity ∷ SubjectKeyIdentifier ∷ CertificatePolicies
    ∷ Resources ∷ ResourceVersion ∷ ResourceBlocks ∷ []

-- a subject with a name of the RPKI and an RSA key (RFC 6487 4.5, RFC 5280 A.1, RFC 7935 3), for no extended purpose
-- (RFC 6487 4.8.5)
abbrev pub subject_rules : List CertRule
subject_rules = Subject ∷ SubjectSize ∷ RsaKey ∷ NoExtendedKeyUsage ∷ []

-- a certification authority: cA is TRUE, and its key signs certificates and revocation lists (RFC 6487 4.8.1, 4.8.4)
abbrev pub authority_rules : List CertRule
authority_rules = BasicConstraints ∷ AuthorityUsage ∷ []

-- an end entity: there are no basic constraints, and its key signs objects (RFC 6487 4.8.1, 4.8.4)
abbrev pub end_rules : List CertRule
end_rules = NoBasicConstraints ∷ EndUsage ∷ []

-- where an authority publishes (RFC 6487 4.8.8.1): the manifest is one of the repository's objects (RFC 9286 2), and
-- changes are told by https (RFC 8182 3.2)
abbrev pub repository_rules : List CertRule
repository_rules = Repository ∷ Manifest ∷ ManifestPlace ∷ Notifications ∷ []

-- issued by another: its key identifier, its revocation list and its certificate (RFC 6487 4.8.3, 4.8.6, 4.8.7)
abbrev pub issuer_rules : List CertRule
issuer_rules = AuthorityKeyIdentifier ∷ RevocationList ∷ IssuerCertificate ∷ []

-- ---- the rules of each profile, in the order in which they are tested

-- A trust anchor is its own issuer (RFC 8630 2.3, RFC 5280 3.2), without a revocation list and a certificate of another
-- issuer; and its resources are its own (RFC 8630 2.3). An end entity says where the object is that its key signs, and
-- nothing else of it but where changes of the repository are told (RFC 6487 4.8.8.2, RFC 8182 3.2); where that
-- object is in no repository, as a signed checklist, nothing at all (RFC 9323 2). A router has a P-256 key for the
-- purpose of a router, numbers of its own without addresses, and no access information of the subject (RFC 8209 3.1).
abbrev pub own_rules : Profile → List CertRule
own_rules Ta =
    subject_rules ++ authority_rules ++ NoRevocationList ∷ NoIssuerCertificate ∷ repository_rules
    ++ SelfIssued ∷ OwnAuthority ∷ OwnResources ∷ []
own_rules Ca = subject_rules ++ authority_rules ++ repository_rules ++ issuer_rules
own_rules Ee = subject_rules ++ end_rules ++ SignedObject ∷ ObjectAccess ∷ Notifications ∷ issuer_rules
own_rules DetachedEe = subject_rules ++ end_rules ++ NoSubjectAccess ∷ issuer_rules
own_rules Router =
    RouterSubject ∷ SubjectSize ∷ RouterSerialNumber ∷ RouterKey ∷ end_rules
    ++ RouterNumbers ∷ OwnResources ∷ NoSubjectAccess ∷ RouterPurpose ∷ issuer_rules

abbrev pub rules_of : Profile → List CertRule
rules_of profile = common_rules ++ own_rules profile

-- a certificate of the profile obeys each of its rules; its names are checked against theirs where strict is true
abbrev pub HasProfile : Profile → Bool → TbsParts → Type 0
HasProfile profile strict t = All (Obeys strict t) (rules_of profile)

-- ---- tests

-- Ok where the certificate has the profile; else the rule that it breaks first
abbrev pub TestsProfile : Profile → Bool → TbsParts → Result (Unit {0}) CertRule → Type 0
TestsProfile profile strict t r =
    MatchResult r (λ _. HasProfile profile strict t)
    (λ rule. IsFirstBroken strict t (rules_of profile) rule × (HasProfile profile strict t → ⊥))

-- Ok where the certificate has the profile; else the error of the rule that it breaks first
abbrev pub InspectsProfile : Profile → Bool → TbsParts → Result (Unit {0}) ValidationError → Type 0
InspectsProfile profile strict t = ChecksBy (HasProfile profile strict t) (IsFirstError strict t (rules_of profile))

-- The error of a certificate of which the known extensions and the profile are asked at once: the first of those
-- extensions that is wrong; else the rule that is broken first.
abbrev pub IsCheckError : Profile → Bool → TbsParts → CheckError → Type 0
IsCheckError profile strict t (CheckError.Extension part) = IsFirstWrong t.extensions part
IsCheckError profile strict t (CheckError.Rule rule) =
    ((v : KnownView) × AreKnown t.extensions v) × IsFirstBroken strict t (rules_of profile) rule
    × (HasProfile profile strict t → ⊥)
