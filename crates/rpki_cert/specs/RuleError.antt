-- Which error a check of a rule returns for a certificate that breaks it.
use Rattle.std.specs.Prelude.{ℕ, Bool, true, false, List, Option, Result, MatchResult, Some, All}
use Rattle.rpki_der.specs.declared.error.DecodeError.{DecodeError}
use Rattle.rpki_der.specs.Reading.{AnyFault}
use Rattle.rpki.specs.declared.repository.error.ValidationError.{ValidationError}
use Rattle.rpki.specs.declared.repository.x509.name.rule.NameRule.{NameRule}
use Rattle.rpki.specs.KeyIdentifier.{SpellsKeyIdentifier}
use Rattle.rpki.specs.NameRule.{BreaksRpkiRule, BreaksRouterRule, rpki_text, router_text}
use Rattle.rpki.specs.ExtensionValue.{ExtensionParts}
use Rattle.rpki_cert.specs.declared.profile.in_order.Refusal.{Refusal}
use Rattle.rpki_cert.specs.declared.profile.rule.CertRule.{CertRule}
use Rattle.rpki_cert.specs.declared.profile.rule.CertRule.TheVariants.{SerialNumber, CriticalExtensions, Issuer}
use Rattle.rpki_cert.specs.declared.profile.rule.CertRule.TheVariants.{IssuerSize, SubjectSize, RouterSerialNumber}
use Rattle.rpki_cert.specs.declared.profile.rule.CertRule.TheVariants.{Validity}
use Rattle.rpki_cert.specs.declared.profile.rule.CertRule.TheVariants.{Subject, RouterSubject, RsaKey, RouterKey}
use Rattle.rpki_cert.specs.declared.profile.rule.CertRule.TheVariants.{BasicConstraints, NoBasicConstraints}
use Rattle.rpki_cert.specs.declared.profile.rule.CertRule.TheVariants.{SubjectKeyIdentifier, AuthorityKeyIdentifier}
use Rattle.rpki_cert.specs.declared.profile.rule.CertRule.TheVariants.{OwnAuthority, SelfIssued, AuthorityUsage}
use Rattle.rpki_cert.specs.declared.profile.rule.CertRule.TheVariants.{EndUsage}
use Rattle.rpki_cert.specs.declared.profile.rule.CertRule.TheVariants.{NoExtendedKeyUsage, RouterPurpose}
use Rattle.rpki_cert.specs.declared.profile.rule.CertRule.TheVariants.{RevocationList}
use Rattle.rpki_cert.specs.declared.profile.rule.CertRule.TheVariants.{NoRevocationList, IssuerCertificate}
use Rattle.rpki_cert.specs.declared.profile.rule.CertRule.TheVariants.{NoIssuerCertificate}
use Rattle.rpki_cert.specs.declared.profile.rule.CertRule.TheVariants.{Repository, Manifest, ManifestPlace}
use Rattle.rpki_cert.specs.declared.profile.rule.CertRule.TheVariants.{SignedObject}
use Rattle.rpki_cert.specs.declared.profile.rule.CertRule.TheVariants.{ObjectAccess, Notifications, NoSubjectAccess}
use Rattle.rpki_cert.specs.declared.profile.rule.CertRule.TheVariants.{CertificatePolicies, Resources, ResourceVersion}
use Rattle.rpki_cert.specs.declared.profile.rule.CertRule.TheVariants.{RouterNumbers, ResourceBlocks, OwnResources}
use Rattle.rpki_cert.specs.Cert.{TbsParts, find}
use Rattle.rpki_cert.specs.Known.{subject_key_identifier, key_usage, basic_constraints, crl_distribution_points}
use Rattle.rpki_cert.specs.Known.{certificate_policies, extended_key_usage}
use Rattle.rpki_x509.specs.Authority.{authority_key_identifier}
use Rattle.rpki_cert.specs.Known.{authority_info_access, subject_info_access, Says, HasText, IsOtherwise}
use Rattle.rpki_cert.specs.RuleWords.{SaysSome, SaysSomeUri, SaysOwn, HasOneVersion}
use Rattle.rpki_cert.specs.ExtensionContent.{SpellsConstraints, SpellsUsage, SpellsPurposes}
use Rattle.rpki_x509.specs.Authority.{SpellsAuthority}
use Rattle.rpki_cert.specs.ExtensionContent.{SpellsPolicies}
use Rattle.rpki_cert.specs.Access.{SpellsRsyncAccess, SpellsPoints, ca_issuers, ca_repository, rpki_manifest}
use Rattle.rpki_cert.specs.Access.{signed_object}
use Rattle.rpki_cert.specs.Rule.{Obeys, IsFirstBroken, rule_text}
use Rattle.rpki_x509.specs.Authority.{WholeFault, authority_content}
use Rattle.rpki_cert.specs.ExtensionContent.{constraints_content, policies_content}
use Rattle.rpki_cert.specs.ExtensionContent.{subject_content, usage_content}

-- a check: Ok exactly where P holds, and else such an error
abbrev pub ChecksBy : Type 0 → (ValidationError → Type 0) → Result (Unit {0}) ValidationError → Type 0
ChecksBy P E r = MatchResult r (λ _. P) (λ e. (P → ⊥) × E e)

-- the text of the rule
abbrev pub SaysRule : CertRule → ValidationError → Type 0
SaysRule rule = HasText (rule_text rule)

-- of a rule on what an extension says: the error of one that is there and malformed, or not as critical as it has to
-- be; and the text of the rule only where the extension is neither
abbrev pub SaysFound : {V : Type 0} → Bool → (V → List ℕ → Type 0) → (List ℕ → DecodeError → Type 0) → CertRule
    → Option ExtensionParts → ValidationError → Type 0
SaysFound critical G K rule found = IsOtherwise critical G K found (SaysRule rule)

-- checks of what an extension says: something; this value; a URI; the policy and the version of the resources; an
-- authority key identifier of its own
abbrev pub ChecksSome : {V : Type 0} → Bool → (V → List ℕ → Type 0) → (List ℕ → DecodeError → Type 0) → CertRule
    → Option ExtensionParts → Result (Unit {0}) ValidationError → Type 0
ChecksSome critical G K rule found = ChecksBy (SaysSome critical G found) (SaysFound critical G K rule found)

abbrev pub ChecksValue : {V : Type 0} → Bool → (V → List ℕ → Type 0) → (List ℕ → DecodeError → Type 0) → CertRule
    → Option ExtensionParts → V → Result (Unit {0}) ValidationError → Type 0
ChecksValue critical G K rule found v = ChecksBy (Says critical G found (Some v)) (SaysFound critical G K rule found)

abbrev pub ChecksUri : (Option (List ℕ) → List ℕ → Type 0) → CertRule → Option ExtensionParts
    → Result (Unit {0}) ValidationError → Type 0
ChecksUri G rule found = ChecksBy (SaysSomeUri G found) (SaysFound false G AnyFault rule found)

abbrev pub ChecksVersion : List ExtensionParts → Result (Unit {0}) ValidationError → Type 0
ChecksVersion xs =
    ChecksBy (HasOneVersion xs)
    (SaysFound true SpellsPolicies (WholeFault policies_content) ResourceVersion (find certificate_policies xs))

abbrev pub ChecksOwn : Option ExtensionParts → Option ExtensionParts → Result (Unit {0}) ValidationError → Type 0
ChecksOwn authority subject =
    ChecksBy (SaysOwn authority subject)
    (SaysFound false SpellsAuthority (WholeFault authority_content) OwnAuthority authority)

-- of a rule on a name: the text of the rule of names that is broken first
abbrev pub SaysName : (NameRule → List ℕ → Type 0) → (NameRule → List ℕ) → List ℕ → ValidationError → Type 0
SaysName breaks text name e = (rule : NameRule) × breaks rule name × HasText (text rule) e

-- the error of a certificate that breaks the rule
abbrev pub IsRuleError : TbsParts → CertRule → ValidationError → Type 0
IsRuleError t SerialNumber = SaysRule SerialNumber
IsRuleError t CriticalExtensions = SaysRule CriticalExtensions
IsRuleError t Issuer = SaysName BreaksRpkiRule rpki_text t.issuer
IsRuleError t IssuerSize = SaysRule IssuerSize
IsRuleError t Validity = SaysRule Validity
IsRuleError t Subject = SaysName BreaksRpkiRule rpki_text t.subject
IsRuleError t RouterSubject = SaysName BreaksRouterRule router_text t.subject
IsRuleError t SubjectSize = SaysRule SubjectSize
IsRuleError t RouterSerialNumber = SaysRule RouterSerialNumber
IsRuleError t RsaKey = SaysRule RsaKey
IsRuleError t RouterKey = SaysRule RouterKey
IsRuleError t BasicConstraints = SaysFound true SpellsConstraints (WholeFault constraints_content)
    BasicConstraints (find basic_constraints t.extensions)
IsRuleError t NoBasicConstraints = SaysRule NoBasicConstraints
IsRuleError t SubjectKeyIdentifier = SaysFound false SpellsKeyIdentifier (WholeFault subject_content)
    SubjectKeyIdentifier (find subject_key_identifier t.extensions)
IsRuleError t AuthorityKeyIdentifier = SaysFound false SpellsAuthority (WholeFault authority_content)
    AuthorityKeyIdentifier (find authority_key_identifier t.extensions)
IsRuleError t OwnAuthority = SaysFound false SpellsAuthority (WholeFault authority_content)
    OwnAuthority (find authority_key_identifier t.extensions)
IsRuleError t SelfIssued = SaysRule SelfIssued
IsRuleError t AuthorityUsage = SaysFound true SpellsUsage (WholeFault usage_content) AuthorityUsage
    (find key_usage t.extensions)
IsRuleError t EndUsage = SaysFound true SpellsUsage (WholeFault usage_content) EndUsage
    (find key_usage t.extensions)
IsRuleError t NoExtendedKeyUsage = SaysRule NoExtendedKeyUsage
IsRuleError t RouterPurpose = SaysFound false SpellsPurposes AnyFault RouterPurpose
    (find extended_key_usage t.extensions)
IsRuleError t RevocationList = SaysFound false SpellsPoints AnyFault RevocationList
    (find crl_distribution_points t.extensions)
IsRuleError t NoRevocationList = SaysRule NoRevocationList
IsRuleError t IssuerCertificate = SaysFound false (SpellsRsyncAccess ca_issuers) AnyFault IssuerCertificate
    (find authority_info_access t.extensions)
IsRuleError t NoIssuerCertificate = SaysRule NoIssuerCertificate
IsRuleError t Repository = SaysFound false (SpellsRsyncAccess ca_repository) AnyFault Repository
    (find subject_info_access t.extensions)
IsRuleError t Manifest = SaysFound false (SpellsRsyncAccess rpki_manifest) AnyFault Manifest
    (find subject_info_access t.extensions)
IsRuleError t SignedObject = SaysFound false (SpellsRsyncAccess signed_object) AnyFault SignedObject
    (find subject_info_access t.extensions)
IsRuleError t ManifestPlace = SaysRule ManifestPlace
IsRuleError t ObjectAccess = SaysRule ObjectAccess
IsRuleError t Notifications = SaysRule Notifications
IsRuleError t NoSubjectAccess = SaysRule NoSubjectAccess
IsRuleError t CertificatePolicies = SaysFound true SpellsPolicies (WholeFault policies_content)
    CertificatePolicies (find certificate_policies t.extensions)
IsRuleError t Resources = SaysRule Resources
IsRuleError t ResourceVersion = SaysFound true SpellsPolicies (WholeFault policies_content)
    ResourceVersion (find certificate_policies t.extensions)
IsRuleError t ResourceBlocks = SaysRule ResourceBlocks
IsRuleError t OwnResources = SaysRule OwnResources
IsRuleError t RouterNumbers = SaysRule RouterNumbers

-- the rule is the first that is broken, and this its error
abbrev pub BreaksWith : Bool → TbsParts → List CertRule → CertRule → ValidationError → Type 0
BreaksWith strict t rules rule e = IsFirstBroken strict t rules rule × IsRuleError t rule e

-- rules that are tested from the left: Ok where all are obeyed; else the one that is broken first, with its error
abbrev pub TestsRules : Bool → TbsParts → List CertRule → Result (Unit {0}) Refusal → Type 0
TestsRules strict t rules r =
    MatchResult r (λ _. All (Obeys strict t) rules) (λ x. BreaksWith strict t rules x.rule x.error)

-- the error is that of the rule that is broken first
pub record IsFirstError (strict : Bool) (t : TbsParts) (rules : List CertRule) (e : ValidationError) : Type 0 where
  pub rule : CertRule
  pub first : IsFirstBroken strict t rules rule
  pub error : IsRuleError t rule e
