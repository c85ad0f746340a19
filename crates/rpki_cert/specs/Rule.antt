-- The rules of the profiles of certificates (RFC 6487 4, RFC 8209 3.1), one by one, and which of them is broken first.
use Rattle.std.specs.Prelude.{◌≡◌, ◌<◌, ◌&&◌, not, ℕ, Bool, true, false, List, ◌∷◌, ◌++◌, Some, IsTrue, All, codes}
use Rattle.rpki.specs.KeyIdentifier.{SpellsKeyIdentifier}
use Rattle.rpki.specs.StrictName.{IsRpkiName, IsRouterName}
use Rattle.rpki_cert.specs.declared.extension.access_rule.AccessRule.TheVariants.{EndEntity, Notification}
use Rattle.rpki_cert.specs.declared.extension.key_usage.KeyUsage.TheVariants.{Ca, Ee}
use Rattle.rpki_cert.specs.declared.profile.rule.CertRule.{CertRule}
use Rattle.rpki_cert.specs.declared.profile.rule.CertRule.TheVariants.{SerialNumber, CriticalExtensions, Issuer}
use Rattle.rpki_cert.specs.declared.profile.rule.CertRule.TheVariants.{IssuerSize, SubjectSize, RouterSerialNumber}
use Rattle.rpki_cert.specs.declared.profile.rule.CertRule.TheVariants.{Validity}
use Rattle.rpki_cert.specs.declared.profile.rule.CertRule.TheVariants.{Subject, RouterSubject, RsaKey, RouterKey}
use Rattle.rpki_cert.specs.declared.profile.rule.CertRule.TheVariants.{BasicConstraints, NoBasicConstraints}
use Rattle.rpki_cert.specs.declared.profile.rule.CertRule.TheVariants.{SubjectKeyIdentifier, AuthorityKeyIdentifier}
use Rattle.rpki_cert.specs.declared.profile.rule.CertRule.TheVariants.{OwnAuthority, SelfIssued, AuthorityUsage}
use Rattle.rpki_cert.specs.declared.profile.rule.CertRule.TheVariants.{EndUsage}
use Rattle.rpki_cert.specs.declared.profile.rule.CertRule.TheVariants.{NoExtendedKeyUsage, RouterPurpose}
use Rattle.rpki_cert.specs.declared.profile.rule.CertRule.TheVariants.{RevocationList}
use Rattle.rpki_cert.specs.declared.profile.rule.CertRule.TheVariants.{NoRevocationList, IssuerCertificate}
use Rattle.rpki_cert.specs.declared.profile.rule.CertRule.TheVariants.{NoIssuerCertificate}
use Rattle.rpki_cert.specs.declared.profile.rule.CertRule.TheVariants.{Repository, Manifest, ManifestPlace}
use Rattle.rpki_cert.specs.declared.profile.rule.CertRule.TheVariants.{SignedObject}
use Rattle.rpki_cert.specs.declared.profile.rule.CertRule.TheVariants.{ObjectAccess, Notifications, NoSubjectAccess}
use Rattle.rpki_cert.specs.declared.profile.rule.CertRule.TheVariants.{CertificatePolicies, Resources, ResourceVersion}
use Rattle.rpki_cert.specs.declared.profile.rule.CertRule.TheVariants.{RouterNumbers, ResourceBlocks, OwnResources}
use Rattle.rpki_cert.specs.Cert.{TbsParts, find}
use Rattle.rpki_cert.specs.Known.{subject_key_identifier, key_usage, basic_constraints, crl_distribution_points}
use Rattle.rpki_cert.specs.Known.{certificate_policies, extended_key_usage}
use Rattle.rpki_x509.specs.Authority.{authority_key_identifier}
use Rattle.rpki_cert.specs.Known.{authority_info_access, subject_info_access, HasExtension, are_understood}
use Rattle.rpki_cert.specs.ExtensionContent.{SpellsConstraints, SpellsUsage, SpellsPurposes}
use Rattle.rpki_x509.specs.Authority.{SpellsAuthority}
use Rattle.rpki_cert.specs.ExtensionContent.{SpellsPolicies}
use Rattle.rpki_cert.specs.Access.{SpellsRsyncAccess, SpellsPoints, ca_issuers, ca_repository, rpki_manifest}
use Rattle.rpki_cert.specs.Access.{signed_object}
use Rattle.rpki_cert.specs.Keys.{IsRpkiKey, IsRouterKey}
use Rattle.rpki_cert.specs.NameValues.{PermitsName}
use Rattle.rpki_cert.specs.declared.profile.name_values.ValueRule.TheVariants as ValueRule
use Rattle.rpki_cert.specs.ResourceExtensions.{AreWellFormed, AreOwn}
use Rattle.rpki_cert.specs.RuleWords.{HasSome, HasNot, HasSomeUri, HasHeldAccess, SaysManifestBelow, IsOrdered}
use Rattle.rpki_cert.specs.RuleWords.{HasOwnAuthority, has_addresses, has_numbers, has_resources, HasOneVersion}

-- what the rule says of a certificate, in the words of the profiles; a name is checked against its profile where strict
-- is true
abbrev pub Obeys : Bool → TbsParts → CertRule → Type 0
Obeys strict t SerialNumber = 0 < t.serial
Obeys strict t CriticalExtensions = IsTrue (are_understood t.extensions)
Obeys strict t Issuer = IsTrue strict → IsRpkiName t.issuer
Obeys strict t IssuerSize = IsTrue strict → PermitsName ValueRule.Size t.issuer
Obeys strict t Validity = IsOrdered t.validity
Obeys strict t Subject = IsTrue strict → IsRpkiName t.subject
Obeys strict t RouterSubject = IsTrue strict → IsRouterName t.subject
Obeys strict t SubjectSize = IsTrue strict → PermitsName ValueRule.Size t.subject
Obeys strict t RouterSerialNumber = IsTrue strict → PermitsName ValueRule.SerialNumber t.subject
Obeys strict t RsaKey = IsRpkiKey t.key
Obeys strict t RouterKey = IsRouterKey t.key
Obeys strict t BasicConstraints = HasExtension basic_constraints true SpellsConstraints t.extensions (Some tt)
Obeys strict t NoBasicConstraints = HasNot basic_constraints t.extensions
Obeys strict t SubjectKeyIdentifier = HasSome subject_key_identifier false SpellsKeyIdentifier t.extensions
Obeys strict t AuthorityKeyIdentifier = HasSome authority_key_identifier false SpellsAuthority t.extensions
Obeys strict t OwnAuthority = HasOwnAuthority t.extensions
Obeys strict t SelfIssued = t.issuer ≡ t.subject
Obeys strict t AuthorityUsage = HasExtension key_usage true SpellsUsage t.extensions (Some Ca)
Obeys strict t EndUsage = HasExtension key_usage true SpellsUsage t.extensions (Some Ee)
Obeys strict t NoExtendedKeyUsage = HasNot extended_key_usage t.extensions
Obeys strict t RouterPurpose = HasExtension extended_key_usage false SpellsPurposes t.extensions (Some true)
Obeys strict t RevocationList = HasSomeUri crl_distribution_points SpellsPoints t.extensions
Obeys strict t NoRevocationList = HasNot crl_distribution_points t.extensions
Obeys strict t IssuerCertificate = HasSomeUri authority_info_access (SpellsRsyncAccess ca_issuers) t.extensions
Obeys strict t NoIssuerCertificate = HasNot authority_info_access t.extensions
Obeys strict t Repository = HasSomeUri subject_info_access (SpellsRsyncAccess ca_repository) t.extensions
Obeys strict t Manifest = HasSomeUri subject_info_access (SpellsRsyncAccess rpki_manifest) t.extensions
Obeys strict t SignedObject = HasSomeUri subject_info_access (SpellsRsyncAccess signed_object) t.extensions
Obeys strict t ManifestPlace = SaysManifestBelow (find subject_info_access t.extensions)
Obeys strict t ObjectAccess = HasHeldAccess EndEntity t.extensions
Obeys strict t Notifications = HasHeldAccess Notification t.extensions
Obeys strict t NoSubjectAccess = HasNot subject_info_access t.extensions
Obeys strict t CertificatePolicies = HasSome certificate_policies true SpellsPolicies t.extensions
Obeys strict t Resources = IsTrue (has_resources t.extensions)
Obeys strict t ResourceVersion = HasOneVersion t.extensions
Obeys strict t ResourceBlocks = AreWellFormed t.extensions
Obeys strict t OwnResources = AreOwn t.extensions
Obeys strict t RouterNumbers = IsTrue (has_numbers t.extensions && not (has_addresses t.extensions))

-- ---- which is broken

-- the rule is one of these, and is broken, and those before it are not
pub record IsFirstBroken (strict : Bool) (t : TbsParts) (rules : List CertRule) (rule : CertRule) : Type 0 where
  pub before : List CertRule
  pub after : List CertRule
  pub parts : rules ≡ before ++ rule ∷ after
  pub obeyed : All (Obeys strict t) before
  pub broken : Obeys strict t rule → ⊥

-- ---- the texts of the errors

abbrev pub rule_text : CertRule → List ℕ
rule_text SerialNumber = codes "RFC 5280 4.1.2.2: serial number is 0"
rule_text CriticalExtensions = codes "RFC 5280 4.2: unknown critical extension"
rule_text Issuer = codes "RFC 6487 4.4: issuer has no name of the RPKI"
rule_text IssuerSize = codes "RFC 5280 A.1: value of the issuer is not of 1 to 64 characters"
rule_text Validity = codes "RFC 5280 4.1.2.5: period ends before it begins"
rule_text Subject = codes "RFC 6487 4.5: subject has no name of the RPKI"
rule_text RouterSubject = codes "RFC 8209 3.1.1: subject has no name of a router"
rule_text SubjectSize = codes "RFC 5280 A.1: value of the subject is not of 1 to 64 characters"
rule_text RouterSerialNumber = codes "RFC 8209 3.1.1: serial number of the subject is no PrintableString"
rule_text RsaKey = codes "RFC 7935 3: key is no RSA key of 2048 bits and the exponent 65537"
rule_text RouterKey = codes "RFC 8608 3.1: key is no uncompressed point on P-256"
rule_text BasicConstraints = codes "RFC 6487 4.8.1: missing basic constraints"
rule_text NoBasicConstraints = codes "RFC 6487 4.8.1: basic constraints of an end entity"
rule_text SubjectKeyIdentifier = codes "RFC 6487 4.8.2: missing subject key identifier"
rule_text AuthorityKeyIdentifier = codes "RFC 6487 4.8.3: missing authority key identifier"
rule_text OwnAuthority = codes "RFC 6487 4.8.3: authority key identifier of a trust anchor is not its own"
rule_text SelfIssued = codes "RFC 8630 2.3: issuer of a trust anchor is not its subject"
rule_text AuthorityUsage = codes "RFC 6487 4.8.4: missing or another key usage"
rule_text EndUsage = codes "RFC 6487 4.8.4: missing or another key usage"
rule_text NoExtendedKeyUsage = codes "RFC 6487 4.8.5: extended key usage of a key of the RPKI"
rule_text RouterPurpose = codes "RFC 8209 3.1.3.2: missing purpose of a router"
rule_text RevocationList = codes "RFC 6487 4.8.6: missing URI of the revocation list"
rule_text NoRevocationList = codes "RFC 6487 4.8.6: CRL distribution points of a trust anchor"
rule_text IssuerCertificate = codes "RFC 6487 4.8.7: missing URI of the issuer's certificate"
rule_text NoIssuerCertificate = codes "RFC 6487 4.8.7: authority information access of a trust anchor"
rule_text Repository = codes "RFC 6487 4.8.8.1: missing URI of the repository"
rule_text Manifest = codes "RFC 6487 4.8.8.1: missing URI of the manifest"
rule_text ManifestPlace = codes "RFC 6487 4.8.8.1, RFC 9286 2: manifest is not in the repository"
rule_text SignedObject = codes "RFC 6487 4.8.8.2: missing URI of the signed object"
rule_text ObjectAccess = codes "RFC 6487 4.8.8.2: other access method of an end entity"
rule_text Notifications = codes "RFC 8182 3.2: notifications without an https URI"
rule_text NoSubjectAccess = codes "RFC 8209 3.1.3.3, RFC 9323 2: subject information access"
rule_text CertificatePolicies = codes "RFC 6487 4.8.9: missing certificate policies"
rule_text Resources = codes "RFC 6487 4.8.10, 4.8.11: missing resources, or ones that are not critical"
rule_text ResourceVersion = codes "RFC 8360 4.2: policy and resources of two versions"
rule_text ResourceBlocks = codes "RFC 6487 4.8.10, 4.8.11: resources that are not in canonical form"
rule_text OwnResources = codes "RFC 8630 2.3, RFC 8209 3.1.3.5: resources of the issuer"
rule_text RouterNumbers = codes "RFC 8209 3.1.3.4, 3.1.3.5: missing numbers, or addresses are there"
