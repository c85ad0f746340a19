-- What a status says of a certificate that is checked against a profile.
use Rattle.std.specs.Prelude.{◌≡◌, ◌⊎◌, ◌<◌, ℕ, Bool, List}
use Rattle.rpki_cert.specs.declared.read.cert_part.CertPart.{CertPart}
use Rattle.rpki_cert.specs.declared.profile.rule.CertRule.{CertRule}
use Rattle.rpki_cert.specs.declared.profile.Profile.{Profile}
use Rattle.rpki_cert.specs.Cert.{CertParts, SpellsCert}
use Rattle.rpki_cert.specs.Profile.{rules_of, HasProfile}
use Rattle.rpki_cert.specs.Rule.{IsFirstBroken}
use Rattle.rpki_cert.specs.View.{IsCertWrong}
use Rattle.rpki_c.specs.Certificate.{part_number, HasCertificate, known_number, HasExtensions}
use Rattle.rpki_c.specs.Status.{no_profile}
use Rattle.rpki_cert.specs.declared.extension.known_part.KnownPart.{KnownPart}
use Rattle.rpki_cert.specs.declared.extension.known_view.KnownView.{KnownView}
use Rattle.rpki_cert.specs.declared.profile.CheckError.{CheckError}
use Rattle.rpki_cert.specs.KnownView.{AreKnown, IsFirstWrong}
use Rattle.rpki_c.specs.declared.certificate.CertificateParts.{CertificateParts as Parts}
use Rattle.rpki_c.specs.declared.certificate_extensions.KnownExtensions.{KnownExtensions as Extensions}

-- ---- What a status says of a certificate that is checked against a profile

-- the status of a certificate that breaks this rule
abbrev pub cert_rule_number : CertRule → ℕ
cert_rule_number CertRule.SerialNumber = 85
cert_rule_number CertRule.CriticalExtensions = 86
cert_rule_number CertRule.Issuer = 87
cert_rule_number CertRule.Subject = 88
cert_rule_number CertRule.RouterSubject = 89
cert_rule_number CertRule.RsaKey = 90
cert_rule_number CertRule.RouterKey = 91
cert_rule_number CertRule.BasicConstraints = 92
cert_rule_number CertRule.NoBasicConstraints = 93
cert_rule_number CertRule.SubjectKeyIdentifier = 94
cert_rule_number CertRule.AuthorityKeyIdentifier = 95
cert_rule_number CertRule.AuthorityUsage = 96
cert_rule_number CertRule.EndUsage = 97
cert_rule_number CertRule.NoExtendedKeyUsage = 98
cert_rule_number CertRule.RouterPurpose = 99
cert_rule_number CertRule.RevocationList = 100
cert_rule_number CertRule.NoRevocationList = 101
cert_rule_number CertRule.IssuerCertificate = 102
cert_rule_number CertRule.NoIssuerCertificate = 103
cert_rule_number CertRule.Repository = 104
cert_rule_number CertRule.Manifest = 105
cert_rule_number CertRule.SignedObject = 106
cert_rule_number CertRule.NoSubjectAccess = 107
cert_rule_number CertRule.CertificatePolicies = 108
cert_rule_number CertRule.Resources = 109
cert_rule_number CertRule.RouterNumbers = 110
cert_rule_number CertRule.ObjectAccess = 111
cert_rule_number CertRule.Validity = 112
cert_rule_number CertRule.OwnAuthority = 113
cert_rule_number CertRule.SelfIssued = 114
cert_rule_number CertRule.ResourceVersion = 115
cert_rule_number CertRule.ResourceBlocks = 116
cert_rule_number CertRule.OwnResources = 117
cert_rule_number CertRule.ManifestPlace = 118
cert_rule_number CertRule.Notifications = 119
cert_rule_number CertRule.IssuerSize = 156
cert_rule_number CertRule.SubjectSize = 157
cert_rule_number CertRule.RouterSerialNumber = 158

-- how a profile is passed
abbrev pub profile_number : Profile → ℕ
profile_number Profile.Ta = 0
profile_number Profile.Ca = 1
profile_number Profile.Ee = 2
profile_number Profile.Router = 3
profile_number Profile.DetachedEe = 4

-- the octets are a certificate of the profile
pub record IsOfProfile (s : List ℕ) (profile : Profile) (strict : Bool) : Type 0 where
  pub cert : CertParts
  pub spelled : SpellsCert cert s
  pub has : HasProfile profile strict cert.tbs

-- they are a certificate, which of the rules of the profile breaks this one first, and so hasn't the profile
pub record BreaksRule (s : List ℕ) (profile : Profile) (strict : Bool) (rule : CertRule) : Type 0 where
  pub cert : CertParts
  pub spelled : SpellsCert cert s
  pub first : IsFirstBroken strict cert.tbs (rules_of profile) rule
  pub other : HasProfile profile strict cert.tbs → ⊥

-- Status 0: the octets are a certificate of the profile. 85 to 119, 156 to 158: they are a certificate, which breaks
-- the rule of this number first. Else the number of the malformed part.
abbrev pub IsInspectedAs : List ℕ → Profile → Bool → ℕ → Type 0
IsInspectedAs s profile strict status =
    ((status ≡ 0) × IsOfProfile s profile strict)
    ⊎ ((rule : CertRule) × (status ≡ cert_rule_number rule) × BreaksRule s profile strict rule)
    ⊎ ((q : CertPart) × (status ≡ part_number q) × IsCertWrong s q)

-- the same of the profile of this number; status 12: no profile has it
abbrev pub IsCertificateInspected : List ℕ → ℕ → Bool → ℕ → Type 0
IsCertificateInspected s number strict status =
    ((profile : Profile) × (number ≡ profile_number profile) × IsInspectedAs s profile strict status)
    ⊎ ((4 < number) × (status ≡ no_profile))

-- ---- What a status says of a certificate of which all is asked at once

-- the octets are a certificate of the profile, of these parts and extensions
pub record HasAll (s : List ℕ) (profile : Profile) (strict : Bool) (parts : Parts) (extensions : Extensions)
    : Type 0 where
  pub profiled : IsOfProfile s profile strict
  pub divided : HasCertificate s parts
  pub extended : HasExtensions s extensions

-- how the error of a check is passed
abbrev pub check_number : CheckError → ℕ
check_number (CheckError.Extension part) = known_number part
check_number (CheckError.Rule rule) = cert_rule_number rule

-- 64 to 79: this part is wrong. 80 to 84: the octets are a certificate, of which the extension of this number, and none
-- before it, is malformed or not as critical as it has to be. 85 to 119: they are a certificate that has none of these,
-- and breaks the rule of this number first.
pub data IsRefusedAs (s : List ℕ) (profile : Profile) (strict : Bool) (status : ℕ) : Type 0 where
  WrongPart : (q : CertPart) → status ≡ part_number q → IsCertWrong s q → IsRefusedAs s profile strict status
  WrongExtension : (q : KnownPart) (cert : CertParts) → status ≡ known_number q → SpellsCert cert s
      → IsFirstWrong cert.tbs.extensions q → IsRefusedAs s profile strict status
  BrokenRule : (rule : CertRule) (cert : CertParts) (known : KnownView) → status ≡ cert_rule_number rule
      → SpellsCert cert s → AreKnown cert.tbs.extensions known → BreaksRule s profile strict rule
      → IsRefusedAs s profile strict status

-- Status 0: the octets are all that is asked. Else nothing is written.
abbrev pub IsCheckedAs : List ℕ → Profile → Bool → ℕ → Parts → Parts → Extensions → Extensions → Type 0
IsCheckedAs s profile strict status old new before after =
    ((status ≡ 0) × HasAll s profile strict new after)
    ⊎ (IsRefusedAs s profile strict status × (new ≡ old) × (after ≡ before))

-- the same of the profile of this number; status 12: no profile has it
abbrev pub IsCertificateChecked : List ℕ → ℕ → Bool → ℕ → Parts → Parts → Extensions → Extensions → Type 0
IsCertificateChecked s number strict status old new before after =
    ((profile : Profile) × (number ≡ profile_number profile)
    × IsCheckedAs s profile strict status old new before after)
    ⊎ ((4 < number) × (status ≡ no_profile) × (new ≡ old) × (after ≡ before))
