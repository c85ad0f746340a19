-- What a status says of a certificate and of its extensions.
use Rattle.std.specs.Prelude.{◌≡◌, ◌⊎◌, ℕ, List, Result, Ok, Err, true, false, [], Option, Some, None, replicate, ◌<◌}
use Rattle.rpki_der.specs.Error.{error_number}
use Rattle.rpki_der.specs.Number.{number_of}
use Rattle.rpki_cert.specs.declared.read.cert_error.CertError.{CertError}
use Rattle.rpki_cert.specs.declared.read.cert_part.CertPart.{CertPart}
use Rattle.rpki_cert.specs.Cert.{TbsParts, CertParts, SpellsCert, find}
use Rattle.rpki_cert.specs.View.{AreNamed, IsCertError, IsCertWrong, IsCertAt}
use Rattle.rpki_c.specs.declared.certificate.CertificateParts.{CertificateParts as Parts}
use Rattle.rpki_c.specs.Key.{format_number}
use Rattle.rpki_c.specs.Time.{IsMoment}
use Rattle.rpki_c.specs.Whole.{IsRead}
use Rattle.rpki_cert.specs.declared.extension.known_part.KnownPart.{KnownPart}
use Rattle.rpki_cert.specs.declared.extension.known_view.KnownView.{KnownView}
use Rattle.rpki_cert.specs.KnownView.{AreKnown, IsFirstWrong}
use Rattle.rpki_c.specs.declared.known_cert.KnownCert.{KnownCert}
use Rattle.rpki.specs.ExtensionValue.{ExtensionParts}
use Rattle.rpki_cert.specs.declared.extension.key_usage.KeyUsage.{KeyUsage as Usage}
use Rattle.rpki_cert.specs.declared.extension.policy.Overclaim.{Overclaim}
use Rattle.rpki_cert.specs.Known.{subject_key_identifier, key_usage, basic_constraints, crl_distribution_points}
use Rattle.rpki_cert.specs.Known.{certificate_policies, extended_key_usage, authority_info_access, subject_info_access}
use Rattle.rpki_cert.specs.Known.{ip_addr_blocks, ip_addr_blocks_v2, autonomous_sys_ids, autonomous_sys_ids_v2}
use Rattle.rpki_x509.specs.Authority.{authority_key_identifier}
use Rattle.rpki_c.specs.declared.certificate_extensions.KnownExtension.{KnownExtension}
use Rattle.rpki_c.specs.declared.certificate_extensions.KnownExtensions.{KnownExtensions as Extensions}
use Rattle.rpki_cert.specs.declared.extension.kind.ExtensionKind.{ExtensionKind}
use Rattle.rpki_cert.specs.ExtensionTable.{identifier_of}
use Rattle.rpki_c.specs.Status.{no_answer}

-- ---- What a status says of the octets of a certificate

-- the status of octets of which this part is wrong
abbrev pub part_number : CertPart → ℕ
part_number CertPart.Certificate = 64
part_number CertPart.Signed = 65
part_number CertPart.Algorithm = 66
part_number CertPart.Signature = 67
part_number CertPart.Tbs = 68
part_number CertPart.Version = 69
part_number CertPart.SerialNumber = 70
part_number CertPart.TbsAlgorithm = 71
part_number CertPart.Issuer = 72
part_number CertPart.Validity = 73
part_number CertPart.Subject = 74
part_number CertPart.PublicKey = 75
part_number CertPart.Extensions = 76
part_number CertPart.ExtensionCount = 77
part_number CertPart.ExtensionIdentifiers = 78
part_number CertPart.SameAlgorithm = 79

-- the names, the key, and the extensions, in sequence; h says which octets are which
pub record HasNamed (t : TbsParts) (d : List ℕ) (h : AreNamed t d) (p : Parts) : Type 0 where
  pub issuer : p.issuer.octets.now ≡ t.issuer
  pub subject : p.subject.octets.now ≡ t.subject
  pub key : p.public_key.octets.now ≡ h.two.two.two.first
  pub extensions : p.extensions.octets.now ≡ h.two.two.two.two.spelled.contents

-- the octets are a certificate, whose parts these are, as the grammar divides the octets
pub record HasCertificate (s : List ℕ) (p : Parts) : Type 0 where
  pub cert : CertParts
  pub spelled : SpellsCert cert s
  pub signed : p.«data».octets.now ≡ cert.signed.signed
  pub algorithm : p.algorithm.octets.now ≡ spelled.signed.spelled.text
  pub parameters : p.has_parameters ≡ cert.signed.algorithm
  pub signature : p.signature.octets.now ≡ cert.signed.value
  pub serial : number_of p.serial_number ≡ cert.tbs.serial
  pub not_before : IsMoment cert.tbs.validity.not_before p.validity.not_before
  pub not_after : IsMoment cert.tbs.validity.not_after p.validity.not_after
  pub named : HasNamed cert.tbs spelled.tbs.spelled.two.two.second spelled.tbs.spelled.two.two.two p
  pub format : p.key_format ≡ format_number cert.tbs.key.format
  pub unused : p.key_unused ≡ cert.tbs.key.bits.unused

-- Status 0: the octets are a certificate of these parts. Else the number of the malformed part, and nothing is
-- written.
abbrev pub IsCertificateRead : List ℕ → ℕ → Parts → Parts → Type 0
IsCertificateRead s = IsRead (HasCertificate s) part_number (IsCertWrong s)

-- Status 0: the octets are a certificate, and nothing is written. Else the number of the malformed part, and the
-- number of the error, as a reader of that part returns it, is written.
abbrev pub IsCertificateErrorRead : List ℕ → ℕ → ℕ → ℕ → Type 0
IsCertificateErrorRead s status old new =
    ((status ≡ 0) × ((x : CertParts) × SpellsCert x s) × (new ≡ old))
    ⊎ ((q : CertError) × IsCertError s q × (status ≡ part_number q.part) × (new ≡ error_number q.error))

-- ---- Certificates whose extensions are read with them

-- the status of a certificate that has this extension, which is malformed, or not as critical as it has to be
abbrev pub known_number : KnownPart → ℕ
known_number KnownPart.BasicConstraints = 80
known_number KnownPart.SubjectKeyIdentifier = 81
known_number KnownPart.AuthorityKeyIdentifier = 82
known_number KnownPart.KeyUsage = 83
known_number KnownPart.CertificatePolicies = 84

-- the octets are a certificate, whose extensions that are read say this
pub record HasKnown (s : List ℕ) (x : CertParts) (known : KnownView) : Type 0 where
  pub spelled : SpellsCert x s
  pub says : AreKnown x.tbs.extensions known

-- 64 to 79: this part is wrong. 80 to 84: it is a certificate, of which the extension of this number, and none before
-- it, is malformed or not as critical as it has to be.
abbrev pub IsUnknown : List ℕ → ℕ → Type 0
IsUnknown s status =
    ((q : CertPart) × (status ≡ part_number q) × IsCertWrong s q)
    ⊎ ((q : KnownPart) × (x : CertParts) × (status ≡ known_number q) × SpellsCert x s × IsFirstWrong x.tbs.extensions q)

-- the octets are a certificate, which is in them as in the view
pub record IsKnownAt (s : List ℕ) (v : KnownCert) (x : CertParts) : Type 0 where
  pub cert : IsCertAt s v.cert x
  pub says : AreKnown x.tbs.extensions v.known

-- a reader of the whole of s: a certificate, or the status of what is none
abbrev pub IsKnownRead : List ℕ → Result KnownCert ℕ → Type 0
IsKnownRead s (Ok v) = (x : CertParts) × IsKnownAt s v x
IsKnownRead s (Err status) = IsUnknown s status

-- ---- What a status says of the extensions of a certificate

-- how the use of a key is passed, and that there is none
abbrev pub usage_number : Option Usage → ℕ
usage_number None = 0
usage_number (Some Usage.Ca) = 1
usage_number (Some Usage.Ee) = 2

-- how a policy is passed, and that there is none
abbrev pub policy_number : Option Overclaim → ℕ
policy_number None = 0
policy_number (Some Overclaim.Refuse) = 1
policy_number (Some Overclaim.Trim) = 2

-- the octets of a key identifier, where there is one; else twenty zeros
abbrev pub IsIdentifierOf : Option (List ℕ) → List ℕ → Type 0
IsIdentifierOf None octets = octets ≡ replicate 20 0
IsIdentifierOf (Some k) octets = octets ≡ k

-- this is what is written of the extension, or that there is none
abbrev pub IsKnownAs : Option ExtensionParts → KnownExtension → Type 0
IsKnownAs None p = (p.is_there ≡ false) × (p.critical ≡ false) × (p.octets.octets.now ≡ [])
IsKnownAs (Some x) p = (p.is_there ≡ true) × (p.critical ≡ x.critical) × (p.octets.octets.now ≡ x.content)

-- the same of the certificate's first extension of this identifier
abbrev pub IsFoundAs : CertParts → List ℕ → KnownExtension → Type 0
IsFoundAs x id p = IsKnownAs (find id x.tbs.extensions) p

-- the octets are a certificate, and these are its extensions, and what those say that are read
pub record HasExtensions (s : List ℕ) (p : Extensions) : Type 0 where
  pub cert : CertParts
  pub spelled : SpellsCert cert s
  pub constraints : IsFoundAs cert basic_constraints p.basic_constraints
  pub subject : IsFoundAs cert subject_key_identifier p.subject_key_identifier
  pub authority : IsFoundAs cert authority_key_identifier p.authority_key_identifier
  pub usage : IsFoundAs cert key_usage p.key_usage
  pub purposes : IsFoundAs cert extended_key_usage p.extended_key_usage
  pub points : IsFoundAs cert crl_distribution_points p.crl_distribution_points
  pub issuer_access : IsFoundAs cert authority_info_access p.authority_info_access
  pub subject_access : IsFoundAs cert subject_info_access p.subject_info_access
  pub policies : IsFoundAs cert certificate_policies p.certificate_policies
  pub addresses : IsFoundAs cert ip_addr_blocks p.ip_resources
  pub addresses_v2 : IsFoundAs cert ip_addr_blocks_v2 p.ip_resources_v2
  pub numbers : IsFoundAs cert autonomous_sys_ids p.as_resources
  pub numbers_v2 : IsFoundAs cert autonomous_sys_ids_v2 p.as_resources_v2
  pub said : KnownView
  pub known : AreKnown cert.tbs.extensions said
  pub ca : p.is_ca ≡ said.ca
  pub purpose : p.usage ≡ usage_number said.key_usage
  pub policy : p.policy ≡ policy_number said.overclaim
  pub subject_key : IsIdentifierOf said.subject_key_identifier p.subject_key
  pub authority_key : IsIdentifierOf said.authority_key_identifier p.authority_key

-- Status 0: the octets are a certificate of these extensions. Else it isn't read, and nothing is written.
abbrev pub AreExtensionsRead : List ℕ → ℕ → Extensions → Extensions → Type 0
AreExtensionsRead s status old new =
    ((status ≡ 0) × HasExtensions s new) ⊎ (IsUnknown s status × (new ≡ old))

-- ---- What a status says of one extension of a certificate, whichever others there are

-- how an extension is passed
abbrev pub kind_number : ExtensionKind → ℕ
kind_number ExtensionKind.BasicConstraints = 0
kind_number ExtensionKind.SubjectKeyIdentifier = 1
kind_number ExtensionKind.AuthorityKeyIdentifier = 2
kind_number ExtensionKind.KeyUsage = 3
kind_number ExtensionKind.ExtendedKeyUsage = 4
kind_number ExtensionKind.CrlDistributionPoints = 5
kind_number ExtensionKind.AuthorityInfoAccess = 6
kind_number ExtensionKind.SubjectInfoAccess = 7
kind_number ExtensionKind.CertificatePolicies = 8
kind_number ExtensionKind.IpResources = 9
kind_number ExtensionKind.IpResourcesV2 = 10
kind_number ExtensionKind.AsResources = 11
kind_number ExtensionKind.AsResourcesV2 = 12

-- the octets are a certificate, and this is its extension of this kind, or that there is none
pub record HasExtension (s : List ℕ) (kind : ExtensionKind) (p : KnownExtension) : Type 0 where
  pub cert : CertParts
  pub spelled : SpellsCert cert s
  pub found : IsFoundAs cert (identifier_of kind) p

-- Status 0: the octets are a certificate, and this is what it has of this kind. Else the number of the malformed part.
-- Nothing is written where the status is not 0.
abbrev pub IsExtensionReadOf : List ℕ → ExtensionKind → ℕ → KnownExtension → KnownExtension → Type 0
IsExtensionReadOf s kind = IsRead (HasExtension s kind) part_number (IsCertWrong s)

-- the same of the kind of this number; status 10: no kind has it
abbrev pub IsExtensionFound : List ℕ → ℕ → ℕ → KnownExtension → KnownExtension → Type 0
IsExtensionFound s number status old new =
    ((kind : ExtensionKind) × (number ≡ kind_number kind) × IsExtensionReadOf s kind status old new)
    ⊎ ((12 < number) × (status ≡ no_answer) × (new ≡ old))
