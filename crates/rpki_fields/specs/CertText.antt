-- What is shown of a certificate: a list of fields.
use Rattle.std.specs.Prelude.{◌≡◌, ◌⊎◌, ℕ, Bool, false, true, if◌then◌else◌, List, [], ◌∷◌, ◌++◌, map, codes, bytes_eq}
use Rattle.std.specs.Prelude.{Option, Some, unwrap_or}
use Rattle.std.specs.Option.{option_map}
use Rattle.sha1.specs.Sha1.{sha1}
use Rattle.sha2.specs.Sha256.{sha256}
use Rattle.rpki.specs.declared.crypto.keys.PublicKeyFormat.{PublicKeyFormat}
use Rattle.rpki.specs.declared.crypto.keys.PublicKeyFormat.TheVariants.{Rsa, EcdsaP256}
use Rattle.rpki_time.specs.Validity.{Period}
use Rattle.rpki.specs.PublicKey.{KeyParts}
use Rattle.rpki.specs.KeyIdentifier.{SpellsKeyIdentifier}
use Rattle.rpki.specs.ExtensionValue.{ExtensionParts}
use Rattle.rpki_cert.specs.declared.extension.key_usage.KeyUsage.{KeyUsage}
use Rattle.rpki_cert.specs.declared.extension.key_usage.KeyUsage.TheVariants.{Ca, Ee}
use Rattle.rpki_cert.specs.declared.extension.policy.Overclaim.{Overclaim}
use Rattle.rpki_cert.specs.declared.extension.policy.Overclaim.TheVariants.{Refuse, Trim}
use Rattle.rpki_cert.specs.Cert.{TbsParts}
use Rattle.rpki_cert.specs.Known.{subject_key_identifier, key_usage, basic_constraints, crl_distribution_points}
use Rattle.rpki_cert.specs.Known.{certificate_policies, extended_key_usage}
use Rattle.rpki_x509.specs.Authority.{authority_key_identifier}
use Rattle.rpki_cert.specs.Known.{authority_info_access, subject_info_access, ip_addr_blocks, ip_addr_blocks_v2}
use Rattle.rpki_cert.specs.Known.{autonomous_sys_ids, autonomous_sys_ids_v2, HasOnly, HasNone}
use Rattle.rpki_cert.specs.ExtensionContent.{SpellsConstraints, SpellsUsage, SpellsPurposes}
use Rattle.rpki_x509.specs.Authority.{SpellsAuthority}
use Rattle.rpki_cert.specs.ExtensionContent.{SpellsPolicies}
use Rattle.rpki_cert.specs.Access.{SpellsRsyncAccess, SpellsHttpsAccess, SpellsPoints, HasUri, ca_issuers}
use Rattle.rpki_cert.specs.Access.{ca_repository, rpki_manifest, signed_object, rpki_notify}
use Rattle.rpki_fields.specs.Field.{FieldParts, field_parts, number_parts, time_parts, size_parts, field_if}
use Rattle.rpki_fields.specs.Field.{other_text}
use Rattle.rpki_fields.specs.IdentifierText.{identifier_text}
use Rattle.rpki_fields.specs.ValueText.{colon_digits, IsNumberText}
use Rattle.rpki_fields.specs.NameText.{IsNameText}
use Rattle.rpki_fields.specs.KeySize.{IsSizeText}
use Rattle.rpki_fields.specs.ResourceText.{AreResources}

-- ---- the fields that each certificate has (RFC 5280 4.1)

-- version, serial number, signature algorithm and issuer
abbrev pub AreHead : TbsParts → List FieldParts → Type 0
AreHead t fields =
    (serial : List ℕ) × (issuer : List ℕ) × IsNumberText t.serial serial × IsNameText t.issuer issuer
    × (fields ≡ number_parts (codes "Version") 3 ∷ field_parts (codes "Cert Serial") serial
    ∷ field_parts (codes "Signature Algorithm") (codes "sha256WithRSAEncryption")
    ∷ field_parts (codes "Cert Issuer") issuer ∷ [])

-- the period and the subject
abbrev pub AreMiddle : Period → List ℕ → List FieldParts → Type 0
AreMiddle validity name fields =
    (subject : List ℕ) × IsNameText name subject
    × (fields ≡ time_parts (codes "Valid Since") validity.not_before
    ∷ time_parts (codes "Valid Until") validity.not_after
    ∷ field_parts (codes "Subject") subject ∷ [])

abbrev pub algorithm_text : PublicKeyFormat → List ℕ
algorithm_text Rsa = codes "rsaEncryption"
algorithm_text EcdsaP256 = codes "id-ecPublicKey prime256v1"

-- a key of this size: its algorithm, the size, and the digest by SHA-1 of its bits (RFC 6487 4.8.2)
abbrev pub key_fields : KeyParts → List ℕ → List FieldParts
key_fields k size =
    field_parts (codes "Public Key Algorithm") (algorithm_text k.format)
    ∷ size_parts (codes "Public Key Bits") size
    ∷ field_parts (codes "Public Key SHA-1") (colon_digits (sha1 k.bits.octets)) ∷ []

abbrev pub AreKey : KeyParts → List FieldParts → Type 0
AreKey k fields = (size : List ℕ) × IsSizeText k size × (fields ≡ key_fields k size)

-- ---- what the extensions say (RFC 6487 4.8)

-- the section on the extension of this identifier
abbrev pub section_of : List ℕ → List ℕ
section_of id =
    if bytes_eq id basic_constraints then codes "RFC 6487 4.8.1"
    else if bytes_eq id subject_key_identifier then codes "RFC 6487 4.8.2"
    else if bytes_eq id authority_key_identifier then codes "RFC 6487 4.8.3"
    else if bytes_eq id key_usage then codes "RFC 6487 4.8.4"
    else if bytes_eq id extended_key_usage then codes "RFC 6487 4.8.5"
    else if bytes_eq id crl_distribution_points then codes "RFC 6487 4.8.6"
    else if bytes_eq id authority_info_access then codes "RFC 6487 4.8.7"
    else if bytes_eq id subject_info_access then codes "RFC 6487 4.8.8"
    else codes "RFC 6487 4.8.9"

-- What is shown of an extension: nothing where it isn't there; what its value is shown as; or that it is not as this
-- section has it.
abbrev pub Says : {V : Type 0} → (section : List ℕ) → (Option V → Type 0) → Type 0 → (V → List ℕ)
    → Option (List ℕ) → Type 0
Says {V} section Has Not show o =
    ((v : Option V) × Has v × (o ≡ option_map show v)) ⊎ (Not × (o ≡ Some (other_text section)))

abbrev pub authority_text : Unit {0} → List ℕ
authority_text u = codes "CA:TRUE"

abbrev pub usage_text : KeyUsage → List ℕ
usage_text Ca = codes "Certificate Sign, CRL Sign"
usage_text Ee = codes "Digital Signature"

-- whether a router's purpose is among them
abbrev pub purposes_text : Bool → List ℕ
purposes_text router = if router then codes "BGPsec Router" else codes "other"

abbrev pub policy_text : Overclaim → List ℕ
policy_text Refuse = codes "ipAddr-asNumber"
policy_text Trim = codes "ipAddr-asNumber-v2"

-- the same of the one extension of this identifier and criticality, whose value is spelled like this
abbrev pub SaysOnly : {V : Type 0} → List ℕ → Bool → (V → List ℕ → Type 0) → (V → List ℕ) → List ExtensionParts
    → Option (List ℕ) → Type 0
SaysOnly id critical G show xs o = Says (section_of id) (HasOnly id critical G xs) (HasNone id critical G xs) show o

-- an extension, and what is shown of it
abbrev pub IsSubjectText : List ExtensionParts → Option (List ℕ) → Type 0
IsSubjectText = SaysOnly subject_key_identifier false SpellsKeyIdentifier colon_digits

abbrev pub IsAuthorityText : List ExtensionParts → Option (List ℕ) → Type 0
IsAuthorityText = SaysOnly authority_key_identifier false SpellsAuthority colon_digits

abbrev pub IsConstraintsText : List ExtensionParts → Option (List ℕ) → Type 0
IsConstraintsText = SaysOnly basic_constraints true SpellsConstraints authority_text

abbrev pub IsUsageText : List ExtensionParts → Option (List ℕ) → Type 0
IsUsageText = SaysOnly key_usage true SpellsUsage usage_text

abbrev pub IsPurposesText : List ExtensionParts → Option (List ℕ) → Type 0
IsPurposesText = SaysOnly extended_key_usage false SpellsPurposes purposes_text

abbrev pub IsPolicyText : List ExtensionParts → Option (List ℕ) → Type 0
IsPolicyText = SaysOnly certificate_policies true SpellsPolicies policy_text

-- the identifiers of the keys of the subject and of the issuer
abbrev pub AreIdentifiers : List ExtensionParts → List FieldParts → Type 0
AreIdentifiers xs fields =
    (subject : Option (List ℕ)) × (authority : Option (List ℕ))
    × IsSubjectText xs subject × IsAuthorityText xs authority
    × (fields ≡ field_if (codes "SKI") subject ++ field_if (codes "AKI") authority)

-- the text is there, and is this one
abbrev pub has_text : Option (List ℕ) → List ℕ → Bool
has_text o text = bytes_eq (unwrap_or o []) text

-- the type of a certificate, by what is shown of its basic constraints and of its extended key usage: that of an
-- authority, of a router (RFC 8209), or of another end entity
abbrev pub cert_type : (constraints purposes : Option (List ℕ)) → List ℕ
cert_type constraints purposes =
    if has_text constraints (codes "CA:TRUE") then codes "ca_cert"
    else if has_text purposes (codes "BGPsec Router") then codes "router_key"
    else codes "ee_cert"

-- the type, and what the key is for
abbrev pub AreUses : List ExtensionParts → List FieldParts → Type 0
AreUses xs fields =
    (constraints : Option (List ℕ)) × (usage : Option (List ℕ)) × (purposes : Option (List ℕ))
    × (policies : Option (List ℕ))
    × IsConstraintsText xs constraints × IsUsageText xs usage × IsPurposesText xs purposes
    × IsPolicyText xs policies
    × (fields ≡ field_parts (codes "Type") (cert_type constraints purposes)
    ∷ field_if (codes "Basic Constraints") constraints ++ field_if (codes "Key Usage") usage
    ++ field_if (codes "Extended Key Usage") purposes ++ field_if (codes "Certificate Policies") policies)

-- a URI as it is
abbrev pub SaysUri : List ℕ → (Option (List ℕ) → List ℕ → Type 0) → List ExtensionParts → Option (List ℕ) → Type 0
SaysUri id G xs o = Says (section_of id) (HasUri id G xs) (HasNone id false G xs) (λ uri. uri) o

-- where the revocation list and the issuer's certificate are
abbrev pub AreIssuerPlaces : List ExtensionParts → List FieldParts → Type 0
AreIssuerPlaces xs fields =
    (revocation : Option (List ℕ)) × (issuer : Option (List ℕ))
    × SaysUri crl_distribution_points SpellsPoints xs revocation
    × SaysUri authority_info_access (SpellsRsyncAccess ca_issuers) xs issuer
    × (fields ≡ field_if (codes "CRL Distribution Points") revocation ++ field_if (codes "AIA") issuer)

-- where the subject publishes
abbrev pub AreSubjectPlaces : List ExtensionParts → List FieldParts → Type 0
AreSubjectPlaces xs fields =
    (repository : Option (List ℕ)) × (manifest : Option (List ℕ)) × (object : Option (List ℕ))
    × (notify : Option (List ℕ))
    × SaysUri subject_info_access (SpellsRsyncAccess ca_repository) xs repository
    × SaysUri subject_info_access (SpellsRsyncAccess rpki_manifest) xs manifest
    × SaysUri subject_info_access (SpellsRsyncAccess signed_object) xs object
    × SaysUri subject_info_access (SpellsHttpsAccess rpki_notify) xs notify
    × (fields ≡ field_if (codes "CARepository") repository ++ field_if (codes "Manifest") manifest
    ++ field_if (codes "SIA") object ++ field_if (codes "Notify URL") notify)

-- ---- the list of extensions

-- the names of the identifiers below id-pe (RFC 5280 4.2.2, RFC 3779 2.2.1, 3.2.1, RFC 8360 4.2.2); of another its
-- arcs
abbrev pub private_name : List ℕ → List ℕ
private_name id =
    if bytes_eq id authority_info_access then codes "authorityInfoAccess"
    else if bytes_eq id subject_info_access then codes "subjectInfoAccess"
    else if bytes_eq id ip_addr_blocks then codes "ipAddrBlocks"
    else if bytes_eq id ip_addr_blocks_v2 then codes "ipAddrBlocks-v2"
    else if bytes_eq id autonomous_sys_ids then codes "autonomousSysIds"
    else if bytes_eq id autonomous_sys_ids_v2 then codes "autonomousSysIds-v2"
    else identifier_text id

-- the name of an extension's identifier (RFC 5280 4.2.1)
abbrev pub extension_name : List ℕ → List ℕ
extension_name id =
    if bytes_eq id subject_key_identifier then codes "subjectKeyIdentifier"
    else if bytes_eq id authority_key_identifier then codes "authorityKeyIdentifier"
    else if bytes_eq id basic_constraints then codes "basicConstraints"
    else if bytes_eq id key_usage then codes "keyUsage"
    else if bytes_eq id extended_key_usage then codes "extendedKeyUsage"
    else if bytes_eq id crl_distribution_points then codes "cRLDistributionPoints"
    else if bytes_eq id certificate_policies then codes "certificatePolicies"
    else private_name id

abbrev pub critical_text : Bool → List ℕ
critical_text critical = if critical then codes "critical" else codes "not critical"

abbrev pub extension_field : ExtensionParts → FieldParts
extension_field x = field_parts (codes "Extension " ++ extension_name x.identifier) (critical_text x.critical)

-- ---- all of it

-- the digest of the octets by SHA-256
abbrev pub fingerprint_text : List ℕ → List ℕ
fingerprint_text octets = colon_digits (sha256 octets)

-- the fields of the certificate that these octets are, in order
pub record AreFields (octets : List ℕ) (t : TbsParts) (fields : List FieldParts) : Type 0 where
  pub head : List FieldParts
  pub middle : List FieldParts
  pub key : List FieldParts
  pub identifiers : List FieldParts
  pub uses : List FieldParts
  pub issuer : List FieldParts
  pub subject : List FieldParts
  pub resources : List FieldParts
  pub are_head : AreHead t head
  pub are_middle : AreMiddle t.validity t.subject middle
  pub are_key : AreKey t.key key
  pub are_identifiers : AreIdentifiers t.extensions identifiers
  pub are_uses : AreUses t.extensions uses
  pub are_issuer : AreIssuerPlaces t.extensions issuer
  pub are_subject : AreSubjectPlaces t.extensions subject
  pub are_resources : AreResources t.extensions resources
  pub parts : fields ≡ uses ++ identifiers ++ head ++ middle ++ key ++ issuer ++ subject ++ resources
      ++ map extension_field t.extensions ++ field_parts (codes "SHA-256 Fingerprint") (fingerprint_text octets) ∷ []
