-- Certificates of any algorithms (RFC 5280 4.1): of the version 3, whatever they are signed by, and with any key.
use Rattle.std.specs.Prelude.{◌≡◌, ◌≢◌, ℕ, Bool, not, ◌&&◌, ◌||◌, bytes_eq, List, [], ◌∷◌, Option, Some}
use Rattle.std.specs.Prelude.{None, false}
use Rattle.rpki_der.specs.declared.tag.Class.TheVariants.{Context}
use Rattle.rpki_der.specs.Prelude.{TagName, tag_of, integer, sequence, Bits, Format, around, each, end}
use Rattle.rpki_der.specs.Prelude.{kept, octets_under, only, optional_then, then, any_oid, bits_value, this_number}
use Rattle.rpki_time.specs.Validity.{Period}
use Rattle.rpki_time.specs.PeriodValue.{period}
use Rattle.rpki.specs.Oids.{rsa_encryption, sha256_with_rsa_encryption, ec_public_key}
use Rattle.rpki.specs.NameFault.{name}
use Rattle.rpki.specs.SignedFault.{shared_value}
use Rattle.rpki.specs.ExtensionValue.{ExtensionParts}
use Rattle.rpki.specs.ExtensionFault.{kept_extension}
use Rattle.rpki_cert.specs.Cert.{version_tag, extensions_tag}

-- ---- algorithm identifiers (RFC 5280 4.1.1.2)

-- the contents octets of the object identifier, and the octets of the parameters, where there are any
pub record AlgorithmParts : Type 0 where
  pub identifier : List ℕ
  pub parameters : Option (List ℕ)

-- one value, with any contents, which stands for its octets
abbrev pub any_octets : Format (List ℕ)
any_octets = shared_value

-- what fills the whole rest, or nothing
abbrev pub PerhapsSpells : {V : Type 0} → (V → List ℕ → Type 0) → Option V → List ℕ → Type 0
PerhapsSpells G None p = p ≡ []
PerhapsSpells G (Some v) p = G v p

abbrev pub if_any : {V : Type 0} → Format V → Format (Option V)
if_any F = record { spells = PerhapsSpells F.spells; fault = λ s e. (s ≢ []) × (only F).fault s e }

-- an OBJECT IDENTIFIER, and a value or nothing: what the identifier defines is not looked into
abbrev pub AlgorithmFields : Type 0
AlgorithmFields = List ℕ × Option (List ℕ)

abbrev pub algorithm_fields : Format AlgorithmFields
algorithm_fields = then (kept any_oid) (if_any any_octets)

abbrev pub any_algorithm : Format AlgorithmFields
any_algorithm = around sequence algorithm_fields

abbrev pub algorithm_of : AlgorithmParts → AlgorithmFields
algorithm_of x = (x.identifier, x.parameters)

-- ---- keys (RFC 5280 4.1.2.7)

pub record OtherKeyParts : Type 0 where
  pub algorithm : AlgorithmParts
  pub bits : Bits

abbrev pub KeyFields : Type 0
KeyFields = AlgorithmFields × Bits

abbrev pub key_fields : Format KeyFields
key_fields = then any_algorithm (only (kept bits_value))

abbrev pub any_key : Format KeyFields
any_key = around sequence key_fields

abbrev pub key_of : OtherKeyParts → KeyFields
key_of x = (algorithm_of x.algorithm, x.bits)

-- ---- what is signed (RFC 5280 4.1.2)

-- what may be left out: the unique identifiers, as the contents octets of their BIT STRINGs (RFC 5280 4.1.2.8), and the
-- extensions
pub record OptionalParts : Type 0 where
  pub issuer_id : Option (List ℕ)
  pub subject_id : Option (List ℕ)
  pub extensions : Option (List ExtensionParts)

pub record OtherTbsParts : Type 0 where
  pub serial : List ℕ
  pub algorithm : AlgorithmParts
  pub issuer : List ℕ
  pub validity : Period
  pub subject : List ℕ
  pub key : OtherKeyParts
  pub optional : OptionalParts

-- the extensions that there are
abbrev pub extensions_of : Option (List ExtensionParts) → List ExtensionParts
extensions_of None = []
extensions_of (Some xs) = xs

-- an INTEGER, by its contents octets: it may be negative, and of any size
abbrev pub any_integer : Format (List ℕ)
any_integer = kept (octets_under integer)

abbrev pub issuer_id_tag : TagName
issuer_id_tag = tag_of Context 1

abbrev pub subject_id_tag : TagName
subject_id_tag = tag_of Context 2

abbrev pub unique_id : TagName → Format (List ℕ)
unique_id t = kept (octets_under t)

-- extensions, in sequence, in a SEQUENCE under an explicit tag; there may be none, and the same twice
abbrev pub each_extension : Format (List ExtensionParts)
each_extension = each kept_extension

abbrev pub any_extension_list : Format (List ExtensionParts)
any_extension_list = around sequence each_extension

abbrev pub any_extensions : Format (List ExtensionParts)
any_extensions = around extensions_tag (only any_extension_list)

-- the parts that may be left out, after the key
abbrev pub LastFields : Type 0
LastFields = Option (List ExtensionParts) × Unit {0}

abbrev pub extensions_if : Format LastFields
extensions_if = optional_then extensions_tag any_extensions end

abbrev pub OptionalFields : Type 0
OptionalFields = Option (List ℕ) × (Option (List ℕ) × LastFields)

abbrev pub subject_id_if : Format (Option (List ℕ) × LastFields)
subject_id_if = optional_then subject_id_tag (unique_id subject_id_tag) extensions_if

abbrev pub optional_fields : Format OptionalFields
optional_fields = optional_then issuer_id_tag (unique_id issuer_id_tag) subject_id_if

-- the version v3(2), under an explicit tag (RFC 5280 4.1.2.1)
abbrev pub version_3 : Format (Unit {0})
version_3 = around version_tag (only (this_number 2))

-- the version; the serial number; the algorithm; the names and the period between them; the key; and the others
abbrev pub OtherFields : Type 0
OtherFields = Unit {0} × (List ℕ × (AlgorithmFields × (List ℕ × (Period × (List ℕ × (KeyFields × OptionalFields))))))

abbrev pub other_fields : Format OtherFields
other_fields =
    then version_3 (then any_integer (then any_algorithm (then name (then period (then name (then any_key
    optional_fields))))))

abbrev pub other_tbs : Format OtherFields
other_tbs = around sequence other_fields

abbrev pub optional_of : OptionalParts → OptionalFields
optional_of x = (x.issuer_id, (x.subject_id, (x.extensions, tt)))

-- the names, the period, the key and the others
abbrev pub NamedFields : Type 0
NamedFields = List ℕ × (Period × (List ℕ × (KeyFields × OptionalFields)))

abbrev pub named_of : OtherTbsParts → NamedFields
named_of x = (x.issuer, (x.validity, (x.subject, (key_of x.key, optional_of x.optional))))

abbrev pub tbs_of : OtherTbsParts → OtherFields
tbs_of x = (tt, (x.serial, (algorithm_of x.algorithm, named_of x)))

-- ---- a certificate (RFC 5280 4.1.1): what is signed; the algorithm; and the signature

pub record OtherCertParts : Type 0 where
  pub tbs : OtherTbsParts
  pub algorithm : AlgorithmParts
  pub signature : Bits

abbrev pub CertFields : Type 0
CertFields = OtherFields × (AlgorithmFields × Bits)

abbrev pub other_cert_fields : Format CertFields
other_cert_fields = then other_tbs (then any_algorithm (only (kept bits_value)))

abbrev pub other_cert : Format CertFields
other_cert = around sequence other_cert_fields

abbrev pub cert_fields_of : OtherCertParts → CertFields
cert_fields_of x = (tbs_of x.tbs, (algorithm_of x.algorithm, x.signature))

-- ---- which algorithms are those of the RPKI (RFC 7935 2, 3; RFC 8608 2, 3)

-- sha256WithRSAEncryption
abbrev pub signs_rpki : AlgorithmParts → Bool
signs_rpki x = bytes_eq x.identifier sha256_with_rsa_encryption

abbrev pub has_octets : Option (List ℕ) → List ℕ → Bool
has_octets None octets = false
has_octets (Some x) octets = bytes_eq x octets

-- the OBJECT IDENTIFIER of prime256v1 (RFC 5480 2.1.1.1)
abbrev pub prime256v1 : List ℕ
prime256v1 = 6 ∷ 8 ∷ 42 ∷ 134 ∷ 72 ∷ 206 ∷ 61 ∷ 3 ∷ 1 ∷ 7 ∷ []

-- rsaEncryption, or id-ecPublicKey on prime256v1
abbrev pub is_rpki_key : AlgorithmParts → Bool
is_rpki_key x =
    bytes_eq x.identifier rsa_encryption || (bytes_eq x.identifier ec_public_key && has_octets x.parameters prime256v1)

-- signed by another algorithm, or with a key of another
abbrev pub has_other : OtherCertParts → Bool
has_other x = not (signs_rpki x.algorithm && is_rpki_key x.tbs.key.algorithm)
