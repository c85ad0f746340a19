-- Certificates (RFC 5280 4.1, in the profile of RFC 6487 4).
use Rattle.std.specs.Prelude.{◌≡◌, ℕ, Bool, true, List, [], ◌∷◌}
use Rattle.rpki_der.specs.declared.tag.Class.TheVariants.{Context}
use Rattle.rpki_der.specs.Prelude.{TagName, tag_of, integer, sequence, SpellsLeaf, IsOnly}
use Rattle.rpki_der.specs.Prelude.{Format, leaf, around, only, Then}
use Rattle.rpki_time.specs.Serial.{SpellsSerial}
use Rattle.rpki_time.specs.Validity.{Period}
use Rattle.rpki_time.specs.PeriodValue.{SpellsPeriod}
use Rattle.rpki.specs.Name.{SpellsNameOctets}
use Rattle.rpki.specs.PublicKey.{KeyParts, SpellsKey}
use Rattle.rpki.specs.ExtensionValue.{ExtensionParts}
use Rattle.rpki.specs.SignedData.{SignedParts, SpellsSigned}
use Rattle.rpki_x509.specs.Signed.{SpellsRpkiAlgorithm}
pub use Rattle.rpki_cert.specs.ExtensionList.{extensions_tag, find, is_there, are_unique, AreExtensions}
pub use Rattle.rpki_cert.specs.ExtensionList.{SpellsExtensionList, SpellsExtensions}

-- what is signed of a certificate; of the algorithm, whether its parameters are there
pub record TbsParts : Type 0 where
  pub serial : ℕ
  pub algorithm : Bool
  pub issuer : List ℕ
  pub validity : Period
  pub subject : List ℕ
  pub key : KeyParts
  pub extensions : List ExtensionParts

-- ---- the version: v3(2), under the explicit tag 0 (RFC 5280 4.1.2.1, RFC 6487 4.1)

abbrev pub version_tag : TagName
version_tag = tag_of Context 0

-- the contents octets of the INTEGER 2 (X.690 8.3)
abbrev pub two : List ℕ
two = 2 ∷ []

abbrev pub two_value : Format (Unit {0})
two_value = leaf integer (IsOnly two)

abbrev pub SpellsTwo : Unit {0} → List ℕ → Type 0
SpellsTwo = two_value.spells

abbrev pub version : Format (Unit {0})
version = around version_tag (only two_value)

abbrev pub SpellsVersion : Unit {0} → List ℕ → Type 0
SpellsVersion = version.spells

-- ---- TBSCertificate (RFC 5280 4.1)

-- the fields, in order
abbrev pub Fields : Type 0
Fields = Unit {0} × (ℕ × (Bool × (List ℕ × (Period × (List ℕ × (KeyParts × List ExtensionParts))))))

abbrev pub AreFields : Fields → List ℕ → Type 0
AreFields =
    Then SpellsVersion (Then SpellsSerial (Then SpellsRpkiAlgorithm (Then SpellsNameOctets (Then SpellsPeriod
    (Then SpellsNameOctets (Then SpellsKey SpellsExtensions))))))

abbrev pub fields_of : TbsParts → Fields
fields_of x = (tt, (x.serial, (x.algorithm, (x.issuer, (x.validity, (x.subject, (x.key, x.extensions)))))))

-- a SEQUENCE of the fields, and nothing after them; neither issuerUniqueID nor subjectUniqueID (RFC 6487 4)
abbrev pub SpellsTbs : TbsParts → List ℕ → Type 0
SpellsTbs x p = SpellsLeaf sequence true AreFields (fields_of x) p

-- ---- a certificate

-- what is signed, as octets, its algorithm and signature; and what the signed octets are
pub record CertParts : Type 0 where
  pub signed : SignedParts Bool
  pub tbs : TbsParts

abbrev pub cert_parts : SignedParts Bool → TbsParts → CertParts
cert_parts signed tbs = record { signed = signed; tbs = tbs }

-- such signed data whose signed octets are a TBSCertificate that names the same algorithm (RFC 5280 4.1.1.2)
pub record SpellsCert (x : CertParts) (p : List ℕ) : Type 0 where
  pub signed : SpellsSigned SpellsRpkiAlgorithm x.signed p
  pub used : signed.spelled.signature.unused ≡ 0
  pub tbs : SpellsTbs x.tbs x.signed.signed
  pub same : x.tbs.algorithm ≡ x.signed.algorithm
