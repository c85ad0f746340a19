-- Certificate revocation lists (RFC 5280 5.1, in the profile of RFC 6487 5).
use Rattle.std.specs.Prelude.{◌≡◌, ◌⊎◌, ℕ, Bool, false, List, [], ◌∷◌, map, Option, None, Some, Vec, codes, nat_eq}
use Rattle.std.specs.Prelude.{◌||◌}
use Rattle.jiff.specs.Types.{DateTime}
use Rattle.rpki_der.specs.declared.error.DecodeError.{DecodeError}
use Rattle.rpki_der.specs.declared.tag.Class.TheVariants.{Context}
use Rattle.rpki_der.specs.Prelude.{TagName, tag_of, sequence, optional_of, Format, around, only, then, optional_then}
use Rattle.rpki_der.specs.Prelude.{each, this_number, SpellsFor, FirstFault, IsEndFault}
use Rattle.rpki_time.specs.Serial.{SpellsSerial, serial_number}
use Rattle.rpki_time.specs.TimeValue.{time}
use Rattle.rpki.specs.Prelude.{sha256_with_rsa_encryption, algorithm, ExtensionParts, kept_extension, name}
use Rattle.rpki.specs.Prelude.{SignedParts, IsContentWith}
use Rattle.rpki_x509.specs.Signed.{SpellsWhole}
use Rattle.rpki_x509.specs.Signed.{IsWholeSignedFault}
use Rattle.rpki_x509.specs.Authority.{SpellsAuthority}
use Rattle.rpki_x509.specs.Authority.{authority_key_identifier}
use Rattle.rpki_crl.specs.declared.crl_entry.CrlEntry.{CrlEntry}
use Rattle.rpki_crl.specs.declared.crl_extensions.CrlExtensions.{CrlExtensions}
use Rattle.rpki_crl.specs.declared.tbs_cert_list.TbsCertList.{TbsCertList}

-- ---- the entries: SEQUENCE { userCertificate, revocationDate }, without extensions (RFC 6487 5)

abbrev pub Entry : Type 0
Entry = ℕ × DateTime

abbrev pub entry_of : CrlEntry → Entry
entry_of x = (x.user_certificate, x.revocation_date)

abbrev pub entry_parts : Format Entry
entry_parts = then serial_number (only time)

abbrev pub entry : Format Entry
entry = around sequence entry_parts

abbrev pub entries_of : {Z : Type 0} → Vec CrlEntry Z → List Entry
entries_of v = map entry_of v.items

abbrev pub entries_in : List CrlEntry → List Entry
entries_in xs = map entry_of xs

abbrev pub each_entry : Format (List Entry)
each_entry = each entry

abbrev pub entries : Format (List Entry)
entries = around sequence each_entry

-- ---- the extensions (RFC 5280 5.2, RFC 6487 5)

-- the octets of the authority's key identifier, and the number of the list
pub record ListExtensions : Type 0 where
  pub authority : List ℕ
  pub number : ℕ

abbrev pub extensions_of : CrlExtensions → ListExtensions
extensions_of x = record { authority = x.authority_key_identifier; number = x.crl_number }

-- the contents octets of 2.5.29.20, id-ce-cRLNumber
abbrev pub crl_number : List ℕ
crl_number = 85 ∷ 29 ∷ 20 ∷ []

-- an authority key identifier (RFC 5280 5.2.1), of the form that it has in certificates; and a number of at most twenty
-- octets (RFC 5280 5.2.3)
pub record IsAuthority (k : List ℕ) (x : ExtensionParts) : Type 0 where
  pub identifier : x.identifier ≡ authority_key_identifier
  pub critical : x.critical ≡ false
  pub content : SpellsAuthority k x.content

pub record IsCrlNumber (n : ℕ) (x : ExtensionParts) : Type 0 where
  pub identifier : x.identifier ≡ crl_number
  pub critical : x.critical ≡ false
  pub content : SpellsSerial n x.content

-- the two, in either order, and no other
abbrev pub AreExtensions : ListExtensions → List ExtensionParts → Type 0
AreExtensions v [] = ⊥
AreExtensions v (x ∷ []) = ⊥
AreExtensions v (x ∷ y ∷ []) =
    (IsAuthority v.authority x × IsCrlNumber v.number y) ⊎ (IsAuthority v.authority y × IsCrlNumber v.number x)
AreExtensions v (x ∷ y ∷ z ∷ zs) = ⊥

abbrev pub each_extension : Format (List ExtensionParts)
each_extension = each kept_extension

abbrev pub extension_list : Format (List ExtensionParts)
extension_list = around sequence each_extension

-- they are no such extensions
abbrev pub AreOthers : List ExtensionParts → List ℕ → DecodeError → Type 0
AreOthers xs r e =
    ((v : ListExtensions) → AreExtensions v xs → ⊥) × IsContentWith (codes "extensions that no revocation list has") e

abbrev pub known_extensions : Format ListExtensions
known_extensions = record {
  spells = SpellsFor extension_list.spells AreExtensions;
  fault = FirstFault extension_list.spells extension_list.fault AreOthers;
}

abbrev pub extensions_tag : TagName
extensions_tag = tag_of Context 0

abbrev pub extensions : Format ListExtensions
extensions = around extensions_tag (only known_extensions)

-- ---- TBSCertList

-- what is signed of a list; of the algorithm, whether its parameters are there; the entries, where they aren't left out
pub record ListParts : Type 0 where
  pub algorithm : Bool
  pub issuer : List ℕ
  pub this_update : DateTime
  pub next_update : DateTime
  pub revoked : Option (List Entry)
  pub extensions : ListExtensions

abbrev pub Fields : Type 0
Fields = Unit {0} × (Bool × (List ℕ × (DateTime × (DateTime × (Option (List Entry) × ListExtensions)))))

abbrev pub fields_of : ListParts → Fields
fields_of x = (tt, (x.algorithm, (x.issuer, (x.this_update, (x.next_update, (x.revoked, x.extensions))))))

abbrev pub list_of : TbsCertList → ListParts
list_of x = record {
  algorithm = x.signature;
  issuer = x.issuer;
  this_update = x.this_update;
  next_update = x.next_update;
  revoked = optional_of entries_of x.revoked_certs;
  extensions = extensions_of x.extensions;
}

abbrev pub fields_in : TbsCertList → Fields
fields_in x = fields_of (list_of x)

abbrev pub signature : Format Bool
signature = algorithm sha256_with_rsa_encryption

-- version 2, whose number is 1; the fields, in order; and nothing else
abbrev pub fields : Format Fields
fields = then (this_number 1)
    (then signature (then name (then time (then time (optional_then sequence entries (only extensions))))))

abbrev pub tbs_cert_list : Format Fields
tbs_cert_list = around sequence fields

-- ---- a revocation list

-- what is signed, as octets, its algorithm and signature; and what the signed octets are
pub record CrlParts : Type 0 where
  pub signed : SignedParts Bool
  pub list : ListParts

abbrev pub crl_parts : SignedParts Bool → ListParts → CrlParts
crl_parts signed list = record { signed = signed; list = list }

-- the signed octets are such a list, which names the algorithm of the signature (RFC 5280 5.1.1.2)
pub record IsListIn (x : CrlParts) (signed : SignedParts Bool) : Type 0 where
  pub same : x.signed ≡ signed
  pub list : tbs_cert_list.spells (fields_of x.list) signed.signed
  pub algorithm : x.list.algorithm ≡ signed.algorithm

-- the algorithms differ
abbrev pub AlgorithmsDiffer : SignedParts Bool → Fields → DecodeError → Type 0
AlgorithmsDiffer signed x e = (x.1.0 ≡ signed.algorithm → ⊥) × IsContentWith (codes "signature algorithms differ") e

-- what is signed is no list; or the algorithms differ
abbrev pub IsNoList : SignedParts Bool → List ℕ → DecodeError → Type 0
IsNoList signed r e =
    FirstFault tbs_cert_list.spells tbs_cert_list.fault (λ x rest d. IsEndFault rest d ⊎ AlgorithmsDiffer signed x d)
    signed.signed e

-- signed data of whose signature no bit is unused, around such a list
abbrev pub crl : Format CrlParts
crl = record {
  spells = SpellsFor SpellsWhole IsListIn;
  fault = FirstFault SpellsWhole IsWholeSignedFault IsNoList;
}

-- ---- what is asked of a list

-- the entries, none where the list of them is left out
abbrev pub listed : Option (List Entry) → List Entry
listed None = []
listed (Some xs) = xs

-- whether one of the entries is of the certificate of this serial number
abbrev pub is_revoked : ℕ → List Entry → Bool
is_revoked n [] = false
is_revoked n (x ∷ xs) = nat_eq x.0 n || is_revoked n xs
