-- Certificates that are read in place: what is where, and which part is wrong, and why (RFC 5280 4.1).
use Rattle.std.specs.Prelude.{◌≡◌, ◌≢◌, ◌⊎◌, ◌≤◌, ◌<◌, ◌++◌, ℕ, Bool, true, false, List, [], codes, length, IsTrue}
use Rattle.rpki_der.specs.declared.error.DecodeError.{DecodeError}
use Rattle.rpki_der.specs.declared.error.DecodeError.TheVariants.{OutOfMemory}
use Rattle.rpki_der.specs.Prelude.{TagName, sequence, Accepts, Refuses, SpellsNothing}
use Rattle.rpki_der.specs.Prelude.{SpellsBoth, Format, IsSection}
use Rattle.rpki_der.specs.Prelude.{SpellsContents}
use Rattle.rpki_der.specs.Prelude.{SpellsSome, RepeatedFault, SpellsValue, IsValue, IsCaptureFault, Then}
use Rattle.rpki_time.specs.Serial.{serial_number}
use Rattle.rpki_time.specs.Validity.{Period}
use Rattle.rpki_time.specs.PeriodValue.{SpellsPeriod, period}
use Rattle.rpki.specs.Name.{SpellsNameOctets}
use Rattle.rpki.specs.NameFault.{borrowed_name}
use Rattle.rpki.specs.PublicKey.{KeyParts, SpellsKey}
use Rattle.rpki.specs.KeyFault.{key_view}
use Rattle.rpki.specs.SignedData.{SignedParts, IsSignedContents}
use Rattle.rpki.specs.ExtensionValue.{ExtensionParts, SpellsExtension}
use Rattle.rpki.specs.ExtensionFault.{extension}
use Rattle.rpki.specs.UnknownAlgorithm.{IsContentWith}
use Rattle.rpki_cert.specs.declared.read.cert_part.CertPart.{CertPart}
use Rattle.rpki_cert.specs.declared.read.cert_part.CertPart.TheVariants.{Certificate, Signed, Algorithm, Signature, Tbs}
use Rattle.rpki_cert.specs.declared.read.cert_part.CertPart.TheVariants.{Version, SerialNumber, TbsAlgorithm, Issuer}
use Rattle.rpki_cert.specs.declared.read.cert_part.CertPart.TheVariants.{Validity, Subject, PublicKey, Extensions}
use Rattle.rpki_cert.specs.declared.read.cert_part.CertPart.TheVariants.{ExtensionCount, ExtensionIdentifiers}
use Rattle.rpki_cert.specs.declared.read.cert_part.CertPart.TheVariants.{SameAlgorithm}
use Rattle.rpki_cert.specs.declared.read.cert_error.CertError.{CertError}
use Rattle.rpki_cert.specs.declared.extension.table.Passed.{Passed}
use Rattle.rpki_x509.specs.declared.signed_parts.SignedError.{SignedError}
use Rattle.rpki_x509.specs.declared.signed_parts.SignedPart.{SignedPart}
use Rattle.rpki_x509.specs.Frame.{IsFrameFault}
use Rattle.rpki_x509.specs.Signed.{SpellsRpkiAlgorithm, rpki_algorithm}
use Rattle.rpki_x509.specs.SignedParts.{ArePartsIn, AreMalformed}
use Rattle.rpki_cert.specs.ExtensionTable.{OfListed}
use Rattle.rpki_cert.specs.declared.read.fields.Keyed.{Keyed}
use Rattle.rpki_cert.specs.declared.read.fields.Named.{Named}
use Rattle.rpki_cert.specs.declared.read.fields.TbsView.{TbsView}
use Rattle.rpki_cert.specs.declared.read.view.CertView.{CertView}
use Rattle.rpki_cert.specs.Cert.{TbsParts, CertParts, are_unique, AreExtensions, SpellsExtensions, version}
use Rattle.rpki_cert.specs.Cert.{extensions_tag, AreFields, fields_of, SpellsTbs}
use Rattle.rpki_cert.specs.Cert.{SpellsCert}
pub use Rattle.rpki_cert.specs.CertError.{cert_error}

-- ---- a part, or that it is wrong

-- what is spelled has one value
abbrev pub HasOne : {V : Type 0} → (V → List ℕ → Type 0) → List ℕ → Type 0
HasOne {V} G s = (v w : V) → G v s → G w s → v ≡ w

-- q is wrong in s, which a value of F should begin: it doesn't, and q is this part, with the error of F; or it does,
-- and L says it of the value and of what follows
pub data FirstWrong {V : Type 0} (F : Format V) (part : CertPart) (L : V → List ℕ → CertError → Type 0)
    (s : List ℕ) (q : CertError) : Type 0 where
  AtPart : Refuses F.spells s → F.fault s q.error → q.part ≡ part → FirstWrong F part L s q
  Later : (v : V) (r : List ℕ) → Accepts F.spells s v r → L v r q → FirstWrong F part L s q

-- q is wrong in s, all of which should be such a value: it isn't, and q is this part; or it is, and L says it of the
-- contents
pub data WholeWrong (t : TagName) (part : CertPart) (L : List ℕ → CertError → Type 0) (s : List ℕ) (q : CertError)
    : Type 0 where
  NoFrame : SpellsNothing (SpellsContents t true) s → IsFrameFault t s q.error → q.part ≡ part
      → WholeWrong t part L s q
  InFrame : (c : List ℕ) → SpellsContents t true c s → L c q → WholeWrong t part L s q

-- ---- extensions

-- How many are compared with one another at most. RFC 5280 4.2 has no bound: a certificate of more extensions, all of
-- them well-formed and each with an identifier of its own, is valid and yet refused. The part that is named then,
-- `ExtensionCount`, is the bound of this reader and nothing that the RFC forbids. The RPKI defines fewer than twenty.
abbrev pub most_extensions : ℕ
most_extensions = 64

-- extensions, one at least, aren't there: there is none; or the first that isn't one
abbrev pub IsSomeFault : List ℕ → DecodeError → Type 0
IsSomeFault s e =
    ((s ≡ []) × IsContentWith (codes "no extensions") e)
    ⊎ ((s ≢ []) × RepeatedFault SpellsExtension extension.fault s e)

-- s is no such extensions, and this is its error
abbrev pub IsNotListed : List ℕ → DecodeError → Type 0
IsNotListed s e = SpellsNothing (SpellsSome SpellsExtension) s × IsSomeFault s e

-- The list is refused: it is of no extensions; or two have one identifier. Where nothing is allocated (the first
-- argument is false), more than are compared are refused too; where it is, allocation may fail for more than these.
pub data IsListWrong (allocates : Bool) (s : List ℕ) (q : CertError) : Type 0 where
  NotListed : IsNotListed s q.error → q.part ≡ Extensions → IsListWrong allocates s q
  TooMany : (xs : List ExtensionParts) → SpellsSome SpellsExtension xs s → allocates ≡ false
      → most_extensions < length xs → q.part ≡ ExtensionCount → IsContentWith (codes "too many extensions") q.error
      → IsListWrong allocates s q
  Repeated : (xs : List ExtensionParts) → SpellsSome SpellsExtension xs s
      → (allocates ≡ false → length xs ≤ most_extensions) → (IsTrue (are_unique xs) → ⊥)
      → q.part ≡ ExtensionIdentifiers → IsContentWith (codes "duplicate extension") q.error → IsListWrong allocates s q
  NoRoom : (xs : List ExtensionParts) → SpellsSome SpellsExtension xs s → allocates ≡ true
      → most_extensions < length xs → q.part ≡ Extensions → q.error ≡ OutOfMemory → IsListWrong allocates s q

-- all of s is to be the explicit tag around a SEQUENCE of them
abbrev pub AreExtensionsWrong : Bool → List ℕ → CertError → Type 0
AreExtensionsWrong allocates =
    WholeWrong extensions_tag Extensions (WholeWrong sequence Extensions (IsListWrong allocates))

-- so many extensions were told apart: no two have one identifier, or two have; where nothing is allocated they are few
pub record IsApart (allocates : Bool) (s : List ℕ) (count : ℕ) (unique : Bool) : Type 0 where
  pub answer : OfListed s (λ xs. unique ≡ are_unique xs)
  pub few : allocates ≡ false → count ≤ most_extensions

-- s is the extensions of the list, and these are its octets
pub record AreListedAt (s l : List ℕ) : Type 0 where
  pub extensions : List ExtensionParts
  pub spelled : AreExtensions extensions s
  pub list : l ≡ s

-- all of s is the extensions, and these octets are the contents of their list
pub record AreExtensionsAt (s l : List ℕ) : Type 0 where
  pub extensions : List ExtensionParts
  pub spelled : SpellsExtensions extensions s
  pub list : l ≡ spelled.spelled.contents

-- these octets are extensions, so many
pub record HasCount (s : List ℕ) (n : ℕ) : Type 0 where
  pub extensions : List ExtensionParts
  pub some : SpellsSome SpellsExtension extensions s
  pub count : length extensions ≡ n

-- they were read: this is their table and their count, and where each has a slot of its own no two have one identifier
pub record IsPassed (s : List ℕ) (p : Passed) : Type 0 where
  pub table : p.table ≡ s
  pub count : HasCount s p.count
  pub apart : IsTrue p.apart → OfListed s (λ xs. IsTrue (are_unique xs))

-- ---- TBSCertificate

-- The section is that of a key, and the list that of extensions. Here and below, h says which octets spell which part,
-- and so what follows each.
pub record IsKeyedIn (key : KeyParts) (xs : List ExtensionParts) (s : List ℕ)
    (h : SpellsBoth SpellsKey SpellsExtensions key xs s) (k : Keyed) : Type 0 where
  pub same : k.key ≡ key
  pub key_at : IsSection k.octets h.first h.second
  pub list_at : k.extensions ≡ h.two.spelled.contents

-- all of s is a key and extensions, of which these are the sections
abbrev pub IsKeyedAt : List ℕ → Keyed → Type 0
IsKeyedAt s k =
    (key : KeyParts) × (xs : List ExtensionParts) × (h : SpellsBoth SpellsKey SpellsExtensions key xs s)
    × IsKeyedIn key xs s h k

-- the fields from the issuer on
abbrev pub SpellsNamed : List ℕ × (Period × (List ℕ × (KeyParts × List ExtensionParts))) → List ℕ → Type 0
SpellsNamed = Then SpellsNameOctets (Then SpellsPeriod (Then SpellsNameOctets (Then SpellsKey SpellsExtensions)))

abbrev pub AreNamed : TbsParts → List ℕ → Type 0
AreNamed t = SpellsNamed (t.issuer, (t.validity, (t.subject, (t.key, t.extensions))))

-- the sections are those of the fields from the issuer on
pub record IsNamedIn (t : TbsParts) (s : List ℕ) (h : AreNamed t s) (n : Named) : Type 0 where
  pub issuer : IsSection n.issuer t.issuer h.second
  pub validity : n.validity ≡ t.validity
  pub subject : IsSection n.subject t.subject h.two.two.second
  pub keyed : IsKeyedIn t.key t.extensions h.two.two.second h.two.two.two n.keyed

pub record IsTbsIn (t : TbsParts) (s : List ℕ) (h : AreFields (fields_of t) s) (v : TbsView) : Type 0 where
  pub serial : v.serial_number ≡ t.serial
  pub algorithm : v.signature ≡ t.algorithm
  pub named : IsNamedIn t h.two.two.second h.two.two.two v.named

abbrev pub AreKeyedWrong : Bool → List ℕ → CertError → Type 0
AreKeyedWrong allocates = FirstWrong key_view PublicKey (λ key. AreExtensionsWrong allocates)

abbrev pub AreNamedWrong : Bool → List ℕ → CertError → Type 0
AreNamedWrong allocates =
    FirstWrong borrowed_name Issuer (λ issuer. FirstWrong period Validity (λ validity.
    FirstWrong borrowed_name Subject (λ subject. AreKeyedWrong allocates)))

abbrev pub AreFieldsWrong : Bool → List ℕ → CertError → Type 0
AreFieldsWrong allocates =
    FirstWrong version Version (λ version. FirstWrong serial_number SerialNumber (λ serial.
    FirstWrong rpki_algorithm TbsAlgorithm (λ algorithm. AreNamedWrong allocates)))

-- all of d is to be a TBSCertificate
abbrev pub IsTbsWrong : Bool → List ℕ → CertError → Type 0
IsTbsWrong allocates = WholeWrong sequence Tbs (AreFieldsWrong allocates)

-- ---- a certificate

-- the certificate x is all of s, and the sections are those of its parts, as the grammar divides s
pub record IsCertAt (s : List ℕ) (v : CertView) (x : CertParts) : Type 0 where
  pub spelled : SpellsCert x s
  pub parts : ArePartsIn x.signed spelled.signed.contents spelled.signed.spelled v.parts
  pub tbs : IsTbsIn x.tbs spelled.tbs.contents spelled.tbs.spelled v.tbs

-- the error of a certificate whose signed data has this one
abbrev pub part_of : SignedPart → CertPart
part_of SignedPart.Algorithm = Algorithm
part_of SignedPart.Signature = Signature

abbrev pub of_signed : SignedError → CertError
of_signed p = cert_error (part_of p.part) p.error

-- the algorithm and the signature
pub data AreBehindWrong (s : List ℕ) (q : CertError) : Type 0 where
  Behind : (p : SignedError) → AreMalformed s p → q ≡ of_signed p → AreBehindWrong s q

-- the value that is signed, with everything nested in it
abbrev pub signed_value : Format (List ℕ)
signed_value = record { spells = SpellsValue; fault = IsCaptureFault }

-- the parts of signed data
abbrev pub ArePartsWrong : List ℕ → CertError → Type 0
ArePartsWrong = FirstWrong signed_value Signed (λ signed. AreBehindWrong)

-- the contents of a certificate: the parts of signed data; then what is signed; then that the algorithms are the same
pub data AreContentsWrong (allocates : Bool) (c : List ℕ) (q : CertError) : Type 0 where
  InParts : ArePartsWrong c q → AreContentsWrong allocates c q
  InSigned : (x : SignedParts Bool) (h : IsSignedContents SpellsRpkiAlgorithm x c) → h.signature.unused ≡ 0
      → IsTbsWrong allocates x.signed q → AreContentsWrong allocates c q
  Differ : (x : SignedParts Bool) (t : TbsParts) (h : IsSignedContents SpellsRpkiAlgorithm x c)
      → h.signature.unused ≡ 0 → SpellsTbs t x.signed → (t.algorithm ≡ x.algorithm → ⊥) → q.part ≡ SameAlgorithm
      → IsContentWith (codes "signature algorithms differ") q.error → AreContentsWrong allocates c q

-- all of s is to be a certificate: the SEQUENCE around all; then its contents
abbrev pub IsCertErrorOf : Bool → List ℕ → CertError → Type 0
IsCertErrorOf allocates = WholeWrong sequence Certificate (AreContentsWrong allocates)

-- the same of a reader that allocates nothing
abbrev pub IsCertError : List ℕ → CertError → Type 0
IsCertError = IsCertErrorOf false

-- this part is wrong, whatever the error
abbrev pub IsCertWrong : List ℕ → CertPart → Type 0
IsCertWrong s part = (e : DecodeError) × IsCertError s (cert_error part e)

-- ---- a certificate, of whose signed part the header alone was read

-- a SEQUENCE of these contents is a certificate of these parts, and of no others
abbrev pub AreContentsOf : List ℕ → CertView → Type 0
AreContentsOf c v =
    (s : List ℕ) → SpellsContents sequence true c s → ((x : CertParts) × IsCertAt s v x) × HasOne SpellsCert s

-- where d is a value, this is wrong in it
abbrev pub IsWrongBehind : Bool → List ℕ → List ℕ → CertError → Type 0
IsWrongBehind allocates d m q = IsValue d → AreContentsWrong allocates (d ++ m) q
