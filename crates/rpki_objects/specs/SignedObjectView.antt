-- Signed objects that are read in place: what is where, and which part is wrong (RFC 5652 3, 5; RFC 6488 2).
use Rattle.std.specs.Prelude.{◌≡◌, ◌++◌, ◌<◌, ℕ, Bool, true, List, [], Result, Ok, Err, length}
use Rattle.rpki_der.specs.declared.error.DecodeError.{DecodeError}
use Rattle.rpki_der.specs.TagName.{TagName}
use Rattle.rpki_der.specs.Prelude.{Format, only, sequence, set, Accepts, Refuses, SpellsNothing, SpellsContents}
use Rattle.rpki_der.specs.Prelude.{IsContentsFault, TakesNoMemory, this_number, this_oid}
use Rattle.rpki_parse.specs.declared.malformed.Malformed.{Malformed}
use Rattle.rpki_parse.specs.Parts.{malformed}
use Rattle.rpki_x509.specs.Frame.{IsFrameFault}
use Rattle.rpki.specs.AlgorithmFault.{cms, digest, digest_set}
use Rattle.rpki_cert.specs.declared.read.cert_error.CertError.{CertError}
use Rattle.rpki_der.specs.declared.section.Section.{Section}
use Rattle.rpki_cert.specs.Cert.{CertParts, SpellsCert}
use Rattle.rpki_der.specs.Section.{IsSection}
use Rattle.rpki_cert.specs.View.{IsCertAt, IsCertError, most_extensions}
use Rattle.rpki_objects.specs.declared.object_part.ObjectPart.{ObjectPart}
use Rattle.rpki_objects.specs.declared.object_part.ObjectPart.TheVariants as P
use Rattle.rpki_objects.specs.declared.content_view.ContentView.{ContentView}
use Rattle.rpki_attributes.specs.SignedAttributesView.{AreAttributesAt}
use Rattle.rpki_objects.specs.declared.signer_view.SignerView.{SignerView}
use Rattle.rpki_objects.specs.declared.signed_object_view.SignedObjectView.{SignedObjectView}
use Rattle.rpki_objects.specs.declared.signed_object_view.SignerCertView.{SignerCertView}
use Rattle.rpki_attributes.specs.SignedAttributes.{signed_attributes}
use Rattle.rpki_objects.specs.SignedObject.{zero_tag, kept_octets, ContentParts, content_fields_of, encapsulated}
use Rattle.rpki_objects.specs.SignedObject.{SignerParts, signer_fields_of, signer_identifier, signer_fields}
use Rattle.rpki_objects.specs.SignedObject.{signer_infos}
use Rattle.rpki_objects.specs.SignedObject.{ObjectParts, data_fields_of, data_fields, signed_data_type}
use Rattle.rpki_objects.specs.SignedObject.{object_fields_of, signed_object}

-- ---- a part, or why it is malformed

-- q is wrong in s, which a value of F should begin: it doesn't, and q is this part with the error of F; or it does, and
-- L says it of what follows
pub data FirstWrong {V : Type 0} (F : Format V) (part : ObjectPart) (L : List ℕ → Malformed ObjectPart → Type 0)
    (s : List ℕ) (q : Malformed ObjectPart) : Type 0 where
  AtPart : Refuses F.spells s → TakesNoMemory F.fault s q.error → q.part ≡ part → FirstWrong F part L s q
  Later : (v : V) (r : List ℕ) → Accepts F.spells s v r → L r q → FirstWrong F part L s q

-- q is wrong in s, all of which should be a constructed value of this tag: it isn't, and q is this part with the error
-- of such a value; or it is, and L says it of its contents
pub data WrongWithin (t : TagName) (part : ObjectPart) (L : List ℕ → Malformed ObjectPart → Type 0) (s : List ℕ)
    (q : Malformed ObjectPart) : Type 0 where
  Outside : SpellsNothing (SpellsContents t true) s → IsFrameFault t s q.error → q.part ≡ part
      → WrongWithin t part L s q
  Inside : (c : List ℕ) → SpellsContents t true c s → ((d : List ℕ) → SpellsContents t true d s → d ≡ c) → L c q
      → WrongWithin t part L s q

-- all of s should be a value of F, and isn't
abbrev pub LastWrong : {V : Type 0} → Format V → ObjectPart → List ℕ → Malformed ObjectPart → Type 0
LastWrong F part s q = SpellsNothing F.spells s × TakesNoMemory (only F).fault s q.error × (q.part ≡ part)

-- A reader of all of s without memory: Ok is the one value of F that s spells; or it spells none, and the error is that
-- of F, or that something follows.
abbrev pub IsLast : {X V : Type 0} → (X → V) → Format V → List ℕ → Result X DecodeError → Type 0
IsLast {X} {V} view F s (Ok x) = F.spells (view x) s × ((w : V) → F.spells w s → w ≡ view x)
IsLast view F s (Err e) = SpellsNothing F.spells s × TakesNoMemory (only F).fault s e

-- ---- the content

-- the content, whose octets are p, is in front of these octets; h says which octets spell which part
pub record IsContentAt (x : ContentParts) (p : List ℕ) (h : encapsulated.spells (content_fields_of x) p)
    (behind : List ℕ) (v : ContentView) : Type 0 where
  pub content_type : IsSection v.content_type x.content_type (h.spelled.second ++ behind)
  pub content : IsSection v.content x.content behind

-- a reader of the content found s and left r: Ok is its sections, and an error says why there is none
abbrev pub TakesContent : List ℕ → List ℕ → Result ContentView DecodeError → Type 0
TakesContent s r (Ok v) =
    (x : ContentParts) × (a : Accepts encapsulated.spells s (content_fields_of x) r)
    × IsContentAt x a.spells.front a.spells.spelled r v
TakesContent s r (Err e) = Refuses encapsulated.spells s × TakesNoMemory encapsulated.fault s e

-- ---- the certificate

-- The SET of the one certificate is wrong: it isn't there; or what it contains is no certificate, as its reader in
-- place says, or one of more extensions than that compares; or it is, and L says it of what follows.
pub data IsFirstCertWrong (L : List ℕ → Malformed ObjectPart → Type 0) (s : List ℕ) (q : Malformed ObjectPart)
    : Type 0 where
  NoSet : Refuses (SpellsContents zero_tag true) s → IsContentsFault zero_tag true s q.error → q.part ≡ P.Certificates
      → IsFirstCertWrong L s q
  NoCert : (c r : List ℕ) (p : CertError) → Accepts (SpellsContents zero_tag true) s c r → IsCertError c p
      → ((x : CertParts) → SpellsCert x c → most_extensions < length x.tbs.extensions)
      → q ≡ malformed (P.Certificate p.part) p.error → IsFirstCertWrong L s q
  BehindCert : (c r : List ℕ) (x : CertParts) → Accepts (SpellsContents zero_tag true) s c r → SpellsCert x c → L r q
      → IsFirstCertWrong L s q

-- nothing follows, of which anything were wrong
abbrev pub NoneFollows : List ℕ → Malformed ObjectPart → Type 0
NoneFollows s q = ⊥

-- a reader of the SET of the certificate found s and left r: Ok is the section of the certificate, and its parts
abbrev pub TakesCertificate : List ℕ → List ℕ → Result SignerCertView (Malformed ObjectPart) → Type 0
TakesCertificate s r (Ok v) =
    (c : List ℕ) × (x : CertParts) × Accepts (SpellsContents zero_tag true) s c r × IsCertAt c v.parts x
    × IsSection v.octets c r
TakesCertificate s r (Err q) = IsFirstCertWrong NoneFollows s q

-- ---- the signer

-- the sections are those of the fields of a signer, which are all of s
pub record IsSignerAt (strict : Bool) (x : SignerParts) (s : List ℕ)
    (h : (signer_fields strict).spells (signer_fields_of x) s) (v : SignerView) : Type 0 where
  pub identifier : v.identifier ≡ x.identifier
  pub attributes : AreAttributesAt x.attributes h.two.two.two.first h.two.two.two.second v.signed_attrs
  pub algorithm : v.algorithm ≡ x.signature.algorithm
  pub signature : IsSection v.signature x.signature.value []

-- all of s is the SET of one signer, and the sections are those of its fields
abbrev pub AreSignersAt : Bool → List ℕ → SignerView → Type 0
AreSignersAt strict s v =
    (x : SignerParts) × (h : (signer_infos strict).spells (signer_fields_of x) s)
    × IsSignerAt strict x h.spelled.contents h.spelled.spelled v

-- these fields are all of s, and the sections are theirs
abbrev pub IsSignerIn : Bool → List ℕ → SignerView → Type 0
IsSignerIn strict s v =
    (x : SignerParts) × (h : (signer_fields strict).spells (signer_fields_of x) s) × IsSignerAt strict x s h v

abbrev pub AreSignerFieldsWrong : Bool → List ℕ → Malformed ObjectPart → Type 0
AreSignerFieldsWrong strict =
    FirstWrong (this_number 3) P.SignerVersion
    (FirstWrong signer_identifier P.SignerIdentifier
    (FirstWrong digest P.SignerDigestAlgorithm
    (FirstWrong (signed_attributes strict) P.SignedAttrs
    (FirstWrong cms P.SignatureAlgorithm (LastWrong kept_octets P.Signature)))))

-- all of s is to be the SET of one signer
abbrev pub AreSignersWrong : Bool → List ℕ → Malformed ObjectPart → Type 0
AreSignersWrong strict = WrongWithin set P.Signers (WrongWithin sequence P.Signer (AreSignerFieldsWrong strict))

-- ---- the signed data

-- the sections are those of the fields of signed data, which are all of s
pub record IsDataAt (strict : Bool) (x : ObjectParts) (s : List ℕ)
    (h : (data_fields strict).spells (data_fields_of x) s) (v : SignedObjectView) : Type 0 where
  pub content : IsContentAt x.content h.two.two.first h.two.two.one h.two.two.second v.content
  pub cert : IsSection v.cert.octets h.two.two.two.one.contents h.two.two.two.second
  pub cert_parts : IsCertAt h.two.two.two.one.contents v.cert.parts x.cert
  pub signer : IsSignerAt strict x.signer h.two.two.two.two.spelled.contents h.two.two.two.two.spelled.spelled v.signer

-- these fields are all of s, and the sections are theirs
abbrev pub IsDataIn : Bool → List ℕ → SignedObjectView → Type 0
IsDataIn strict s v =
    (x : ObjectParts) × (h : (data_fields strict).spells (data_fields_of x) s) × IsDataAt strict x s h v

abbrev pub AreDataFieldsWrong : Bool → List ℕ → Malformed ObjectPart → Type 0
AreDataFieldsWrong strict =
    FirstWrong (this_number 3) P.Version
    (FirstWrong digest_set P.DigestAlgorithms
    (FirstWrong encapsulated P.Content (IsFirstCertWrong (AreSignersWrong strict))))

-- ---- a signed object

-- The object x is all of s, and the sections are those of its parts, as the grammar divides s. Around the signed data
-- nothing follows the parts, so that what follows them there follows them in s.
pub record IsObjectAt (strict : Bool) (s : List ℕ) (v : SignedObjectView) (x : ObjectParts) : Type 0 where
  pub spelled : (signed_object strict).spells (object_fields_of x) s
  pub parts : IsDataAt strict x spelled.spelled.two.spelled.contents spelled.spelled.two.spelled.spelled v

-- all of s is to be a signed object: the SEQUENCE around all; its type; the tag and the SEQUENCE of signed data; then
-- the leftmost of its parts
abbrev pub IsObjectError : Bool → List ℕ → Malformed ObjectPart → Type 0
IsObjectError strict =
    WrongWithin sequence P.Object
    (FirstWrong (this_oid signed_data_type) P.ObjectType
    (WrongWithin zero_tag P.SignedData (WrongWithin sequence P.SignedData (AreDataFieldsWrong strict))))

-- this part is wrong, whatever the error
abbrev pub IsObjectWrong : Bool → List ℕ → ObjectPart → Type 0
IsObjectWrong strict s part = (e : DecodeError) × IsObjectError strict s (malformed part e)

-- s is no object, but of a certificate of more than 64 extensions
abbrev pub HasManyExtensions : Bool → List ℕ → Type 0
HasManyExtensions strict s =
    (x : ObjectParts) → (signed_object strict).spells (object_fields_of x) s
    → most_extensions < length x.cert.tbs.extensions
