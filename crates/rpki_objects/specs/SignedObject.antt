-- Signed objects (RFC 5652 3, 5; in the profile of RFC 6488 2).
use Rattle.std.specs.Prelude.{ℕ, Bool, List, [], ◌∷◌}
use Rattle.rpki_der.specs.declared.tag.Class.TheVariants.{Context}
use Rattle.rpki_der.specs.Prelude.{TagName, tag_of, sequence, set, octet_string, Format, around, only, then, kept}
use Rattle.rpki_der.specs.Prelude.{octets_under, any_oid, this_oid, this_number, leaf}
use Rattle.rpki.specs.AlgorithmFault.{cms, digest, digest_set}
use Rattle.rpki.specs.Signature.{SignatureParts}
use Rattle.rpki.specs.KeyIdentifier.{IsKeyIdentifier}
use Rattle.rpki_cert.specs.Cert.{CertParts, SpellsCert}
use Rattle.rpki_cert.specs.CertFault.{IsCertFault}
use Rattle.rpki_objects.specs.declared.encapsulated.EncapsulatedContent.{EncapsulatedContent}
use Rattle.rpki_objects.specs.declared.signer_info.SignerInfo.{SignerInfo}
use Rattle.rpki_objects.specs.declared.signed_data.SignedData.{SignedData}
use Rattle.rpki_attributes.specs.SignedAttributes.{AttributesParts, signed_attributes, attributes_of}

-- the explicit and implicit tags 0
abbrev pub zero_tag : TagName
zero_tag = tag_of Context 0

-- an OCTET STRING, whose octets are kept
abbrev pub kept_octets : Format (List ℕ)
kept_octets = kept (octets_under octet_string)

-- ---- EncapsulatedContentInfo (RFC 5652 5.2, RFC 6488 2.1.3)

-- the type of the content, by the contents octets of its identifier, and the content
pub record ContentParts : Type 0 where
  pub content_type : List ℕ
  pub content : List ℕ

abbrev pub content_of : EncapsulatedContent → ContentParts
content_of x = record { content_type = x.econtent_type.0; content = x.econtent }

abbrev pub content_fields_of : ContentParts → List ℕ × List ℕ
content_fields_of x = (x.content_type, x.content)

-- under the explicit tag 0
abbrev pub explicit_content : Format (List ℕ)
explicit_content = around zero_tag (only kept_octets)

abbrev pub content_fields : Format (List ℕ × List ℕ)
content_fields = then (kept any_oid) (only explicit_content)

abbrev pub encapsulated : Format (List ℕ × List ℕ)
encapsulated = around sequence content_fields

-- ---- SignerInfo (RFC 5652 5.3, RFC 6488 2.1.6)

-- the identifier of the signer's key, the signed attributes, and the signature with its algorithm: whether that has
-- parameters
pub record SignerParts : Type 0 where
  pub identifier : List ℕ
  pub attributes : AttributesParts
  pub signature : SignatureParts Bool

abbrev pub signer_of : SignerInfo → SignerParts
signer_of x = record { identifier = x.sid; attributes = attributes_of x.signed_attrs; signature = x.signature }

abbrev pub SignerFields : Type 0
SignerFields = Unit {0} × (List ℕ × (Unit {0} × (AttributesParts × (Bool × List ℕ))))

abbrev pub signer_fields_of : SignerParts → SignerFields
signer_fields_of x = (tt, (x.identifier, (tt, (x.attributes, (x.signature.algorithm, x.signature.value)))))

-- a key identifier, under the implicit tag 0 (RFC 5652 5.3, RFC 6488 2.1.6.2)
abbrev pub signer_identifier : Format (List ℕ)
signer_identifier = leaf zero_tag IsKeyIdentifier

-- version 3; the fields, in order; and neither unsigned attributes nor anything else
abbrev pub signer_fields : Bool → Format SignerFields
signer_fields strict =
    then (this_number 3)
    (then signer_identifier (then digest (then (signed_attributes strict) (then cms (only kept_octets)))))

abbrev pub signer_info : Bool → Format SignerFields
signer_info strict = around sequence (signer_fields strict)

-- ---- SignedData (RFC 5652 5.1, RFC 6488 2.1)

-- the content, the certificate of the signer, and the signer
pub record ObjectParts : Type 0 where
  pub content : ContentParts
  pub cert : CertParts
  pub signer : SignerParts

abbrev pub object_of : SignedData → ObjectParts
object_of x = record { content = content_of x.content; cert = x.cert; signer = signer_of x.signer }

abbrev pub DataFields : Type 0
DataFields = Unit {0} × (Unit {0} × ((List ℕ × List ℕ) × (CertParts × SignerFields)))

abbrev pub data_fields_of : ObjectParts → DataFields
data_fields_of x = (tt, (tt, (content_fields_of x.content, (x.cert, signer_fields_of x.signer))))

abbrev pub certificate : Format CertParts
certificate = record { spells = SpellsCert; fault = IsCertFault }

-- the one certificate, under the implicit tag 0 of a set of them
abbrev pub certificates : Format CertParts
certificates = around zero_tag (only certificate)

-- a SET of the one signer
abbrev pub signer_infos : Bool → Format SignerFields
signer_infos strict = around set (only (signer_info strict))

-- version 3; one digest algorithm; the content; the certificate; no revocation lists; the signer
abbrev pub data_fields : Bool → Format DataFields
data_fields strict =
    then (this_number 3)
    (then digest_set (then encapsulated (then certificates (only (signer_infos strict)))))

abbrev pub signed_data : Bool → Format DataFields
signed_data strict = around sequence (data_fields strict)

-- ---- ContentInfo (RFC 5652 3, RFC 6488 2)

-- 1.2.840.113549.1.7.2 (RFC 5652 5.1)
abbrev pub signed_data_type : List ℕ
signed_data_type = 42 ∷ 134 ∷ 72 ∷ 134 ∷ 247 ∷ 13 ∷ 1 ∷ 7 ∷ 2 ∷ []

abbrev pub ObjectFields : Type 0
ObjectFields = Unit {0} × DataFields

abbrev pub object_fields_of : ObjectParts → ObjectFields
object_fields_of x = (tt, data_fields_of x)

-- under the explicit tag 0
abbrev pub explicit_data : Bool → Format DataFields
explicit_data strict = around zero_tag (only (signed_data strict))

abbrev pub object_fields : Bool → Format ObjectFields
object_fields strict = then (this_oid signed_data_type) (only (explicit_data strict))

abbrev pub signed_object : Bool → Format ObjectFields
signed_object strict = around sequence (object_fields strict)
