-- What is written of a signed object (RFC 5652 3, 5, in the profile of RFC 6488 2).
use Rattle.std.specs.Prelude.{◌≡◌, ◌<◌, ◌+◌, ◌^◌, ℕ, Bool, true, false, List, [], ◌∷◌, ◌++◌, length, Result}
use Rattle.std.specs.Prelude.{MatchResult}
use Rattle.rpki_der.specs.declared.error.DecodeError.{DecodeError}
use Rattle.rpki_der.specs.declared.error.DecodeError.TheVariants.{OutOfMemory}
use Rattle.rpki_der.specs.Prelude.{sequence, set, oid, integer, octet_string, tlv, IsValue}
use Rattle.rpki.specs.Oids.{rsa_encryption}
use Rattle.rpki.specs.AlgorithmOctets.{algorithm_octets}
use Rattle.rpki.specs.Digest.{digest_octets, digest_set_octets}
use Rattle.rpki.specs.Signature.{signature_of}
use Rattle.rpki_cert.specs.Cert.{CertParts}
use Rattle.rpki_objects.specs.declared.encode.SignedObjectParts.{SignedObjectParts}
use Rattle.rpki_attributes.specs.SignedAttributes.{AttributeValues, values_known}
use Rattle.rpki_attributes.specs.EncodedAttributes.{attributes_octets, CanWriteAttributes, normal_attributes, IsTimed}
use Rattle.rpki_objects.specs.SignedObject.{zero_tag, ContentParts, SignerParts, ObjectParts, signed_data_type}
use Rattle.rpki_objects.specs.SignedObject.{certificate, signed_object, object_fields_of}

-- What an object is made of: what the attributes say, the content, the octets of the certificate, the identifier of the
-- signer's key, and the signature. The content has the type that the attributes say (RFC 6488 2.1.6.4.1).
pub record BuiltObject : Type 0 where
  pub attributes : AttributeValues
  pub content : List ℕ
  pub certificate : List ℕ
  pub signer : List ℕ
  pub signature : List ℕ

abbrev pub built_of : SignedObjectParts → BuiltObject
built_of x = record {
  attributes = values_known x.attributes;
  content = x.content.now;
  certificate = x.certificate.now;
  signer = x.signer_identifier;
  signature = x.signature.now;
}

-- the INTEGER 3
abbrev pub version_3 : List ℕ
version_3 = tlv integer false (3 ∷ [])

-- ---- SignerInfo (RFC 5652 5.3): the digest without parameters (RFC 5754 2), the signature's algorithm with a NULL

abbrev pub signer_contents : BuiltObject → List ℕ
signer_contents x =
    version_3
    ++ (tlv zero_tag false x.signer
    ++ (digest_octets
    ++ (attributes_octets x.attributes
    ++ (algorithm_octets rsa_encryption true ++ tlv octet_string false x.signature))))

abbrev pub signer_octets : BuiltObject → List ℕ
signer_octets x = tlv sequence true (signer_contents x)

-- ---- EncapsulatedContentInfo (RFC 5652 5.2)

abbrev pub content_octets : BuiltObject → List ℕ
content_octets x =
    tlv sequence true (tlv oid false x.attributes.content_type ++ tlv zero_tag true (tlv octet_string false x.content))

-- ---- SignedData (RFC 5652 5.1)

abbrev pub data_contents : BuiltObject → List ℕ
data_contents x =
    version_3
    ++ (digest_set_octets
    ++ (content_octets x ++ (tlv zero_tag true x.certificate ++ tlv set true (signer_octets x))))

-- ---- ContentInfo (RFC 5652 3)

abbrev pub object_contents : BuiltObject → List ℕ
object_contents x = tlv oid false signed_data_type ++ tlv zero_tag true (tlv sequence true (data_contents x))

abbrev pub object_octets : BuiltObject → List ℕ
object_octets x = tlv sequence true (object_contents x)

-- ---- which can be written

-- how many octets the parts have that may have any number
abbrev pub parts_size : BuiltObject → ℕ
parts_size x =
    length x.attributes.content_type + (length x.content + (length x.certificate + length x.signature))

-- The content type is an identifier, the certificate is one value, and these parts have fewer than 2^30 octets. The
-- rest is what the types of the parts say of them.
pub record CanWriteObject (x : BuiltObject) : Type 0 where
  pub attributes : CanWriteAttributes x.attributes
  pub certificate : IsValue x.certificate
  pub signer : length x.signer ≡ 20
  pub few : parts_size x < 2 ^ 30

-- ---- what is read of it

abbrev pub content_built : BuiltObject → ContentParts
content_built x = record { content_type = x.attributes.content_type; content = x.content }

abbrev pub signer_built : BuiltObject → SignerParts
signer_built x = record {
  identifier = x.signer;
  attributes = normal_attributes x.attributes;
  signature = signature_of true x.signature;
}

-- around this certificate
abbrev pub normal_object : CertParts → BuiltObject → ObjectParts
normal_object cert x = record { content = content_built x; cert = cert; signer = signer_built x }

abbrev pub IsObjectReadBack : BuiltObject → Type 0
IsObjectReadBack x = (strict : Bool) (cert : CertParts) → certificate.spells cert x.certificate
    → IsTimed strict x.attributes
    → (signed_object strict).spells (object_fields_of (normal_object cert x)) (object_octets x)

-- What decoding these octets gives is this object, or there is no memory for it.
abbrev pub IsDecodedBack : BuiltObject → Bool → List ℕ → Result ObjectParts DecodeError → Type 0
IsDecodedBack x strict octets result = (cert : CertParts) → CanWriteObject x → certificate.spells cert x.certificate
    → IsTimed strict x.attributes → octets ≡ object_octets x
    → MatchResult result (λ o. o ≡ normal_object cert x) (λ e. e ≡ OutOfMemory)
