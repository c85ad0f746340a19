-- Signed objects that are written are read as what they are made of.
use Rattle.std.proofs.Common.{◌≡◌, ℕ, Bool, true, false, List, [], ◌∷◌, ◌++◌, refl, arith, lit<}
use Rattle.std.proofs.Common.{subst}
use Rattle.std.proofs.Common.{inl, sym, ap, Result, Ok, Err}
use Rattle.rpki_der.specs.declared.error.DecodeError.{DecodeError}
use Rattle.rpki_der.specs.Prelude.{sequence, set, oid, integer, octet_string, tlv, then, only, any_oid, kept, this_oid}
use Rattle.rpki_der.specs.Prelude.{this_number, IsNumber, IsUnsigned, IsOidOf, IsOnly, sequence_legal, set_legal}
use Rattle.rpki_der.specs.Prelude.{octet_string_legal, TakesWhole}
use Rattle.rpki_der.proofs.EncodeLaws.{leaf-legal, tlv-legal}
use Rattle.rpki_der.proofs.ReadingLaws.{only-memory}
use Rattle.rpki_time.specs.Serial.{serial_contents, contents_within}
use Rattle.rpki_time.proofs.WritingLaws.{serial_contents-are}
use Rattle.rpki.specs.Oids.{rsa_encryption}
use Rattle.rpki.specs.AlgorithmOctets.{algorithm_octets}
use Rattle.rpki.specs.AlgorithmOctetsLaws.{oid-legal, algorithm-spelled}
use Rattle.rpki.specs.AlgorithmFault.{cms, digest, digest_set}
use Rattle.rpki.specs.Digest.{digest_octets, digest_set_octets}
use Rattle.rpki.specs.KeyIdentifier.{IsKeyIdentifier}
use Rattle.rpki.specs.Signature.{signature_of}
use Rattle.rpki.proofs.DigestLaws.{digest-spelled, digest-set-spelled}
use Rattle.rpki_cert.specs.Cert.{CertParts}
use Rattle.rpki_attributes.specs.SignedAttributes.{signed_attributes}
use Rattle.rpki_objects.specs.SignedObject.{zero_tag, kept_octets, explicit_content, content_fields, encapsulated}
use Rattle.rpki_objects.specs.SignedObject.{content_fields_of, signer_identifier, signer_fields, signer_info}
use Rattle.rpki_objects.specs.SignedObject.{signer_fields_of, certificate, certificates, signer_infos, data_fields}
use Rattle.rpki_objects.specs.SignedObject.{signed_data, data_fields_of, signed_data_type, explicit_data, object_fields}
use Rattle.rpki_objects.specs.SignedObject.{signed_object, object_fields_of, ObjectFields, ObjectParts}
use Rattle.rpki_attributes.specs.EncodedAttributes.{attributes_octets, normal_attributes, IsTimed}
use Rattle.rpki_objects.specs.EncodedObject.{BuiltObject, version_3, signer_contents, signer_octets, content_octets}
use Rattle.rpki_objects.specs.EncodedObject.{data_contents, object_contents, object_octets, CanWriteObject}
use Rattle.rpki_objects.specs.EncodedObject.{content_built, signer_built, normal_object, IsObjectReadBack}
use Rattle.rpki_objects.specs.EncodedObject.{IsDecodedBack}
use Rattle.rpki_x509.specs.TagLaws.{zero_legal, integer-legal}
use Rattle.rpki_attributes.proofs.AttributesReadLaws.{attributes-back}
use Rattle.rpki_objects.proofs.ObjectWritingLaws.{signer-few, signer-octets-few, content-few, content-inside-few}
use Rattle.rpki_objects.proofs.ObjectWritingLaws.{data-few}
use Rattle.rpki_objects.proofs.ObjectWritingLaws.{data-octets-few, object-few}
use Rattle.rpki_x509.proofs.WrittenLaws.{written-then, written-around}

-- ---- the version

pub three-octet : serial_contents 3 ≡ 3 ∷ []
unfolding contents_within
three-octet = refl

version-read : (this_number 3).spells tt version_3
version-read = leaf-legal integer false (IsNumber 3) tt (3 ∷ []) integer-legal (lit< tt)
    (subst (λ (c : List ℕ). IsUnsigned 3 c) three-octet (serial_contents-are 3 (lit< tt)))

algorithm-read : cms.spells true (algorithm_octets rsa_encryption true)
algorithm-read =
    let h = algorithm-spelled rsa_encryption true (lit< tt) in
    record { contents = h.contents; value = h.value; spelled = inl h.spelled }

module _ (x : BuiltObject) (h : CanWriteObject x) where
  -- ---- the content

  content-read : encapsulated.spells (content_fields_of (content_built x)) (content_octets x)
  content-read =
      let kind = tlv oid false x.attributes.content_type in
      let content = tlv octet_string false x.content in
      let one = content-few x h in
      let all = content-inside-few x h in
      written-around sequence content_fields (content_fields_of (content_built x)) (kind ++ tlv zero_tag true content)
      sequence_legal (omega (arith, all, h.few))
      (written-then (kept any_oid) (only explicit_content) x.attributes.content_type x.content kind
      (tlv zero_tag true content)
      (leaf-legal oid false IsOidOf x.attributes.content_type x.attributes.content_type oid-legal
      (omega (arith, h.few)) (refl, h.attributes.content_type.identifier))
      (written-around zero_tag (only kept_octets) x.content content zero_legal (omega (arith, one, h.few))
      (tlv-legal octet_string false x.content octet_string_legal (omega (arith, h.few)))))

  module _ (strict : Bool) (timed : IsTimed strict x.attributes) where
    -- ---- the signer

    signer-read : (signer_info strict).spells (signer_fields_of (signer_built x)) (signer_octets x)
    signer-read =
        let identifier = tlv zero_tag false x.signer in
        let attributes = attributes_octets x.attributes in
        let algorithm = algorithm_octets rsa_encryption true in
        let signature = tlv octet_string false x.signature in
        let few = signer-few x h in
        let said = normal_attributes x.attributes in
        let end = then cms (only kept_octets) in
        let behind = then (signed_attributes strict) end in
        written-around sequence (signer_fields strict) (signer_fields_of (signer_built x)) (signer_contents x)
        sequence_legal (omega (arith, few, h.few))
        (written-then (this_number 3) (then signer_identifier (then digest behind)) tt
        (x.signer, (tt, (said, (true, x.signature)))) version_3
        (identifier ++ (digest_octets ++ (attributes ++ (algorithm ++ signature)))) version-read
        (written-then signer_identifier (then digest behind) x.signer (tt, (said, (true, x.signature))) identifier
        (digest_octets ++ (attributes ++ (algorithm ++ signature)))
        (leaf-legal zero_tag false IsKeyIdentifier x.signer x.signer zero_legal (omega (arith, h.signer))
        (record { same = refl; size = h.signer }))
        (written-then digest behind tt (said, (true, x.signature)) digest_octets
        (attributes ++ (algorithm ++ signature)) digest-spelled
        (written-then (signed_attributes strict) end said (true, x.signature) attributes (algorithm ++ signature)
        (attributes-back x.attributes h.attributes strict timed)
        (written-then cms (only kept_octets) true x.signature algorithm signature algorithm-read
        (tlv-legal octet_string false x.signature octet_string_legal (omega (arith, h.few))))))))

    -- ---- the whole

    module _ (cert : CertParts) (spelled : certificate.spells cert x.certificate) where
      data-read : (signed_data strict).spells (data_fields_of (normal_object cert x))
          (tlv sequence true (data_contents x))
      data-read =
          let content = content_fields_of (content_built x) in
          let signer = signer_fields_of (signer_built x) in
          let few = data-few x h in
          let inner = signer-octets-few x h in
          let held = tlv zero_tag true x.certificate in
          let signers = tlv set true (signer_octets x) in
          let end = then certificates (only (signer_infos strict)) in
          written-around sequence (data_fields strict) (data_fields_of (normal_object cert x)) (data_contents x)
          sequence_legal (omega (arith, few, h.few))
          (written-then (this_number 3) (then digest_set (then encapsulated end)) tt
          (tt, (content, (cert, signer))) version_3
          (digest_set_octets ++ (content_octets x ++ (held ++ signers))) version-read
          (written-then digest_set (then encapsulated end) tt (content, (cert, signer)) digest_set_octets
          (content_octets x ++ (held ++ signers)) digest-set-spelled
          (written-then encapsulated end content (cert, signer) (content_octets x) (held ++ signers) content-read
          (written-then certificates (only (signer_infos strict)) cert signer held signers
          (written-around zero_tag (only certificate) cert x.certificate zero_legal (omega (arith, h.few)) spelled)
          (written-around set (only (signer_info strict)) signer (signer_octets x) set_legal
          (omega (arith, inner, h.few)) signer-read)))))

      object-read : (signed_object strict).spells (object_fields_of (normal_object cert x)) (object_octets x)
      object-read =
          let whole = data_fields_of (normal_object cert x) in
          let inside = tlv sequence true (data_contents x) in
          let few = data-octets-few x h in
          let all = object-few x h in
          written-around sequence (object_fields strict) (object_fields_of (normal_object cert x)) (object_contents x)
          sequence_legal (omega (arith, all, h.few))
          (written-then (this_oid signed_data_type) (only (explicit_data strict)) tt whole
          (tlv oid false signed_data_type) (tlv zero_tag true inside)
          (leaf-legal oid false (IsOnly signed_data_type) tt signed_data_type oid-legal (lit< tt) refl)
          (written-around zero_tag (only (signed_data strict)) whole inside zero_legal (omega (arith, few, h.few))
          data-read))

pub object-back : (x : BuiltObject) → CanWriteObject x → IsObjectReadBack x
object-back x h = λ strict cert spelled timed. object-read x h strict timed cert spelled

-- ---- decoded again

-- an object, by its fields
object-with : ObjectFields → ObjectParts
object-with f = record {
  content = record { content_type = f.1.1.1.0.0; content = f.1.1.1.0.1 };
  cert = f.1.1.1.1.0;
  signer = record {
    identifier = f.1.1.1.1.1.1.0;
    attributes = f.1.1.1.1.1.1.1.1.0;
    signature = signature_of f.1.1.1.1.1.1.1.1.1.0 f.1.1.1.1.1.1.1.1.1.1;
  };
}

pub decoded-back : (x : BuiltObject) (strict : Bool) (octets : List ℕ) (result : Result ObjectParts DecodeError)
    → TakesWhole object_fields_of (signed_object strict) octets result → IsDecodedBack x strict octets result
unfolding object-with
decoded-back x strict octets (Ok o) d = λ cert h spelled timed is.
    let whole = object_fields_of (normal_object cert x) in
    let read = subst ((signed_object strict).spells whole) (sym is) (object-back x h strict cert spelled timed) in
    ap object-with (sym (d.1 whole read))
decoded-back x strict octets (Err e) d = λ cert h spelled timed is.
    let whole = object_fields_of (normal_object cert x) in
    let read = subst ((signed_object strict).spells whole) (sym is) (object-back x h strict cert spelled timed) in
    only-memory e d.0 (λ none. none whole read)
