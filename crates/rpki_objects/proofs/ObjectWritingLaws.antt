-- Signed objects that are written: how many octets the parts have, and that they are values.
use Rattle.std.proofs.Common.{◌≡◌, ◌≤◌, ◌<◌, ◌+◌, ◌*◌, ◌^◌, ℕ, true, false, List, [], ◌∷◌, ◌++◌, length, refl, arith}
use Rattle.std.proofs.Common.{lit<}
use Rattle.std.proofs.Common.{length-append}
use Rattle.std.specs.Prelude.{IsTrue, ◌↔◌}
use Rattle.rpki_der.specs.Prelude.{sequence, set, oid, integer, octet_string, tlv, IsValue, IsValueList}
use Rattle.rpki_der.specs.Prelude.{sequence_legal, set_legal, octet_string_legal, primitive_value_list}
use Rattle.rpki_der.specs.Prelude.{constructed_value, value_lists_append}
use Rattle.rpki_der.proofs.EncodeLaws.{tlv_at_most}
use Rattle.rpki.specs.Oids.{sha256, rsa_encryption}
use Rattle.rpki.specs.AlgorithmOctets.{algorithm_octets, identified_octets, parameters_octets}
use Rattle.rpki.specs.AlgorithmOctetsLaws.{oid-legal, parameters-short, algorithm-spelled, algorithm-value}
use Rattle.rpki.specs.Digest.{digest_octets, digest_set_octets}
use Rattle.rpki_objects.specs.SignedObject.{zero_tag, signed_data_type}
use Rattle.rpki_attributes.specs.EncodedAttributes.{attributes_octets}
use Rattle.rpki_objects.specs.EncodedObject.{BuiltObject, version_3, signer_contents, signer_octets, content_octets}
use Rattle.rpki_objects.specs.EncodedObject.{data_contents, object_contents, object_octets, parts_size, CanWriteObject}
use Rattle.rpki_x509.specs.TagLaws.{zero_legal, integer-legal}
use Rattle.rpki_attributes.proofs.AttributesWritingLaws.{attributes-few, attributes-value}

-- ---- parts that are always the same

version-few : length version_3 ≤ 11
version-few = tlv_at_most integer false (3 ∷ [])

digest-few : length digest_octets ≤ 29
digest-few = omega (arith, tlv_at_most sequence true (tlv oid false sha256), tlv_at_most oid false sha256)

pub digest-set-few : length digest_set_octets ≤ 39
digest-set-few = omega (arith, digest-few, tlv_at_most set true digest_octets)

algorithm-few : length (algorithm_octets rsa_encryption true) ≤ 40
algorithm-few =
    omega (
      arith,
      tlv_at_most sequence true (identified_octets rsa_encryption true),
      length-append (tlv oid false rsa_encryption) (parameters_octets true),
      tlv_at_most oid false rsa_encryption,
      parameters-short true,
    )

version-values : IsValueList version_3
version-values = primitive_value_list integer (3 ∷ []) integer-legal (lit< tt)

digest-value : IsValue digest_octets
digest-value =
    constructed_value sequence (tlv oid false sha256) sequence_legal
    (omega (arith, tlv_at_most oid false sha256)) (primitive_value_list oid sha256 oid-legal (lit< tt))

cms-value : IsValue (algorithm_octets rsa_encryption true)
cms-value =
    algorithm-value rsa_encryption true (algorithm_octets rsa_encryption true) (lit< tt)
    (algorithm-spelled rsa_encryption true (lit< tt))

-- ---- five parts, in sequence

five-few : (a b c d e : List ℕ)
    → length (a ++ (b ++ (c ++ (d ++ e)))) ≡ length a + (length b + (length c + (length d + length e)))
five-few a b c d e = omega (
  arith,
  length-append a (b ++ (c ++ (d ++ e))),
  length-append b (c ++ (d ++ e)),
  length-append c (d ++ e),
  length-append d e,
)

module _ (x : BuiltObject) (h : CanWriteObject x) where
  abbrev signature : List ℕ
  signature = tlv octet_string false x.signature

  abbrev algorithm : List ℕ
  algorithm = algorithm_octets rsa_encryption true

  -- ---- the signer

  signature-few : length (algorithm ++ signature) ≤ length x.signature + 50
  signature-few =
      omega (arith, algorithm-few, length-append algorithm signature, tlv_at_most octet_string false x.signature)

  pub signer-few : length (signer_contents x) ≤ length x.attributes.content_type + length x.signature + 450
  signer-few =
      omega (
        arith,
        version-few,
        digest-few,
        h.signer,
        tlv_at_most zero_tag false x.signer,
        attributes-few x.attributes h.attributes,
        signature-few,
        five-few version_3 (tlv zero_tag false x.signer) digest_octets (attributes_octets x.attributes)
            (algorithm ++ signature),
      )

  pub signer-values : IsValueList (signer_contents x)
  signer-values =
      value_lists_append version_3 _ version-values
      (value_lists_append (tlv zero_tag false x.signer) _
      (primitive_value_list zero_tag x.signer zero_legal (omega (arith, h.signer)))
      (value_lists_append digest_octets _ (1, digest-value)
      (value_lists_append (attributes_octets x.attributes) _ (1, attributes-value x.attributes h.attributes)
      (value_lists_append algorithm signature (1, cms-value)
      (primitive_value_list octet_string x.signature octet_string_legal (omega (arith, h.few)))))))

  pub signer-value : IsValue (signer_octets x)
  signer-value =
      let few = signer-few in
      constructed_value sequence (signer_contents x) sequence_legal (omega (arith, few, h.few)) signer-values

  pub signer-octets-few : length (signer_octets x) ≤ length x.attributes.content_type + length x.signature + 460
  signer-octets-few = omega (arith, signer-few, tlv_at_most sequence true (signer_contents x))

  -- ---- the content

  abbrev content : List ℕ
  content = tlv octet_string false x.content

  abbrev kind : List ℕ
  kind = tlv oid false x.attributes.content_type

  pub content-few : length content ≤ length x.content + 10
  content-few = tlv_at_most octet_string false x.content

  pub content-inside-few : length (kind ++ tlv zero_tag true content)
      ≤ length x.attributes.content_type + length x.content + 30
  content-inside-few =
      omega (
        arith,
        content-few,
        tlv_at_most zero_tag true content,
        tlv_at_most oid false x.attributes.content_type,
        length-append kind (tlv zero_tag true content),
      )

  content-octets-few : length (content_octets x) ≤ length x.attributes.content_type + length x.content + 40
  content-octets-few =
      omega (arith, content-inside-few, tlv_at_most sequence true (kind ++ tlv zero_tag true content))

  content-value : IsValue (content_octets x)
  content-value =
      let one = content-few in
      let all = content-inside-few in
      constructed_value sequence (kind ++ tlv zero_tag true content) sequence_legal (omega (arith, all, h.few))
      (value_lists_append kind (tlv zero_tag true content)
      (primitive_value_list oid x.attributes.content_type oid-legal (omega (arith, h.few))) (
        1,
        constructed_value zero_tag content zero_legal (omega (arith, one, h.few))
            (primitive_value_list octet_string x.content octet_string_legal (omega (arith, h.few))),
      ))

  -- ---- signed data

  abbrev certificates : List ℕ
  certificates = tlv zero_tag true x.certificate

  abbrev signers : List ℕ
  signers = tlv set true (signer_octets x)

  pub data-few : length (data_contents x) ≤ 2 * parts_size x + 1000
  data-few =
      omega (
        arith,
        version-few,
        digest-set-few,
        content-octets-few,
        tlv_at_most zero_tag true x.certificate,
        signer-octets-few,
        tlv_at_most set true (signer_octets x),
        five-few version_3 digest_set_octets (content_octets x) certificates signers,
      )

  pub data-values : IsValueList (data_contents x)
  data-values =
      let few = signer-octets-few in
      value_lists_append version_3 _ version-values
      (value_lists_append digest_set_octets _
      (1, constructed_value set digest_octets set_legal (omega (arith, digest-few)) (1, digest-value))
      (value_lists_append (content_octets x) _ (1, content-value)
      (value_lists_append certificates signers
      (1, constructed_value zero_tag x.certificate zero_legal (omega (arith, h.few)) (1, h.certificate))
      (1, constructed_value set (signer_octets x) set_legal (omega (arith, few, h.few)) (1, signer-value)))))

  -- ---- the object

  pub data-octets-few : length (tlv sequence true (data_contents x)) ≤ 2 * parts_size x + 1010
  data-octets-few = omega (arith, data-few, tlv_at_most sequence true (data_contents x))

  pub object-few : length (object_contents x) ≤ 2 * parts_size x + 1100
  object-few =
      omega (
        arith,
        data-octets-few,
        tlv_at_most oid false signed_data_type,
        tlv_at_most zero_tag true (tlv sequence true (data_contents x)),
        length-append (tlv oid false signed_data_type) (tlv zero_tag true (tlv sequence true (data_contents x))),
      )

-- ---- whether they fit

pub signer-fits : (x : BuiltObject) → CanWriteObject x
    → IsTrue true ↔ (IsValueList (signer_contents x) × (length (signer_contents x) < 2 ^ 63))
signer-fits x h =
    let few = signer-few x h in (λ _. (signer-values x h, omega (arith, few, h.few)), λ _. refl)

pub data-fits : (x : BuiltObject) → CanWriteObject x
    → IsTrue true ↔ (IsValueList (data_contents x) × (length (data_contents x) < 2 ^ 63))
data-fits x h = let few = data-few x h in (λ _. (data-values x h, omega (arith, few, h.few)), λ _. refl)

-- as the contents of a value
pub signer-fit : (x : BuiltObject) → CanWriteObject x
    → (IsValueList (signer_contents x) × (length (signer_contents x) < 2 ^ 32)) × (length (signer_octets x) < 2 ^ 32)
signer-fit x h =
    let few = signer-few x h in
    let all = signer-octets-few x h in
    ((signer-values x h, omega (arith, few, h.few)), omega (arith, all, h.few))

pub data-fit : (x : BuiltObject) → CanWriteObject x
    → (IsValueList (data_contents x) × (length (data_contents x) < 2 ^ 32))
    × (length (tlv sequence true (data_contents x)) < 2 ^ 32)
data-fit x h =
    let few = data-few x h in
    let all = data-octets-few x h in
    ((data-values x h, omega (arith, few, h.few)), omega (arith, all, h.few))

pub object-fit : (x : BuiltObject) → CanWriteObject x
    → (length (object_contents x) < 2 ^ 32) × (length (object_octets x) < 2 ^ 63)
object-fit x h =
    let few = object-few x h in
    (omega (arith, few, h.few), omega (arith, few, h.few, tlv_at_most sequence true (object_contents x)))

pub content-fits : (x : BuiltObject) → CanWriteObject x
    → (length (tlv octet_string false x.content) < 2 ^ 32)
    × (length (tlv oid false x.attributes.content_type ++ tlv zero_tag true (tlv octet_string false x.content))
    < 2 ^ 32)
content-fits x h =
    let one = content-few x h in
    let all = content-inside-few x h in
    (omega (arith, one, h.few), omega (arith, all, h.few))

pub parts-few : (x : BuiltObject) → CanWriteObject x
    → (length x.attributes.content_type < 2 ^ 32)
    × ((length x.content < 2 ^ 32) × ((length x.certificate < 2 ^ 32)
    × ((length x.signature < 2 ^ 32) × (length x.signer < 2 ^ 32))))
parts-few x h = (
  omega (arith, h.few),
  (omega (arith, h.few), (omega (arith, h.few), (omega (arith, h.few), omega (arith, h.signer)))),
)
