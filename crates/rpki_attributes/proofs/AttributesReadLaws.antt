-- Signed attributes that are written are read as what they say.
use Rattle.std.proofs.Common.{◌≡◌, ◌<◌, ◌^◌, ◌&&◌, ℕ, Bool, true, false, List, [], ◌∷◌, length, Option, None}
use Rattle.std.proofs.Common.{Some}
use Rattle.std.proofs.Common.{refl, sym, ap, subst, ◌∙◌, arith}
use Rattle.std.specs.Prelude.{if◌then◌else◌, bytes_eq, IsTrue}
use Rattle.std.specs.Option.{is_some}
use Rattle.jiff.specs.Types.{DateTime}
use Rattle.rpki_der.specs.Prelude.{sequence, set, oid, octet_string, integer, tlv, only, any_oid, SpellsEach}
use Rattle.rpki_der.specs.Prelude.{IsOidOf, IsSized, IsUnsignedBelow, sequence_legal, set_legal, octet_string_legal}
use Rattle.rpki_der.specs.Header.{identifier_octets}
use Rattle.rpki_der.proofs.EncodeLaws.{leaf-legal, tlv-legal}
use Rattle.rpki_time.specs.Serial.{serial_contents}
use Rattle.rpki_time.specs.TimeValue.{time}
use Rattle.rpki_time.proofs.TimeValueLaws.{time_spelled}
use Rattle.rpki_time.proofs.WritingLaws.{serial_contents-are}
use Rattle.rpki.specs.AlgorithmOctetsLaws.{oid-legal}
use Rattle.rpki_der.specs.Listed.{listed_octets, EachHas}
use Rattle.rpki_attributes.specs.SignedAttributes.{Attribute, AttributeValues, attributes_tag, content_type}
use Rattle.rpki_attributes.specs.SignedAttributes.{message_digest}
use Rattle.rpki_attributes.specs.SignedAttributes.{signing_time, binary_signing_time, attribute, attribute_parts}
use Rattle.rpki_attributes.specs.SignedAttributes.{value_set}
use Rattle.rpki_attributes.specs.SignedAttributes.{each_attribute, attribute_list, is_known, are_known, values_of}
use Rattle.rpki_attributes.specs.SignedAttributes.{IsOnce}
use Rattle.rpki_attributes.specs.SignedAttributes.{IsAtMostOnce, digest_value, binary_time, is_timed, AreSigned}
use Rattle.rpki_attributes.specs.SignedAttributes.{message_of}
use Rattle.rpki_attributes.specs.EncodedAttributes.{attribute_octets, type_attribute, digest_attribute, time_attribute}
use Rattle.rpki_attributes.specs.EncodedAttributes.{binary_attribute, comes_before, placed, optional_attribute}
use Rattle.rpki_attributes.specs.EncodedAttributes.{other_attributes, written_attributes, attributes_contents}
use Rattle.rpki_attributes.specs.EncodedAttributes.{attributes_octets, message_octets, IsYearIn, IsFewIn, CanWriteType}
use Rattle.rpki_attributes.specs.EncodedAttributes.{CanWriteAttributes, normal_time, normal_values, IsTimed}
use Rattle.rpki_attributes.specs.EncodedAttributes.{AreReadBack}
use Rattle.rpki_x509.specs.TagLaws.{zero_legal, integer-legal, number-few}
use Rattle.rpki_attributes.proofs.AttributesOrderLaws.{inside}
use Rattle.rpki_attributes.proofs.AttributesWritingLaws.{IsWritable, attribute-few, written-placed, written-have}
use Rattle.rpki_attributes.proofs.AttributesWritingLaws.{contents-few}
use Rattle.rpki_x509.proofs.WrittenLaws.{written-then, written-around}

-- ---- the list of them

attribute-read : (x : Attribute) → IsWritable x → attribute.spells x (attribute_octets x)
attribute-read x h =
    let few = attribute-few x h.short in
    written-around sequence attribute_parts x (inside x) sequence_legal (omega (arith, few.0, h.few))
    (written-then any_oid (only value_set) x.0 x.1 (tlv oid false x.0) (tlv set true x.1)
    (leaf-legal oid false IsOidOf x.0 x.0 oid-legal (omega (arith, h.short)) (refl, h.identifier))
    (tlv-legal set true x.1 set_legal (omega (arith, h.few))))

attributes-read : (xs : List Attribute) → EachHas IsWritable xs
    → SpellsEach attribute.spells xs (listed_octets attribute_octets xs)
attributes-read [] h = refl
attributes-read (x ∷ xs) h = (
  listed_octets attribute_octets xs,
  record { front = attribute_octets x; parts = refl; spelled = attribute-read x h.0 },
  attributes-read xs h.1,
)

list-read : (v : AttributeValues) → CanWriteAttributes v
    → attribute_list.spells (written_attributes v) (attributes_octets v)
list-read v h =
    let few = contents-few v h in
    written-around attributes_tag each_attribute (written_attributes v) (attributes_contents v) zero_legal
    (omega (arith, few, h.content_type.few)) (attributes-read (written_attributes v) (written-have v h))

-- ---- the values of a type

module _ (id : List ℕ) (x : Attribute) where
  other-values : (xs : List Attribute) → bytes_eq x.0 id ≡ false → values_of id (placed x xs) ≡ values_of id xs
  other-values [] e = rw e refl
  other-values (y ∷ ys) e =
      let rest = other-values ys e in go rest (comes_before (attribute_octets x) (attribute_octets y))
    where
      go : values_of id (placed x ys) ≡ values_of id ys
          → (b : Bool) → values_of id (if b then x ∷ (y ∷ ys) else y ∷ placed x ys) ≡ values_of id (y ∷ ys)
      go rest true = rw e refl
      go rest false = rw rest refl

  own-value : (xs : List Attribute) → bytes_eq x.0 id ≡ true → values_of id xs ≡ []
      → values_of id (placed x xs) ≡ x.1 ∷ []
  own-value [] e none = rw e refl
  own-value (y ∷ ys) e none =
      let rest = own-value ys e in
      by_first rest (bytes_eq y.0 id) refl none (comes_before (attribute_octets x) (attribute_octets y))
    where
      by_first : (values_of id ys ≡ [] → values_of id (placed x ys) ≡ x.1 ∷ []) → (same : Bool)
          → bytes_eq y.0 id ≡ same
          → (if same then y.1 ∷ values_of id ys else values_of id ys) ≡ []
          → (b : Bool) → values_of id (if b then x ∷ (y ∷ ys) else y ∷ placed x ys) ≡ x.1 ∷ []
      by_first rest true is none b = absurd (let z = none in cc)
      by_first rest false is none true = rw (e, is, none) refl
      by_first rest false is none false = rw is (rest none)

pub placed-known : (x : Attribute) (xs : List Attribute) → is_known x.0 ≡ true → are_known xs ≡ true
    → are_known (placed x xs) ≡ true
placed-known x [] e all = rw e refl
placed-known x (y ∷ ys) e all =
    let rest = placed-known x ys e in go rest (comes_before (attribute_octets x) (attribute_octets y)) (is_known y.0)
    refl all
  where
    go : (are_known ys ≡ true → are_known (placed x ys) ≡ true) → (b known : Bool) → is_known y.0 ≡ known
        → (known && are_known ys) ≡ true
        → are_known (if b then x ∷ (y ∷ ys) else y ∷ placed x ys) ≡ true
    go rest true true is all = rw (e, is, all) refl
    go rest false true is all = rw is (rest all)
    go rest b false is all = absurd (let z = all in cc)

-- ---- those beside the content type

abbrev others : Option ℕ → Option DateTime → List ℕ → List Attribute
others b s d =
    optional_attribute binary_attribute b (optional_attribute time_attribute s (digest_attribute d ∷ []))

no-type : (b : Option ℕ) (s : Option DateTime) (d : List ℕ) → values_of content_type (others b s d) ≡ []
no-type None None d = refl
no-type None (Some t) d = refl
no-type (Some n) None d = refl
no-type (Some n) (Some t) d = refl

all-known : (b : Option ℕ) (s : Option DateTime) (d : List ℕ) → are_known (others b s d) ≡ true
all-known None None d = refl
all-known None (Some t) d = refl
all-known (Some n) None d = refl
all-known (Some n) (Some t) d = refl

digest-there : (b : Option ℕ) (s : Option DateTime) (d : List ℕ)
    → values_of message_digest (others b s d) ≡ tlv octet_string false d ∷ []
digest-there None None d = refl
digest-there None (Some t) d = refl
digest-there (Some n) None d = refl
digest-there (Some n) (Some t) d = refl

time-said : (b : Option ℕ) (s : Option DateTime) (d : List ℕ) → IsYearIn s
    → IsAtMostOnce time (values_of signing_time (others b s d)) (normal_time s)
time-said None None d h = refl
time-said None (Some t) d h = time_spelled t h
time-said (Some n) None d h = refl
time-said (Some n) (Some t) d h = time_spelled t h

seconds-said : (n : ℕ) → n < 2 ^ 64 → binary_time.spells n (tlv integer false (serial_contents n))
seconds-said n h =
    leaf-legal integer false (IsUnsignedBelow (2 ^ 64)) n (serial_contents n) integer-legal (number-few n)
    (record { below = h; contents = serial_contents-are n (omega (arith, h)) })

binary-said : (b : Option ℕ) (s : Option DateTime) (d : List ℕ) → IsFewIn b
    → IsAtMostOnce binary_time (values_of binary_signing_time (others b s d)) b
binary-said None None d h = refl
binary-said None (Some t) d h = refl
binary-said (Some n) None d h = seconds-said n h
binary-said (Some n) (Some t) d h = seconds-said n h

is-there : (s : Option DateTime) → is_some (normal_time s) ≡ is_some s
is-there None = refl
is-there (Some t) = refl

-- ---- what they say

type-said : (id : List ℕ) → CanWriteType id → any_oid.spells id (tlv oid false id)
type-said id h = leaf-legal oid false IsOidOf id id oid-legal (omega (arith, h.few)) (refl, h.identifier)

digest-said : (d : List ℕ) → length d ≡ 32 → digest_value.spells d (tlv octet_string false d)
digest-said d h = leaf-legal octet_string false (IsSized 32) d d octet_string_legal (omega (arith, h)) (refl, h)

module _ (v : AttributeValues) (h : CanWriteAttributes v) where
  abbrev c : Attribute
  c = type_attribute v.content_type

  abbrev rest : List Attribute
  rest = other_attributes v

  same-values : (id : List ℕ) → bytes_eq content_type id ≡ false
      → values_of id rest ≡ values_of id (written_attributes v)
  same-values id e =
      sym (other-values id c rest e) ∙ ap (values_of id) (sym (written-placed v h))

  one-type : values_of content_type (written_attributes v) ≡ tlv oid false v.content_type ∷ []
  one-type =
      ap (values_of content_type) (written-placed v h)
      ∙ own-value content_type c rest refl (no-type v.binary_signing_time v.signing_time v.message_digest)

  known : are_known (written_attributes v) ≡ true
  known =
      ap are_known (written-placed v h)
      ∙ placed-known c rest refl (all-known v.binary_signing_time v.signing_time v.message_digest)

  pub they-say : (strict : Bool) → IsTimed strict v → AreSigned strict (written_attributes v) (normal_values v)
  they-say strict timed = record {
    known = known;
    content_type =
        subst (λ (cs : List (List ℕ)). IsOnce any_oid cs v.content_type) (sym one-type)
        (type-said v.content_type h.content_type);
    message_digest =
        subst (λ (cs : List (List ℕ)). IsOnce digest_value cs v.message_digest)
        (sym (digest-there v.binary_signing_time v.signing_time v.message_digest) ∙ same-values message_digest refl)
        (digest-said v.message_digest h.digest);
    signing_time =
        subst (λ (cs : List (List ℕ)). IsAtMostOnce time cs (normal_time v.signing_time))
        (same-values signing_time refl)
        (time-said v.binary_signing_time v.signing_time v.message_digest h.time);
    binary_signing_time =
        subst (λ (cs : List (List ℕ)). IsAtMostOnce binary_time cs v.binary_signing_time)
        (same-values binary_signing_time refl)
        (binary-said v.binary_signing_time v.signing_time v.message_digest h.binary);
    timed =
        subst (λ (there : Bool). IsTrue (is_timed strict there (is_some v.binary_signing_time)))
        (sym (is-there v.signing_time)) timed;
  }

-- ---- what is signed

pub message-is : (v : AttributeValues) → message_of (attributes_octets v) ≡ message_octets v
unfolding identifier_octets
message-is v = refl

pub attributes-back : (v : AttributeValues) → CanWriteAttributes v → AreReadBack v
attributes-back v h = λ strict timed.
    record {
      value = (attributes_octets v, written_attributes v);
      spelled = (refl, list-read v h);
      stands = record { message = sym (message-is v); values = they-say v h strict timed };
    }
