-- Signed attributes that are written: where the content type is, that they are values, and how many octets they
-- have.
use Rattle.std.proofs.Common.{◌≡◌, ◌≤◌, ◌<◌, ◌+◌, ◌^◌, ℕ, Bool, true, false, List, [], ◌∷◌, ◌++◌, length, Option, None}
use Rattle.std.proofs.Common.{Some, refl, sym, ap, subst, ◌∙◌, arith, lit<, length-append, append-nil}
use Rattle.std.specs.Prelude.{if◌then◌else◌, IsTrue, ◌↔◌}
use Rattle.jiff.specs.Types.{DateTime}
use Rattle.rpki_der.specs.Prelude.{TagName, sequence, set, oid, octet_string, integer, tlv, IsOid, IsValue, IsValueList}
use Rattle.rpki_der.specs.Prelude.{sequence_legal, set_legal, octet_string_legal, primitive_value_list}
use Rattle.rpki_der.specs.Prelude.{constructed_value, value_lists_append}
use Rattle.rpki_der.proofs.EncodeLaws.{tlv_at_most}
use Rattle.rpki_time.specs.Serial.{serial_contents}
use Rattle.rpki_time.specs.TimeValueLaws.{time_is_value_list}
use Rattle.rpki.specs.AlgorithmOctetsLaws.{oid-legal}
use Rattle.rpki.proofs.NamedLaws.{plain-oid}
use Rattle.rpki_der.specs.Listed.{listed_octets, EachHas}
use Rattle.rpki_der.specs.ListedLaws.{listed_values}
use Rattle.rpki_attributes.specs.SignedAttributes.{Attribute, AttributeValues, attributes_tag, content_type}
use Rattle.rpki_attributes.specs.SignedAttributes.{message_digest}
use Rattle.rpki_attributes.specs.SignedAttributes.{signing_time, binary_signing_time}
use Rattle.rpki_attributes.specs.EncodedAttributes.{attribute_octets, type_attribute, digest_attribute, time_attribute}
use Rattle.rpki_attributes.specs.EncodedAttributes.{binary_attribute, comes_before, placed, in_order}
use Rattle.rpki_attributes.specs.EncodedAttributes.{optional_attribute}
use Rattle.rpki_attributes.specs.EncodedAttributes.{time_and_digest, other_attributes, written_attributes}
use Rattle.rpki_attributes.specs.EncodedAttributes.{attributes_contents}
use Rattle.rpki_attributes.specs.EncodedAttributes.{attributes_octets, CanWriteType, IsFewIn, CanWriteAttributes}
use Rattle.rpki_x509.specs.TagLaws.{zero_legal, integer-legal, number-few}
use Rattle.rpki_attributes.proofs.AttributesOrderLaws.{inside, time-size, binary-size, digest-size, time-before-digest}
use Rattle.rpki_attributes.proofs.AttributesOrderLaws.{binary-before-digest, binary-before-time, longer-is-behind}
use Rattle.rpki_attributes.proofs.AttributesOrderLaws.{no-longer-is-before}

-- a test that succeeds does not fail
pub not-both : (b : Bool) → b ≡ true → b ≡ false → ⊥
not-both b p q = let z : true ≡ false = sym p ∙ q in cc

-- ---- where an attribute is

module _ (x y : Attribute) (ys : List Attribute) where
  pub placed-behind : comes_before (attribute_octets x) (attribute_octets y) ≡ false
      → placed x (y ∷ ys) ≡ y ∷ placed x ys
  placed-behind e = rw e refl

  pub placed-before : comes_before (attribute_octets x) (attribute_octets y) ≡ true → placed x (y ∷ ys) ≡ x ∷ (y ∷ ys)
  placed-before e = rw e refl

  -- the octets of each, in sequence
  pub octets-behind : (b r : List ℕ) → comes_before (attribute_octets x) (attribute_octets y) ≡ false
      → b ≡ attribute_octets y → r ≡ listed_octets attribute_octets (placed x ys)
      → b ++ r ≡ listed_octets attribute_octets (placed x (y ∷ ys))
  octets-behind b r e p q =
      (λ i. p i ++ q i) ∙ sym (ap (listed_octets attribute_octets) (placed-behind e))

  pub octets-before : (a b r : List ℕ) → comes_before (attribute_octets x) (attribute_octets y) ≡ true
      → a ≡ attribute_octets x → b ≡ attribute_octets y → r ≡ listed_octets attribute_octets ys
      → a ++ (b ++ r) ≡ listed_octets attribute_octets (placed x (y ∷ ys))
  octets-before a b r e o p q =
      (λ i. o i ++ (p i ++ q i)) ∙ sym (ap (listed_octets attribute_octets) (placed-before e))

pub octets-alone : (x : Attribute) (a : List ℕ) → a ≡ attribute_octets x
    → a ≡ listed_octets attribute_octets (x ∷ [])
octets-alone x a p = p ∙ sym (append-nil (attribute_octets x))

-- ---- the content type beside another attribute

module _ (id : List ℕ) (y : Attribute) (ys : List Attribute) (short : length (inside y) < 128) where
  abbrev kind : Attribute
  kind = type_attribute id

  pub beside-behind : (b r : List ℕ) → b ≡ attribute_octets y → length b < length (attribute_octets kind)
      → r ≡ listed_octets attribute_octets (placed kind ys)
      → b ++ r ≡ listed_octets attribute_octets (placed kind (y ∷ ys))
  beside-behind b r p less q =
      let fewer : length (attribute_octets y) < length (attribute_octets kind) = rw (← p) less in
      octets-behind kind y ys b r (longer-is-behind (inside kind) (inside y) short fewer) p q

  pub beside-before : comes_before (inside kind) (inside y) ≡ true → (a b r : List ℕ) → a ≡ attribute_octets kind
      → b ≡ attribute_octets y → (length b < length (attribute_octets kind) → ⊥)
      → r ≡ listed_octets attribute_octets ys
      → a ++ (b ++ r) ≡ listed_octets attribute_octets (placed kind (y ∷ ys))
  beside-before tie a b r o p none q =
      let no : length (attribute_octets y) < length (attribute_octets kind) → ⊥ =
      λ less. none (rw p less) in
      octets-before kind y ys a b r (no-longer-is-before (inside kind) (inside y) short no tie) o p q

-- the others are in order
others-in-order : (b : Option ℕ) (s : Option DateTime) (d : List ℕ) → IsFewIn b → length d ≡ 32
    → in_order (optional_attribute binary_attribute b (optional_attribute time_attribute s (digest_attribute d ∷ [])))
    ≡ optional_attribute binary_attribute b (optional_attribute time_attribute s (digest_attribute d ∷ []))
others-in-order None None d few h = refl
others-in-order None (Some t) d few h = rw (time-before-digest t d h) refl
others-in-order (Some n) None d few h = rw (binary-before-digest n d few h) refl
others-in-order (Some n) (Some t) d few h = rw (time-before-digest t d h, binary-before-time n t few) refl

pub written-placed : (v : AttributeValues) → CanWriteAttributes v
    → written_attributes v ≡ placed (type_attribute v.content_type) (other_attributes v)
written-placed v h =
    ap (placed (type_attribute v.content_type))
    (others-in-order v.binary_signing_time v.signing_time v.message_digest h.binary h.digest)

pub contents-placed : (v : AttributeValues) → CanWriteAttributes v
    → listed_octets attribute_octets (placed (type_attribute v.content_type) (other_attributes v))
    ≡ attributes_contents v
contents-placed v h = ap (listed_octets attribute_octets) (sym (written-placed v h))

-- the same where there is no binary signing time, and where there is one
module _ (v : AttributeValues) (h : CanWriteAttributes v) where
  contents-of : (b : Option ℕ) → v.binary_signing_time ≡ b
      → listed_octets attribute_octets
      (placed (type_attribute v.content_type) (optional_attribute binary_attribute b (time_and_digest v)))
      ≡ attributes_contents v
  contents-of b e =
      ap (λ (b : Option ℕ). listed_octets attribute_octets
      (placed (type_attribute v.content_type) (optional_attribute binary_attribute b (time_and_digest v)))) (sym e)
      ∙ contents-placed v h

  pub contents-without : v.binary_signing_time ≡ None
      → listed_octets attribute_octets (placed (type_attribute v.content_type) (time_and_digest v))
      ≡ attributes_contents v
  contents-without e = contents-of None e

  pub contents-with : (n : ℕ) → v.binary_signing_time ≡ Some n
      → listed_octets attribute_octets
      (placed (type_attribute v.content_type) (binary_attribute n ∷ time_and_digest v))
      ≡ attributes_contents v
  contents-with n e = contents-of (Some n) e

-- ---- among others

pub placed-has : (P : Attribute → Type 0) (x : Attribute) (xs : List Attribute) → P x → EachHas P xs
    → EachHas P (placed x xs)
placed-has P x [] p h = (p, tt)
placed-has P x (y ∷ ys) p h =
    let rest = placed-has P x ys p h.1 in go rest (comes_before (attribute_octets x) (attribute_octets y))
  where
    go : EachHas P (placed x ys) → (b : Bool) → EachHas P (if b then x ∷ (y ∷ ys) else y ∷ placed x ys)
    go rest true = (p, h)
    go rest false = (h.0, rest)

size-swapped : (a b c d : List ℕ) → length d ≡ length a + length c → length (b ++ d) ≡ length a + length (b ++ c)
size-swapped a b c d e = omega (arith, e, length-append b d, length-append b c)

pub placed-size : (x : Attribute) (xs : List Attribute)
    → length (listed_octets attribute_octets (placed x xs))
    ≡ length (attribute_octets x) + length (listed_octets attribute_octets xs)
placed-size x [] = length-append (attribute_octets x) []
placed-size x (y ∷ ys) =
    let rest = placed-size x ys in go rest (comes_before (attribute_octets x) (attribute_octets y))
  where
    go : length (listed_octets attribute_octets (placed x ys))
        ≡ length (attribute_octets x) + length (listed_octets attribute_octets ys)
        → (b : Bool) → length (listed_octets attribute_octets (if b then x ∷ (y ∷ ys) else y ∷ placed x ys))
        ≡ length (attribute_octets x) + length (listed_octets attribute_octets (y ∷ ys))
    go rest true = length-append (attribute_octets x) (listed_octets attribute_octets (y ∷ ys))
    go rest false =
        size-swapped (attribute_octets x) (attribute_octets y) (listed_octets attribute_octets ys)
        (listed_octets attribute_octets (placed x ys)) rest

-- ---- an attribute that can be written

pub record IsWritable (x : Attribute) : Type 0 where
  pub identifier : IsOid x.0
  pub short : length x.0 ≤ 11
  pub values : IsValueList x.1
  pub few : length x.1 < 2 ^ 31 + 20

pub attribute-few : (x : Attribute) → length x.0 ≤ 11
    → (length (inside x) ≤ length x.1 + 31) × (length (attribute_octets x) ≤ length x.1 + 41)
attribute-few x short =
    let all = length-append (tlv oid false x.0) (tlv set true x.1) in
    let one = tlv_at_most oid false x.0 in
    let two = tlv_at_most set true x.1 in (
      omega (arith, short, all, one, two),
      omega (arith, short, all, one, two, tlv_at_most sequence true (inside x)),
    )

pub attribute-value : (x : Attribute) → IsWritable x → IsValue (attribute_octets x)
attribute-value x h =
    let few = attribute-few x h.short in
    constructed_value sequence (inside x) sequence_legal (omega (arith, few.0, h.few))
    (value_lists_append (tlv oid false x.0) (tlv set true x.1)
    (primitive_value_list oid x.0 oid-legal (omega (arith, h.short)))
    (1, constructed_value set x.1 set_legal (omega (arith, h.few)) h.values))

pub attributes-values : (xs : List Attribute) → EachHas IsWritable xs → IsValueList (listed_octets attribute_octets xs)
attributes-values xs h = listed_values attribute_octets IsWritable (λ x w. (1, attribute-value x w)) xs h

-- ---- each of them

pub type-writable : (id : List ℕ) → CanWriteType id → IsWritable (type_attribute id)
type-writable id h = record {
  identifier = plain-oid content_type refl (lit< tt) (lit< tt);
  short = omega arith;
  values = primitive_value_list oid id oid-legal (omega (arith, h.few));
  few = omega (arith, h.few, tlv_at_most oid false id);
}

pub digest-writable : (d : List ℕ) → length d ≡ 32 → IsWritable (digest_attribute d)
digest-writable d h = record {
  identifier = plain-oid message_digest refl (lit< tt) (lit< tt);
  short = omega arith;
  values = primitive_value_list octet_string d octet_string_legal (omega (arith, h));
  few = omega (arith, digest-size d h);
}

pub time-writable : (t : DateTime) → IsWritable (time_attribute t)
time-writable t =
    let size = time-size t in
    record {
      identifier = plain-oid signing_time refl (lit< tt) (lit< tt);
      short = omega arith;
      values = time_is_value_list t;
      few = omega (arith, size.1);
    }

pub binary-writable : (n : ℕ) → n < 2 ^ 64 → IsWritable (binary_attribute n)
binary-writable n h =
    let size = binary-size n h in
    record {
      identifier = plain-oid binary_signing_time refl (lit< tt) (lit< tt);
      short = omega arith;
      values = primitive_value_list integer (serial_contents n) integer-legal (number-few n);
      few = omega (arith, size);
    }

-- ---- all of them

time-digest-have : (s : Option DateTime) (d : List ℕ) → length d ≡ 32
    → EachHas IsWritable (optional_attribute time_attribute s (digest_attribute d ∷ []))
time-digest-have None d h = (digest-writable d h, tt)
time-digest-have (Some t) d h = (time-writable t, (digest-writable d h, tt))

others-have : (b : Option ℕ) (xs : List Attribute) → IsFewIn b → EachHas IsWritable xs
    → EachHas IsWritable (optional_attribute binary_attribute b xs)
others-have None xs few h = h
others-have (Some n) xs few h = (binary-writable n few, h)

pub written-have : (v : AttributeValues) → CanWriteAttributes v → EachHas IsWritable (written_attributes v)
written-have v h =
    subst (EachHas IsWritable) (sym (written-placed v h))
    (placed-has IsWritable (type_attribute v.content_type) (other_attributes v)
    (type-writable v.content_type h.content_type)
    (others-have v.binary_signing_time _ h.binary (time-digest-have v.signing_time v.message_digest h.digest)))

time-digest-few : (s : Option DateTime) (d : List ℕ) → length d ≡ 32
    → length (listed_octets attribute_octets (optional_attribute time_attribute s (digest_attribute d ∷ []))) ≤ 140
time-digest-few None d h =
    let few = attribute-few (digest_attribute d) (omega arith) in
    omega (arith, few.1, digest-size d h, length-append (attribute_octets (digest_attribute d)) [])
time-digest-few (Some t) d h =
    let last = attribute_octets (digest_attribute d) in
    let few = attribute-few (digest_attribute d) (omega arith) in
    let first = attribute-few (time_attribute t) (omega arith) in
    let size = time-size t in
    omega (
      arith,
      few.1,
      digest-size d h,
      first.1,
      size.1,
      length-append last [],
      length-append (attribute_octets (time_attribute t)) (last ++ []),
    )

others-few : (b : Option ℕ) (xs : List Attribute) → IsFewIn b → length (listed_octets attribute_octets xs) ≤ 140
    → length (listed_octets attribute_octets (optional_attribute binary_attribute b xs)) ≤ 200
others-few None xs few h = omega (arith, h)
others-few (Some n) xs few h =
    let first = attribute-few (binary_attribute n) (omega arith) in
    let size = binary-size n few in
    omega (
      arith,
      h,
      first.1,
      size,
      length-append (attribute_octets (binary_attribute n)) (listed_octets attribute_octets xs),
    )

pub contents-few : (v : AttributeValues) → CanWriteAttributes v
    → length (attributes_contents v) ≤ length v.content_type + 300
contents-few v h =
    let c = type_attribute v.content_type in
    let first = attribute-few c (omega arith) in
    let others = others-few v.binary_signing_time _ h.binary
    (time-digest-few v.signing_time v.message_digest h.digest) in
    let whole = placed-size c (other_attributes v) in
    let same = ap length (contents-placed v h) in
    omega (arith, first.1, tlv_at_most oid false v.content_type, others, whole, same)

pub attributes-few : (v : AttributeValues) → CanWriteAttributes v
    → length (attributes_octets v) ≤ length v.content_type + 310
attributes-few v h =
    let few = contents-few v h in omega (arith, few, tlv_at_most attributes_tag true (attributes_contents v))

pub contents-values : (v : AttributeValues) → CanWriteAttributes v → IsValueList (attributes_contents v)
contents-values v h = attributes-values (written_attributes v) (written-have v h)

pub attributes-value : (v : AttributeValues) → CanWriteAttributes v → IsValue (attributes_octets v)
attributes-value v h =
    let few = contents-few v h in
    constructed_value attributes_tag (attributes_contents v) zero_legal (omega (arith, few, h.content_type.few))
    (contents-values v h)

-- ---- whether they fit

pub attribute-fits : (x : Attribute) → length x.0 ≤ 11 → length x.1 < 2 ^ 31 + 20
    → length (attribute_octets x) < 2 ^ 63
attribute-fits x short few = let all = attribute-few x short in omega (arith, all.1, few)

pub contents-fit : (v : AttributeValues) → CanWriteAttributes v
    → IsTrue true ↔ (IsValueList (attributes_contents v) × (length (attributes_contents v) < 2 ^ 63))
contents-fit v h =
    let few = contents-few v h in
    (λ _. (contents-values v h, omega (arith, few, h.content_type.few)), λ _. refl)

pub attributes-fit : (v : AttributeValues) → CanWriteAttributes v
    → (IsValueList (attributes_contents v) × (length (attributes_contents v) < 2 ^ 32))
    × ((t : TagName) → length (tlv t true (attributes_contents v)) < 2 ^ 63)
attributes-fit v h =
    let few = contents-few v h in (
      (contents-values v h, omega (arith, few, h.content_type.few)),
      λ t. omega (arith, few, h.content_type.few, tlv_at_most t true (attributes_contents v)),
    )
