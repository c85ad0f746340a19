-- What is written of signed attributes (RFC 5652 5.3, 5.4, in the profile of RFC 6488 2.1.6.4): a SET OF, in DER.
use Rattle.std.specs.Prelude.{◌≡◌, ◌<◌, ◌^◌, ◌&&◌, ◌||◌, ℕ, Bool, true, false, List, [], ◌∷◌, ◌++◌, length, nat_eq}
use Rattle.std.specs.Prelude.{nat_lt}
use Rattle.std.specs.Prelude.{Option, None, Some, IsTrue, if◌then◌else◌}
use Rattle.std.specs.Option.{is_some}
use Rattle.jiff.specs.Types.{DateTime}
use Rattle.rpki_der.specs.Prelude.{sequence, set, oid, octet_string, tlv, IsOid}
use Rattle.rpki_time.specs.Time.{cut, IsTimeYear}
use Rattle.rpki_time.specs.Serial.{serial_octets}
use Rattle.rpki_time.specs.TimeValue.{time_octets}
use Rattle.rpki_der.specs.Listed.{listed_octets}
use Rattle.rpki_attributes.specs.SignedAttributes.{Attribute, AttributeValues, AttributesParts, attributes_tag}
use Rattle.rpki_attributes.specs.SignedAttributes.{is_timed}
use Rattle.rpki_attributes.specs.SignedAttributes.{content_type, message_digest, signing_time, binary_signing_time}
use Rattle.rpki_attributes.specs.SignedAttributes.{signed_attributes}

-- ---- an attribute: its type, and the set of its values

abbrev pub attribute_octets : Attribute → List ℕ
attribute_octets x = tlv sequence true (tlv oid false x.0 ++ tlv set true x.1)

-- the attributes of one value each
abbrev pub type_attribute : List ℕ → Attribute
type_attribute id = (content_type, tlv oid false id)

abbrev pub digest_attribute : List ℕ → Attribute
digest_attribute digest = (message_digest, tlv octet_string false digest)

abbrev pub time_attribute : DateTime → Attribute
time_attribute t = (signing_time, time_octets t)

abbrev pub binary_attribute : ℕ → Attribute
binary_attribute n = (binary_signing_time, serial_octets n)

-- ---- the order of a SET OF: ascending by the encodings (X.690 11.6)

-- one octet string is not above another: the first octet that differs decides, and the shorter is filled up with zeros
abbrev pub comes_before : List ℕ → List ℕ → Bool
comes_before [] ys = true
comes_before (x ∷ xs) [] = nat_eq x 0 && comes_before xs []
comes_before (x ∷ xs) (y ∷ ys) = nat_lt x y || (nat_eq x y && comes_before xs ys)

-- an attribute among others that are in order
abbrev pub placed : Attribute → List Attribute → List Attribute
placed x [] = x ∷ []
placed x (y ∷ ys) =
    if comes_before (attribute_octets x) (attribute_octets y) then x ∷ (y ∷ ys) else y ∷ placed x ys

abbrev pub in_order : List Attribute → List Attribute
in_order [] = []
in_order (x ∷ xs) = placed x (in_order xs)

-- an attribute that may be left out, and others
abbrev pub optional_attribute : {V : Type 0} → (V → Attribute) → Option V → List Attribute → List Attribute
optional_attribute f None xs = xs
optional_attribute f (Some v) xs = f v ∷ xs

-- the attributes beside the content type
abbrev pub digest_alone : AttributeValues → List Attribute
digest_alone v = digest_attribute v.message_digest ∷ []

abbrev pub time_and_digest : AttributeValues → List Attribute
time_and_digest v = optional_attribute time_attribute v.signing_time (digest_alone v)

abbrev pub other_attributes : AttributeValues → List Attribute
other_attributes v = optional_attribute binary_attribute v.binary_signing_time (time_and_digest v)

abbrev pub written_attributes : AttributeValues → List Attribute
written_attributes v = in_order (type_attribute v.content_type ∷ other_attributes v)

-- these attributes, and the content type among them where it is asked for
abbrev pub placed_where : Bool → AttributeValues → List Attribute → List Attribute
placed_where true v xs = placed (type_attribute v.content_type) xs
placed_where false v xs = xs

abbrev pub attributes_contents : AttributeValues → List ℕ
attributes_contents v = listed_octets attribute_octets (written_attributes v)

-- as they are in the object, under the implicit tag 0 (RFC 5652 5.3)
abbrev pub attributes_octets : AttributeValues → List ℕ
attributes_octets v = tlv attributes_tag true (attributes_contents v)

-- as they are signed, under the tag of a SET (RFC 5652 5.4)
abbrev pub message_octets : AttributeValues → List ℕ
message_octets v = tlv set true (attributes_contents v)

-- ---- which can be written

-- an object identifier of fewer than 2^31 octets
pub record CanWriteType (id : List ℕ) : Type 0 where
  pub identifier : IsOid id
  pub few : length id < 2 ^ 31

abbrev pub IsYearIn : Option DateTime → Type 0
IsYearIn None = Unit {0}
IsYearIn (Some t) = IsTimeYear t.date.year

abbrev pub IsFewIn : Option ℕ → Type 0
IsFewIn None = Unit {0}
IsFewIn (Some n) = n < 2 ^ 64

-- the same, with what the types of the others say of them
pub record CanWriteAttributes (v : AttributeValues) : Type 0 where
  pub content_type : CanWriteType v.content_type
  pub digest : length v.message_digest ≡ 32
  pub time : IsYearIn v.signing_time
  pub binary : IsFewIn v.binary_signing_time

-- ---- what is read of it: times without parts of a second

abbrev pub normal_time : Option DateTime → Option DateTime
normal_time None = None
normal_time (Some t) = Some (cut t)

abbrev pub normal_values : AttributeValues → AttributeValues
normal_values v = record {
  content_type = v.content_type;
  message_digest = v.message_digest;
  signing_time = normal_time v.signing_time;
  binary_signing_time = v.binary_signing_time;
}

abbrev pub normal_attributes : AttributeValues → AttributesParts
normal_attributes v = record { message = message_octets v; values = normal_values v }

-- the times that are there are those of RFC 9589 4, where that is asked for
abbrev pub IsTimed : Bool → AttributeValues → Type 0
IsTimed strict v = IsTrue (is_timed strict (is_some v.signing_time) (is_some v.binary_signing_time))

abbrev pub AreReadBack : AttributeValues → Type 0
AreReadBack v = (strict : Bool) → IsTimed strict v
    → (signed_attributes strict).spells (normal_attributes v) (attributes_octets v)
