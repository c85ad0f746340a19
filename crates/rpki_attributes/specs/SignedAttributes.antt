-- Signed attributes (RFC 5652 5.3, 5.4, 11; RFC 6019 2; in the profile of RFC 6488 2.1.6.4 and RFC 9589 4).
use Rattle.std.specs.Prelude.{◌≡◌, ◌⊎◌, ◌||◌, ◌&&◌, ◌^◌, ℕ, Bool, true, not, List, [], ◌∷◌, map, Option, None, Some}
use Rattle.std.specs.Prelude.{IsTrue, if◌then◌else◌, bytes_eq, codes}
use Rattle.std.specs.Option.{is_some}
use Rattle.jiff.specs.Types.{DateTime}
use Rattle.rpki_der.specs.declared.error.DecodeError.{DecodeError}
use Rattle.rpki_der.specs.declared.error.DecodeError.TheVariants.{OutOfMemory}
use Rattle.rpki_der.specs.declared.tag.Class.TheVariants.{Context}
use Rattle.rpki_der.specs.Prelude.{TagName, tag_of, sequence, set, left, Format, around, only, then, each, any_oid}
use Rattle.rpki_der.specs.Prelude.{octets_sized, unsigned_below, SpellsContents, IsContentsFault, SpellsFor, FirstFault}
use Rattle.rpki_time.specs.TimeValue.{time}
use Rattle.rpki.specs.Prelude.{IsContentWith}
use Rattle.rpki_attributes.specs.declared.attribute.AttributeView.{AttributeView}
use Rattle.rpki_attributes.specs.declared.known_attributes.KnownAttributes.{KnownAttributes}
use Rattle.rpki_attributes.specs.declared.signed_attrs.SignedAttrs.{SignedAttrs}

-- ---- an attribute: SEQUENCE { attrType OBJECT IDENTIFIER, attrValues SET OF AttributeValue } (RFC 5652 5.3)

-- the contents octets of its type, and those of the set of its values
abbrev pub Attribute : Type 0
Attribute = List ℕ × List ℕ

abbrev pub attribute_of : AttributeView → Attribute
attribute_of x = (x.attr_type.0.now, left x.values)

abbrev pub attributes_in : List AttributeView → List Attribute
attributes_in xs = map attribute_of xs

-- a SET, by its contents octets
abbrev pub value_set : Format (List ℕ)
value_set = record { spells = SpellsContents set true; fault = IsContentsFault set true }

abbrev pub attribute_parts : Format Attribute
attribute_parts = (then) any_oid (only value_set)

abbrev pub attribute : Format Attribute
attribute = around sequence attribute_parts

-- SignedAttributes, under the implicit tag 0 (RFC 5652 5.3)
abbrev pub attributes_tag : TagName
attributes_tag = tag_of Context 0

abbrev pub each_attribute : Format (List Attribute)
each_attribute = each attribute

abbrev pub attribute_list : Format (List Attribute)
attribute_list = around attributes_tag each_attribute

-- ---- the types of the attributes, by the contents octets of their identifiers

-- 1.2.840.113549.1.9.3 (RFC 5652 11.1)
abbrev pub content_type : List ℕ
content_type = 42 ∷ 134 ∷ 72 ∷ 134 ∷ 247 ∷ 13 ∷ 1 ∷ 9 ∷ 3 ∷ []

-- 1.2.840.113549.1.9.4 (RFC 5652 11.2)
abbrev pub message_digest : List ℕ
message_digest = 42 ∷ 134 ∷ 72 ∷ 134 ∷ 247 ∷ 13 ∷ 1 ∷ 9 ∷ 4 ∷ []

-- 1.2.840.113549.1.9.5 (RFC 5652 11.3)
abbrev pub signing_time : List ℕ
signing_time = 42 ∷ 134 ∷ 72 ∷ 134 ∷ 247 ∷ 13 ∷ 1 ∷ 9 ∷ 5 ∷ []

-- 1.2.840.113549.1.9.16.2.46 (RFC 6019 2)
abbrev pub binary_signing_time : List ℕ
binary_signing_time = 42 ∷ 134 ∷ 72 ∷ 134 ∷ 247 ∷ 13 ∷ 1 ∷ 9 ∷ 16 ∷ 2 ∷ 46 ∷ []

abbrev pub is_known : List ℕ → Bool
is_known id =
    bytes_eq id content_type
    || (bytes_eq id message_digest || (bytes_eq id signing_time || bytes_eq id binary_signing_time))

abbrev pub are_known : List Attribute → Bool
are_known [] = true
are_known (x ∷ xs) = is_known x.0 && are_known xs

-- ---- what attributes say

-- the sets of values, by their contents octets, that the attributes of this type have
abbrev pub values_of : List ℕ → List Attribute → List (List ℕ)
values_of id [] = []
values_of id (x ∷ xs) = if bytes_eq x.0 id then x.1 ∷ values_of id xs else values_of id xs

-- there is one attribute of the type, of one value, which spells v
abbrev pub IsOnce : {V : Type 0} → Format V → List (List ℕ) → V → Type 0
IsOnce F [] v = ⊥
IsOnce F (c ∷ []) v = F.spells v c
IsOnce F (c ∷ d ∷ ds) v = ⊥

-- there is none; or one, as above
abbrev pub IsAtMostOnce : {V : Type 0} → Format V → List (List ℕ) → Option V → Type 0
IsAtMostOnce F cs None = cs ≡ []
IsAtMostOnce F cs (Some v) = IsOnce F cs v

-- the digest by SHA-256 (RFC 5652 11.2, RFC 7935 2)
abbrev pub digest_value : Format (List ℕ)
digest_value = octets_sized 32

-- seconds since 1970, as far as they are counted (RFC 6019 2)
abbrev pub binary_time : Format ℕ
binary_time = unsigned_below (2 ^ 64)

-- the type of the content, and its digest; when they were signed, where that is said
pub record AttributeValues : Type 0 where
  pub content_type : List ℕ
  pub message_digest : List ℕ
  pub signing_time : Option DateTime
  pub binary_signing_time : Option ℕ

-- where RFC 9589 4 is asked for, the signing time is there, and the binary signing time is not
abbrev pub is_timed : Bool → Bool → Bool → Bool
is_timed strict has_time has_binary = not strict || (has_time && not has_binary)

-- The content type and the message digest once each, the signing time and the binary signing time at most once, and no
-- other attribute; each has one value (RFC 6488 2.1.6.4).
pub record AreSigned (strict : Bool) (xs : List Attribute) (v : AttributeValues) : Type 0 where
  pub known : IsTrue (are_known xs)
  pub content_type : IsOnce any_oid (values_of content_type xs) v.content_type
  pub message_digest : IsOnce digest_value (values_of message_digest xs) v.message_digest
  pub signing_time : IsAtMostOnce time (values_of signing_time xs) v.signing_time
  pub binary_signing_time : IsAtMostOnce binary_time (values_of binary_signing_time xs) v.binary_signing_time
  pub timed : IsTrue (is_timed strict (is_some v.signing_time) (is_some v.binary_signing_time))

abbrev pub values_known : KnownAttributes → AttributeValues
values_known x = record {
  content_type = x.content_type.0.now;
  message_digest = x.message_digest;
  signing_time = x.signing_time;
  binary_signing_time = x.binary_signing_time;
}

-- ---- the attributes of a signer

-- what is signed, and what the attributes say
pub record AttributesParts : Type 0 where
  pub message : List ℕ
  pub values : AttributeValues

abbrev pub attributes_of : SignedAttrs → AttributesParts
attributes_of x = record {
  message = x.message;
  values = record {
    content_type = x.content_type.0;
    message_digest = x.message_digest;
    signing_time = x.signing_time;
    binary_signing_time = x.binary_signing_time;
  };
}

-- What is signed: the octets of the attributes as they came, but after the tag of a SET, 31, in place of the implicit
-- tag, A0 (RFC 5652 5.4).
abbrev pub message_of : List ℕ → List ℕ
message_of [] = []
message_of (x ∷ xs) = 49 ∷ xs

-- a value of F, and its octets as they came
abbrev pub with_octets : {V : Type 0} → Format V → Format (List ℕ × V)
with_octets F = record { spells = λ x p. (x.0 ≡ p) × F.spells x.1 p; fault = F.fault }

pub record SayAll (strict : Bool) (v : AttributesParts) (x : List ℕ × List Attribute) : Type 0 where
  pub message : v.message ≡ message_of x.0
  pub values : AreSigned strict x.1 v.values

-- they aren't such attributes; or there is no memory to keep them
abbrev pub AreOthers : Bool → List ℕ × List Attribute → List ℕ → DecodeError → Type 0
AreOthers strict x r e =
    (((v : AttributesParts) → SayAll strict v x → ⊥)
    × IsContentWith (codes "signed attributes that no signed object has") e)
    ⊎ (((v : AttributesParts) × SayAll strict v x) × (e ≡ OutOfMemory))

abbrev pub signed_attributes : Bool → Format AttributesParts
signed_attributes strict = record {
  spells = SpellsFor (with_octets attribute_list).spells (SayAll strict);
  fault = FirstFault (with_octets attribute_list).spells (with_octets attribute_list).fault (AreOthers strict);
}

-- ---- readers that find something

-- Some is the one value that R holds of; None says that it holds of none
abbrev pub FindsOne : {X V : Type 0} → (X → V) → (V → Type 0) → Option X → Type 0
FindsOne {X} {V} view R (Some x) = R (view x) × ((v : V) → R v → v ≡ view x)
FindsOne {X} {V} view R None = (v : V) → R v → ⊥
