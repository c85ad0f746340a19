-- Signed attributes that are read in place: what is where (RFC 5652 5.3).
use Rattle.std.specs.Prelude.{◌≡◌, ℕ, Bool, List, Option, None, Some}
use Rattle.rpki_der.specs.Prelude.{Accepts, Refuses}
use Rattle.rpki_der.specs.Section.{IsSection}
use Rattle.rpki_attributes.specs.declared.signed_attrs_view.SignedAttrsView.{SignedAttrsView}
use Rattle.rpki_attributes.specs.SignedAttributes.{Attribute, AttributeValues, AttributesParts, AreSigned}
use Rattle.rpki_attributes.specs.SignedAttributes.{each_attribute}
use Rattle.rpki_attributes.specs.SignedAttributes.{message_of, signed_attributes, values_known}

-- these octets are attributes, which say this together
pub record AreTogether (strict : Bool) (v : AttributeValues) (c : List ℕ) : Type 0 where
  pub attributes : List Attribute
  pub each : each_attribute.spells attributes c
  pub say : AreSigned strict attributes v

-- these octets are attributes, and are no others
abbrev pub AreOnly : List ℕ → Type 0
AreOnly c =
    (xs : List Attribute) × each_attribute.spells xs c × ((ys : List Attribute) → each_attribute.spells ys c → ys ≡ xs)

-- the attributes, whose octets are p, are in front of these octets; what is signed is made of their section
pub record AreAttributesAt (x : AttributesParts) (p behind : List ℕ) (v : SignedAttrsView) : Type 0 where
  pub section : IsSection v.octets p behind
  pub message : x.message ≡ message_of v.octets.octets.now
  pub values : values_known v.values ≡ x.values

-- a reader of the attributes found s and left r: Some is their section and what they say; None says that there are none
abbrev pub TakesAttributes : Bool → List ℕ → List ℕ → Option SignedAttrsView → Type 0
TakesAttributes strict s r (Some v) =
    (x : AttributesParts) × (a : Accepts (signed_attributes strict).spells s x r)
    × AreAttributesAt x a.spells.front r v
TakesAttributes strict s r None = Refuses (signed_attributes strict).spells s
