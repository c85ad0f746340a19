-- Values by their header, and the first error of a reader of one.
use Rattle.std.specs.Prelude.{◌≡◌, ℕ, Bool, false, ◌<◌, ◌^◌, ◌⊎◌, List, length, Result, Option}
use Rattle.rpki_der.specs.declared.error.DecodeError.{DecodeError}
use Rattle.rpki_der.specs.declared.error.DecodeError.TheVariants.{Truncated, BadTag, BadLength, Unexpected, Content}
use Rattle.rpki_der.specs.declared.error.DecodeError.TheVariants.{Trailing, OutOfMemory}
use Rattle.rpki_der.specs.declared.tag.Header.{Header}
use Rattle.rpki_der.specs.TagName.{TagName, IsTag}
use Rattle.rpki_der.specs.Header.{identifier_octets, header_octets, IsHeader, tlv}
use Rattle.rpki_der.specs.Reading.{Spells, Refuses, IsCut, Reads, ReadsWhere, TakesNoMemory}

-- identifier octets
pub record SpellsIdentifier (i : TagName × Bool) (p : List ℕ) : Type 0 where
  pub legal : IsTag i.0
  pub octets : p ≡ identifier_octets i.0 i.1

-- a header
pub record SpellsHeader (h : Header) (p : List ℕ) : Type 0 where
  pub legal : IsHeader h
  pub octets : p ≡ header_octets h

-- a value of this tag and form, with any contents
pub record SpellsContents (t : TagName) (f : Bool) (contents p : List ℕ) : Type 0 where
  pub tag : IsTag t
  pub fits : length contents < 2 ^ 32
  pub octets : p ≡ tlv t f contents

-- a value of this tag and form, whose contents spell v
pub record SpellsLeaf {V : Type 0} (t : TagName) (f : Bool) (C : V → List ℕ → Type 0) (v : V)
    (p : List ℕ) : Type 0 where
  pub contents : List ℕ
  pub value : SpellsContents t f contents p
  pub spelled : C v contents

-- s begins with the identifier octets of the tag, in one form or the other
abbrev pub HasTag : TagName → List ℕ → Type 0
HasTag t s = (f : Bool) × (r : List ℕ) × Spells SpellsIdentifier s (t, f) r

-- s begins with identifier octets
abbrev pub HasIdentifier : List ℕ → Type 0
HasIdentifier s = (i : TagName × Bool) × (r : List ℕ) × Spells SpellsIdentifier s i r

-- The fault of a list that no header begins: Truncated if it is a proper beginning of one; BadTag if no identifier
-- octets begin it and it begins none; else BadLength.
abbrev pub IsHeaderFault : List ℕ → DecodeError → Type 0
IsHeaderFault s Truncated = IsCut SpellsHeader s
IsHeaderFault s BadTag = (HasIdentifier s → ⊥) × (IsCut SpellsIdentifier s → ⊥)
IsHeaderFault s BadLength = HasIdentifier s × Refuses SpellsHeader s × (IsCut SpellsHeader s → ⊥)
IsHeaderFault s Unexpected = ⊥
IsHeaderFault s (Content e) = ⊥
IsHeaderFault s Trailing = ⊥
IsHeaderFault s OutOfMemory = ⊥

-- The first fault of a reader of values whose header has to be as W says, and of which Cut says that they are cut
-- short: that of the header; then another header; then contents that are longer than the rest.
abbrev pub IsValueFault : (Header → Type 0) → (List ℕ → Type 0) → List ℕ → DecodeError → Type 0
IsValueFault W Cut s Truncated = IsCut SpellsHeader s ⊎ Cut s
IsValueFault W Cut s BadTag = IsHeaderFault s BadTag
IsValueFault W Cut s BadLength = IsHeaderFault s BadLength
IsValueFault W Cut s Unexpected = (h : Header) × (r : List ℕ) × Spells SpellsHeader s h r × (W h → ⊥)
IsValueFault W Cut s (Content e) = ⊥
IsValueFault W Cut s Trailing = ⊥
IsValueFault W Cut s OutOfMemory = ⊥

-- the same of a reader of values of one tag and form
abbrev pub IsContentsFault : TagName → Bool → List ℕ → DecodeError → Type 0
IsContentsFault t f = IsValueFault (λ h. (h.tag ≡ t) × (h.constructed ≡ f)) (IsCut (SpellsContents t f))

-- The same of a leaf; and then contents that spell nothing.
abbrev pub IsLeafFault : {V : Type 0} → TagName → Bool → (V → List ℕ → Type 0) → List ℕ → DecodeError → Type 0
IsLeafFault t f C s Truncated = IsContentsFault t f s Truncated
IsLeafFault t f C s BadTag = IsContentsFault t f s BadTag
IsLeafFault t f C s BadLength = IsContentsFault t f s BadLength
IsLeafFault t f C s Unexpected = IsContentsFault t f s Unexpected
IsLeafFault {V} t f C s (Content e) =
    (c : List ℕ) × (r : List ℕ) × Spells (SpellsContents t f) s c r × ((v : V) → C v c → ⊥)
IsLeafFault t f C s Trailing = ⊥
IsLeafFault t f C s OutOfMemory = ⊥

-- A reader of a primitive value of the tag, whose contents C spells, found s and left r.
abbrev pub ReadsLeaf : {X V : Type 0} → (X → V) → TagName → (V → List ℕ → Type 0) → List ℕ → List ℕ
    → Result X DecodeError → Type 0
ReadsLeaf view t C = Reads view (SpellsLeaf t false C) (IsLeafFault t false C)

-- The same for an optional reader, which returns None exactly where s does not begin with the tag.
abbrev pub ReadsLeafWhere : {X V : Type 0} → (X → V) → TagName → (V → List ℕ → Type 0) → List ℕ → List ℕ
    → Result (Option X) DecodeError → Type 0
ReadsLeafWhere view t C = ReadsWhere (HasTag t) view (SpellsLeaf t false C) (IsLeafFault t false C)

-- A composed reader of one value gives exactly the fault of that value where there is none; elsewhere any kind.
abbrev pub GivesOuterFault : TagName → Bool → List ℕ → DecodeError → Type 0
GivesOuterFault t f s e = Refuses (SpellsContents t f) s → IsContentsFault t f s e

-- The same, and never allocation failure.
abbrev pub IsOuterFault : TagName → Bool → List ℕ → DecodeError → Type 0
IsOuterFault t f = TakesNoMemory (GivesOuterFault t f)
