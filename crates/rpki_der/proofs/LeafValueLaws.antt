-- What grammars of leaves and of composed values spell is one value, and takes octets.
use Rattle.std.proofs.Common.{◌≡◌, ◌≤◌, ◌<◌, ℕ, Bool, true, false, List, [], length, sym, ap, subst, arith}
use Rattle.std.proofs.Common.{length-append}
use Rattle.rpki_der.specs.TagName.{TagName}
use Rattle.rpki_der.specs.Reading.{Spells}
use Rattle.rpki_der.specs.Values.{SpellsContents, SpellsLeaf}
use Rattle.rpki_der.specs.Members.{IsValue, IsValueList}
use Rattle.rpki_der.specs.ValueListLaws.{primitive_value, constructed_value}
use Rattle.rpki_der.proofs.EncodeLaws.{tlv-at-least}

-- a primitive one
pub leaf-value-alone : {V : Type 0} (t : TagName) (C : V → List ℕ → Type 0) (v : V) (p : List ℕ)
    → SpellsLeaf t false C v p → IsValue p
leaf-value-alone t C v p h = subst IsValue (sym h.value.octets) (primitive_value t h.contents h.value.tag h.value.fits)

-- a constructed one, whose contents are values
pub composed-value-alone : {V : Type 0} (t : TagName) (C : V → List ℕ → Type 0) (v : V) (p : List ℕ)
    → ((c : List ℕ) → C v c → IsValueList c) → SpellsLeaf t true C v p → IsValue p
composed-value-alone t C v p inside h =
    subst IsValue (sym h.value.octets) (constructed_value t h.contents h.value.tag h.value.fits
    (inside h.contents h.spelled))

-- ---- a value takes octets

pub leaf-some : {V : Type 0} (t : TagName) (f : Bool) (C : V → List ℕ → Type 0) (v : V) (p : List ℕ)
    → SpellsLeaf t f C v p → 2 ≤ length p
leaf-some t f C v p h = omega (arith, ap length h.value.octets, tlv-at-least t f h.contents)

pub leaf-shorter : {V : Type 0} (t : TagName) (f : Bool) (C : V → List ℕ → Type 0) (s : List ℕ) (v : V) (r : List ℕ)
    → Spells (SpellsLeaf t f C) s v r → length r < length s
leaf-shorter t f C s v r h =
    omega (arith, leaf-some t f C v h.front h.spelled, ap length h.parts, length-append h.front r)

pub contents-shorter : (t : TagName) (f : Bool) (s c r : List ℕ) → Spells (SpellsContents t f) s c r
    → length r < length s
contents-shorter t f s c r h =
    omega (arith, ap length h.spelled.octets, tlv-at-least t f c, ap length h.parts, length-append h.front r)

pub leaf-nowhere : {V : Type 0} (t : TagName) (f : Bool) (C : V → List ℕ → Type 0) (s : List ℕ) (v : V) (r : List ℕ)
    → s ≡ [] → Spells (SpellsLeaf t f C) s v r → ⊥
leaf-nowhere t f C s v r e h = omega (arith, leaf-shorter t f C s v r h, ap length e)
