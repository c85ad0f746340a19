-- The octets of an algorithm identifier are its one spelling, and one value.
use Rattle.std.specs.Prelude.{◌≡◌, ℕ, Bool, true, false, ◌<◌, ◌≤◌, ◌^◌, List, [], ◌∷◌, ◌++◌, length, refl}
use Rattle.std.proofs.Common.{sym, ap, subst, ◌∙◌, arith, length-append}
use Rattle.rpki_der.specs.Prelude.{IsTag, oid, null, sequence, tlv, SpellsLeaf, IsNull, IsOnly, IsValue, IsValueList}
use Rattle.rpki_der.specs.Prelude.{primitive_value_list, no_value_list, value_lists_append, constructed_value}
use Rattle.rpki_der.proofs.EncodeLaws.{leaf-legal, tlv_at_most, tlv-some, tlv-same}
use Rattle.rpki.specs.Algorithm.{IsParameters, IsIdentified, SpellsAlgorithm}
use Rattle.rpki.specs.AlgorithmOctets.{parameters_octets, identified_octets, algorithm_octets}

-- ---- each spelling is this one

leaf-only : (o p : List ℕ) → SpellsLeaf oid false (IsOnly o) tt p → p ≡ tlv oid false o
leaf-only o p h = h.value.octets ∙ ap (λ (c : List ℕ). tlv oid false c) h.spelled

null-only : (p : List ℕ) → SpellsLeaf null false IsNull tt p → p ≡ tlv null false []
null-only p h = h.value.octets ∙ ap (λ (c : List ℕ). tlv null false c) h.spelled

parameters-are : (present : Bool) (p : List ℕ) → IsParameters present p → p ≡ parameters_octets present
parameters-are true p h = null-only p h
parameters-are false p h = h

pub algorithm-is : (o : List ℕ) (present : Bool) (s : List ℕ) → SpellsAlgorithm o present s
    → s ≡ algorithm_octets o present
algorithm-is o present s h =
    let i = h.spelled in
    let inside : h.contents ≡ identified_octets o present =
    i.parts ∙ ap (λ (p : List ℕ). p ++ i.second) (leaf-only o i.first i.identifier)
    ∙ ap (λ (p : List ℕ). tlv oid false o ++ p) (parameters-are present i.second i.parameters) in
    h.value.octets ∙ ap (λ (c : List ℕ). tlv sequence true c) inside

-- ---- and it is one

pub oid-legal : IsTag oid
oid-legal = record { below = omega arith; named = λ u. omega arith }

pub null-legal : IsTag null
null-legal = record { below = omega arith; named = λ u. omega arith }

pub sequence-legal : IsTag sequence
sequence-legal = record { below = omega arith; named = λ u. omega arith }

parameters-spelled : (present : Bool) → IsParameters present (parameters_octets present)
parameters-spelled true = leaf-legal null false IsNull tt [] null-legal (omega arith) refl
parameters-spelled false = refl

pub parameters-short : (present : Bool) → length (parameters_octets present) ≤ 10
parameters-short true = tlv_at_most null false []
parameters-short false = omega arith

pub identified-short : (o : List ℕ) (present : Bool) → length o < 2 ^ 31 → length (identified_octets o present) < 2 ^ 32
identified-short o present short = omega (
  arith,
  length-append (tlv oid false o)
      (parameters_octets present),
  tlv_at_most oid false o,
  parameters-short present,
)

pub algorithm-spelled : (o : List ℕ) (present : Bool) → length o < 2 ^ 31
    → SpellsAlgorithm o present (algorithm_octets o present)
algorithm-spelled o present short =
    leaf-legal sequence true (IsIdentified o) present (identified_octets o present) sequence-legal
    (identified-short o present short) (record {
      first = tlv oid false o;
      second = parameters_octets present;
      parts = refl;
      identifier = leaf-legal oid false (IsOnly o) tt o oid-legal (omega arith) refl;
      parameters = parameters-spelled present;
    })

-- ---- it is one value, and says whether the parameters are there

parameters-values : (present : Bool) → IsValueList (parameters_octets present)
parameters-values true = primitive_value_list null [] null-legal (omega arith)
parameters-values false = no_value_list

pub algorithm-value : (o : List ℕ) (present : Bool) (s : List ℕ) → length o < 2 ^ 31 → SpellsAlgorithm o present s
    → IsValue s
algorithm-value o present s short h =
    subst IsValue (sym (algorithm-is o present s h))
    (constructed_value sequence (identified_octets o present) sequence-legal (identified-short o present short)
    (value_lists_append (tlv oid false o) (parameters_octets present)
    (primitive_value_list oid o oid-legal (omega arith)) (parameters-values present)))

parameters-one : (p q : Bool) → parameters_octets p ≡ parameters_octets q → p ≡ q
parameters-one true true e = refl
parameters-one true false e = absurd (tlv-some null false [] e)
parameters-one false true e = absurd (tlv-some null false [] (sym e))
parameters-one false false e = refl

following : (a b c : List ℕ) → a ++ b ≡ a ++ c → b ≡ c
following [] b c e = e
following (x ∷ a) b c e = following a b c (cc)

pub algorithm-one : (o : List ℕ) (p q : Bool) (s : List ℕ) → length o < 2 ^ 31 → SpellsAlgorithm o p s
    → SpellsAlgorithm o q s → p ≡ q
algorithm-one o p q s short h k =
    let e : algorithm_octets o p ≡ algorithm_octets o q = sym (algorithm-is o p s h) ∙ algorithm-is o q s k in
    let inside = tlv-same sequence true (identified_octets o p) (identified_octets o q) (identified-short o p short)
    (identified-short o q short) e in
    parameters-one p q (following (tlv oid false o) (parameters_octets p) (parameters_octets q) inside)
