-- Attestations of providers that are written: how short they are, and that they are read back.
use Rattle.std.proofs.Common.{◌≡◌, ◌<◌, ◌≤◌, ◌+◌, ◌^◌, ◌↔◌, ℕ, suc, true, false, List, [], ◌∷◌, ◌++◌, length}
use Rattle.std.proofs.Common.{length-append}
use Rattle.std.proofs.Common.{refl, ap, subst, arith, lit<, IsTrue}
use Rattle.rpki_der.specs.Prelude.{integer, sequence, tlv, AreValues, IsValueList, IsNumber, IsUnsignedBelow}
use Rattle.rpki_der.specs.Prelude.{values_append, no_values, primitive_value, sequence_legal, SpellsLeaf}
use Rattle.rpki_der.specs.Prelude.{TagName, IsUnsigned}
use Rattle.rpki_der.specs.Number.{low_octets}
use Rattle.rpki_der.proofs.EncodeLaws.{tlv_at_most, tlv-at-least, leaf-legal}
use Rattle.rpki_resources.specs.Encoded.{as_contents, as_number_octets}
use Rattle.rpki_resources.proofs.BlockWritingLaws.{as-few, integer-legal}
use Rattle.rpki_resources.proofs.NumberOctetsLaws.{as-unsigned}
use Rattle.rpki_contents.specs.Aspa.{version_tag, version, as_number, each_number, fields, fields_of, AspaParts}
use Rattle.rpki_contents.specs.Aspa.{AreNumbers, IsAttestation, aspa}
use Rattle.rpki_contents.specs.EncodedAspa.{numbers_octets, version_contents, version_octets, providers_octets}
use Rattle.rpki_contents.specs.EncodedAspa.{aspa_contents, aspa_octets, IsShortAspa}
use Rattle.rpki_contents.specs.EncodedAspaLaws.{version_legal}

pub number-few : (n : ℕ) → length (as_number_octets n) ≤ 100
number-few n = omega (arith, as-few n, tlv_at_most integer false (as_contents n))

pub contents-few : (n : ℕ) → length (as_contents n) < 2 ^ 32
contents-few n = omega (arith, as-few n)

-- ---- numbers, in sequence

pub numbers-values : (ns : List ℕ) → AreValues (length ns) (numbers_octets ns)
numbers-values [] = no_values
numbers-values (n ∷ ns) =
    let more : 1 + length ns ≡ suc (length ns) = omega arith in
    subst (λ (k : ℕ). AreValues k (numbers_octets (n ∷ ns))) more
    (values_append 1 (length ns) (as_number_octets n) (numbers_octets ns)
    (primitive_value integer (as_contents n) integer-legal (contents-few n)) (numbers-values ns))

pub value-list : (ns : List ℕ) → IsValueList (numbers_octets ns)
value-list ns = (length ns, numbers-values ns)

pub fits-yes : (ns : List ℕ) → length (numbers_octets ns) < 2 ^ 63
    → IsTrue true ↔ (IsValueList (numbers_octets ns) × (length (numbers_octets ns) < 2 ^ 63))
fits-yes ns few = (λ _. (value-list ns, few), λ _. refl)

pub fits-no : (ns : List ℕ) → 2 ^ 63 ≤ length (numbers_octets ns)
    → IsTrue false ↔ (IsValueList (numbers_octets ns) × (length (numbers_octets ns) < 2 ^ 63))
fits-no ns many = (
  λ z. let none : ⊥ = cc in absurd none,
  λ h. let none : ⊥ = omega (arith, many, h.1) in absurd none,
)

pub first-octets : (rest ns : List ℕ) (n : ℕ) → rest ≡ n ∷ ns
    → numbers_octets rest ≡ as_number_octets n ++ numbers_octets ns
first-octets rest ns n is = ap numbers_octets is

-- ---- they are read back

pub number-back : (n : ℕ) → n < 2 ^ 32 → as_number.spells n (as_number_octets n)
number-back n small =
    leaf-legal integer false (IsUnsignedBelow (2 ^ 32)) n (as_contents n) integer-legal (contents-few n)
    (record { below = small; contents = as-unsigned n small })

numbers-back : (ns : List ℕ) → AreNumbers ns → each_number.spells ns (numbers_octets ns)
numbers-back [] h = refl
numbers-back (n ∷ ns) h = (
  numbers_octets ns,
  record { front = as_number_octets n; parts = refl; spelled = number-back n h.0 },
  numbers-back ns h.1,
)

-- ---- the whole

version-few : length version_contents < 2 ^ 32
version-few = omega arith

tag-few : (t : TagName) → length (tlv t false version_contents) < 2 ^ 32
tag-few t = omega (arith, tlv_at_most t false version_contents)

-- the version and the customer are short, and a length that announces all announces the providers
pub aspa-short : (x : AspaParts) (t : TagName) (n : ℕ) (ns all : List ℕ) → ns ≡ x.providers → all ≡ aspa_contents x
    → (((((length version_contents < 2 ^ 32) × (length (tlv t false version_contents) < 2 ^ 32))
    × (length (as_contents n) < 2 ^ 32) × (IsValueList (numbers_octets ns) × (length (numbers_octets ns) < 2 ^ 32)))
    × (length all < 2 ^ 32)) ↔ IsShortAspa x)
aspa-short x t n ns all same whole =
    let listed = tlv-at-least sequence true (numbers_octets x.providers) in
    let behind = length-append (as_number_octets x.customer) (providers_octets x.providers) in
    let sizes = length-append version_octets (as_number_octets x.customer ++ providers_octets x.providers) in
    let is : length all ≡ length (aspa_contents x) = ap length whole in
    let few : length (numbers_octets ns) ≡ length (numbers_octets x.providers) =
    ap (λ (ms : List ℕ). length (numbers_octets ms)) same in (
      λ h. let k = h.1 in omega (arith, is, k),
      λ h. (
        ((version-few, tag-few t), contents-few n, (value-list ns, omega (arith, listed, behind, sizes, few, h))),
        omega (arith, is, h),
      ),
    )

version-unsigned : IsUnsigned 1 version_contents
unfolding low_octets
version-unsigned = as-unsigned 1 (lit< tt)

version-back : version.spells tt version_octets
version-back =
    leaf-legal version_tag true (SpellsLeaf integer false (IsNumber 1)) tt (tlv integer false version_contents)
    version_legal (tag-few integer)
    (leaf-legal integer false (IsNumber 1) tt version_contents integer-legal version-few version-unsigned)

pub aspa-back : (x : AspaParts) → IsAttestation x → IsShortAspa x → aspa.spells x (aspa_octets x)
aspa-back x h few =
    let listed = tlv-at-least sequence true (numbers_octets x.providers) in
    let behind = length-append (as_number_octets x.customer) (providers_octets x.providers) in
    let sizes = length-append version_octets (as_number_octets x.customer ++ providers_octets x.providers) in
    record {
      value = fields_of x;
      spelled = leaf-legal sequence true fields.spells (fields_of x) (aspa_contents x) sequence_legal few
          (record {
            first = version_octets;
            second = as_number_octets x.customer ++ providers_octets x.providers;
            parts = refl;
            one = version-back;
            two = record {
              first = as_number_octets x.customer;
              second = providers_octets x.providers;
              parts = refl;
              one = number-back x.customer h.customer;
              two = leaf-legal sequence true each_number.spells x.providers (numbers_octets x.providers) sequence_legal
                  (omega (arith, listed, behind, sizes, few)) (numbers-back x.providers h.numbers);
            };
          });
      stands = record { same = refl; providers = h.providers };
    }
