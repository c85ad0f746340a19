-- Route origin attestations that are written: how short they are, and that they are read back.
use Rattle.std.proofs.Common.{◌≡◌, ◌≢◌, ◌<◌, ◌≤◌, ◌+◌, ◌^◌, ◌↔◌, ℕ, suc, Bool, true, false, List, [], ◌∷◌, ◌++◌, length}
use Rattle.std.proofs.Common.{Option, None, Some, length-append, append-nil, refl, sym, ap, subst, arith, lit<, IsTrue}
use Rattle.rpki_der.specs.Prelude.{integer, bit_string, octet_string, sequence, tlv, AreValues, IsValueList}
use Rattle.rpki_der.specs.Prelude.{IsUnsignedBelow, values_append, no_values, no_value_list, primitive_value_list}
use Rattle.rpki_der.specs.Prelude.{constructed_value, value_lists_append, sequence_legal, octet_string_legal}
use Rattle.rpki_der.specs.Prelude.{optional_then, end}
use Rattle.rpki_der.proofs.EncodeLaws.{tlv_at_most, tlv-at-least, leaf-legal}
use Rattle.rpki_resources.specs.declared.family.AddressFamily.{AddressFamily}
use Rattle.rpki_resources.specs.declared.family.AddressFamily.TheVariants.{Ipv4, Ipv6}
use Rattle.rpki_resources.specs.Address.{width, family_octets, IsAddress}
use Rattle.rpki_resources.specs.Extension.{IsFamily}
use Rattle.rpki_resources.specs.Encoded.{address_contents, address_octets, as_contents, as_number_octets}
use Rattle.rpki_resources.proofs.AddressLaws.{width-most}
use Rattle.rpki_resources.proofs.AddressWritingLaws.{address-few, address-spelled}
use Rattle.rpki_resources.proofs.BlockWritingLaws.{as-few, bits-legal, integer-legal}
use Rattle.rpki_resources.proofs.NumberOctetsLaws.{as-unsigned}
use Rattle.rpki_contents.specs.declared.roa_address.RoaIpAddress.{RoaIpAddress}
use Rattle.rpki_contents.specs.RoaAddress.{IsMaxLength, IsAddressIn, AreAddressesIn, max_length, parts_of}
use Rattle.rpki_contents.specs.RoaAddress.{address_parts, roa_address, each_address, Family, family_parts}
use Rattle.rpki_contents.specs.RoaAddress.{roa_family}
use Rattle.rpki_contents.specs.Roa.{each_family, AreFamilies, families, AttestationParts, fields_of, fields, roa}
use Rattle.rpki_contents.specs.Roa.{IsAttestation, prefixes_in}
use Rattle.rpki_contents.specs.EncodedRoa.{max_length_octets, prefix_contents, prefix_octets, prefixes_octets}
use Rattle.rpki_contents.specs.EncodedRoa.{family_contents, family_prefixes, IsShortFamily, families_contents}
use Rattle.rpki_contents.specs.EncodedRoa.{families_octets, roa_contents, roa_octets, IsShortRoa}
use Rattle.rpki_contents.proofs.AspaWritingLaws.{contents-few, number-back}

-- ---- prefixes are short

max-few : (m : Option ℕ) → length (max_length_octets m) ≤ 15
max-few None = omega arith
max-few (Some n) = omega (arith, as-few n, tlv_at_most integer false (as_contents n))

max-list : (m : Option ℕ) → IsValueList (max_length_octets m)
max-list None = no_value_list
max-list (Some n) = primitive_value_list integer (as_contents n) integer-legal (contents-few n)

module _ (x : RoaIpAddress) (h : IsAddressIn 128 x) where
  pub bits-few : length (address_contents x.prefix) < 2 ^ 32
  bits-few = omega (arith, address-few x.prefix h.0.0)

  pub prefix-short : length (prefix_contents x) ≤ 100
  prefix-short =
      omega (
        arith,
        address-few x.prefix h.0.0,
        max-few x.max_length,
        tlv_at_most bit_string false (address_contents x.prefix),
        length-append (address_octets x.prefix) (max_length_octets x.max_length),
      )

  pub prefix-few : length (prefix_octets x) ≤ 200
  prefix-few = omega (arith, prefix-short, tlv_at_most sequence true (prefix_contents x))

  prefix-value : AreValues 1 (prefix_octets x)
  prefix-value =
      constructed_value sequence (prefix_contents x) sequence_legal (omega (arith, prefix-short))
      (value_lists_append (address_octets x.prefix) (max_length_octets x.max_length)
      (primitive_value_list bit_string (address_contents x.prefix) bits-legal bits-few) (max-list x.max_length))

pub prefixes-values : (xs : List RoaIpAddress) → AreAddressesIn 128 xs → AreValues (length xs) (prefixes_octets xs)
prefixes-values [] h = no_values
prefixes-values (x ∷ xs) h =
    let more : 1 + length xs ≡ suc (length xs) = omega arith in
    subst (λ (k : ℕ). AreValues k (prefixes_octets (x ∷ xs))) more
    (values_append 1 (length xs) (prefix_octets x) (prefixes_octets xs) (prefix-value x h.0) (prefixes-values xs h.1))

pub value_list : (xs : List RoaIpAddress) → AreAddressesIn 128 xs → IsValueList (prefixes_octets xs)
value_list xs h = (length xs, prefixes-values xs h)

pub fits-yes : (xs : List RoaIpAddress) → AreAddressesIn 128 xs → length (prefixes_octets xs) < 2 ^ 63
    → IsTrue true ↔ (IsValueList (prefixes_octets xs) × (length (prefixes_octets xs) < 2 ^ 63))
fits-yes xs h few = (λ _. (value_list xs h, few), λ _. refl)

pub fits-no : (xs : List RoaIpAddress) → 2 ^ 63 ≤ length (prefixes_octets xs)
    → IsTrue false ↔ (IsValueList (prefixes_octets xs) × (length (prefixes_octets xs) < 2 ^ 63))
fits-no xs many = (
  λ z. let none : ⊥ = cc in absurd none,
  λ h. let none : ⊥ = omega (arith, many, h.1) in absurd none,
)

-- ---- prefix by prefix

pub first-fits : (rest xs : List RoaIpAddress) (x : RoaIpAddress) → rest ≡ x ∷ xs → AreAddressesIn 128 rest
    → IsAddressIn 128 x × AreAddressesIn 128 xs
first-fits rest xs x is h = subst (AreAddressesIn 128) is h

pub first-octets : (rest xs : List RoaIpAddress) (x : RoaIpAddress) → rest ≡ x ∷ xs
    → prefixes_octets rest ≡ prefix_octets x ++ prefixes_octets xs
first-octets rest xs x is = ap prefixes_octets is

-- prefixes of a family are prefixes of the family whose addresses are longest

max-widest : (w size : ℕ) (m : Option ℕ) → w ≤ 128 → IsMaxLength w size m → IsMaxLength 128 size m
max-widest w size None most h = tt
max-widest w size (Some n) most h = (h.0, omega (arith, most, h.1))

pub in-widest : (w : ℕ) (xs : List RoaIpAddress) → w ≤ 128 → AreAddressesIn w xs → AreAddressesIn 128 xs
in-widest w [] most h = tt
in-widest w (x ∷ xs) most h = (
  ((omega (arith, most, h.0.0.0), h.0.0.1), max-widest w x.prefix.size x.max_length most h.0.1),
  in-widest w xs most h.1,
)

-- ---- a family

pub family-few : (family : AddressFamily) → length (family_octets family) < 2 ^ 32
family-few Ipv4 = lit< tt
family-few Ipv6 = lit< tt

pub family-none : (family : AddressFamily) (xs : List RoaIpAddress) → xs ≡ [] → [] ≡ family_prefixes family xs
family-none family xs e = sym (ap (family_prefixes family) e)

pub family-some : (family : AddressFamily) (xs : List RoaIpAddress) → xs ≢ []
    → tlv sequence true (family_contents family xs) ≡ family_prefixes family xs
family-some family [] some = absurd (some refl)
family-some family (x ∷ xs) some = refl

pub none-short : (family : AddressFamily) (xs : List RoaIpAddress) → xs ≡ [] → Unit {0} ↔ IsShortFamily family xs
none-short family xs e = (λ _. subst (IsShortFamily family) (sym e) tt, λ _. tt)

-- a length that announces the parts announces the prefixes
listed-short : (family : AddressFamily) (xs : List RoaIpAddress) → length (family_contents family xs) < 2 ^ 32
    → length (prefixes_octets xs) < 2 ^ 32
listed-short family xs few =
    omega (
      arith,
      few,
      tlv-at-least sequence true (prefixes_octets xs),
      length-append (tlv octet_string false (family_octets family)) (tlv sequence true (prefixes_octets xs)),
    )

pub some-short : {A : Type 0} (family : AddressFamily) (xs : List RoaIpAddress) → AreAddressesIn 128 xs → xs ≢ [] → A
    → ((A × (IsValueList (prefixes_octets xs) × (length (prefixes_octets xs) < 2 ^ 32)))
    × (length (family_contents family xs) < 2 ^ 32)) ↔ IsShortFamily family xs
some-short family [] h some a = absurd (some refl)
some-short family (x ∷ xs) h some a = (
  λ k. k.1,
  λ few. ((a, (value_list (x ∷ xs) h, listed-short family (x ∷ xs) few)), few),
)

-- ---- the families, and the whole

short-family : (family : AddressFamily) (xs : List RoaIpAddress) (n : ℕ) → length (family_prefixes family xs) ≤ n
    → n < 2 ^ 32
    → IsShortFamily family xs
short-family family [] n le lt = tt
short-family family (x ∷ xs) n le lt =
    omega (arith, tlv-at-least sequence true (family_contents family (x ∷ xs)), le, lt)

pub both-short : (x : AttestationParts) → length (families_contents x) < 2 ^ 32
    → IsShortFamily Ipv4 x.v4 × IsShortFamily Ipv6 x.v6
both-short x few =
    let sizes = length-append (family_prefixes Ipv4 x.v4) (family_prefixes Ipv6 x.v6) in (
      short-family Ipv4 x.v4 (length (families_contents x)) (omega (arith, sizes)) few,
      short-family Ipv6 x.v6 (length (families_contents x)) (omega (arith, sizes)) few,
    )

pub families-short : {A B : Type 0} (x : AttestationParts) → (A ↔ IsShortFamily Ipv4 x.v4)
    → (B ↔ IsShortFamily Ipv6 x.v6)
    → ((A × B) × (length (families_contents x) < 2 ^ 32)) ↔ (length (families_contents x) < 2 ^ 32)
families-short x one two = (
  λ h. h.1,
  λ few. let both = both-short x few in ((one.1 both.0, two.1 both.1), few),
)

-- a length that announces all announces the families
inside-short : (x : AttestationParts) → IsShortRoa x → length (families_contents x) < 2 ^ 32
inside-short x few =
    omega (
      arith,
      few,
      tlv-at-least sequence true (families_contents x),
      length-append (as_number_octets x.as_id) (families_octets x),
    )

pub roa-short : {A B : Type 0} (x : AttestationParts) → A → (B ↔ (length (families_contents x) < 2 ^ 32))
    → ((A × B) × (length (roa_contents x) < 2 ^ 32)) ↔ IsShortRoa x
roa-short x a b = (λ h. h.1, λ few. ((a, b.1 (inside-short x few)), few))

-- ---- a prefix is read back

max-back : (n : ℕ) → n < 2 ^ 8 → max_length.spells n (as_number_octets n)
max-back n small =
    leaf-legal integer false (IsUnsignedBelow (2 ^ 8)) n (as_contents n) integer-legal (contents-few n)
    (record { below = small; contents = as-unsigned n (omega (arith, small)) })

max-there : (w size : ℕ) (m : Option ℕ) → w ≤ 128 → IsMaxLength w size m
    → (optional_then integer max_length end).spells (m, tt) (max_length_octets m)
max-there w size None most h = refl
max-there w size (Some n) most h = record {
  first = as_number_octets n;
  second = [];
  parts = sym (append-nil (as_number_octets n));
  one = max-back n (omega (arith, most, h.1));
  two = refl;
}

prefix-back : (w : ℕ) (x : RoaIpAddress) → w ≤ 128 → IsAddressIn w x → (roa_address w).spells x (prefix_octets x)
prefix-back w x most h =
    let widest : IsAddressIn 128 x =
    ((omega (arith, most, h.0.0), h.0.1), max-widest w x.prefix.size x.max_length most h.1) in
    record {
      value = parts_of x;
      spelled = leaf-legal sequence true (address_parts w).spells (parts_of x) (prefix_contents x) sequence_legal
          (omega (arith, prefix-short x widest)) (record {
            first = address_octets x.prefix;
            second = max_length_octets x.max_length;
            parts = refl;
            one = leaf-legal bit_string false (IsAddress w) x.prefix (address_contents x.prefix) bits-legal
                (bits-few x widest) (address-spelled w x.prefix h.0);
            two = max-there w x.prefix.size x.max_length most h.1;
          });
      stands = record { same = refl; within = h.1 };
    }

prefixes-back : (w : ℕ) (xs : List RoaIpAddress) → w ≤ 128 → AreAddressesIn w xs
    → (each_address w).spells xs (prefixes_octets xs)
prefixes-back w [] most h = refl
prefixes-back w (x ∷ xs) most h = (
  prefixes_octets xs,
  record { front = prefix_octets x; parts = refl; spelled = prefix-back w x most h.0 },
  prefixes-back w xs most h.1,
)

-- ---- a family is read back

family-back : (family : AddressFamily) (x : RoaIpAddress) (xs : List RoaIpAddress)
    → AreAddressesIn (width family) (x ∷ xs) → length (family_contents family (x ∷ xs)) < 2 ^ 32
    → roa_family.spells (family, x ∷ xs) (tlv sequence true (family_contents family (x ∷ xs)))
family-back family x xs h few =
    let ys : List RoaIpAddress = x ∷ xs in
    leaf-legal sequence true family_parts.spells (family, ys) (family_contents family ys) sequence_legal few (record {
      first = tlv octet_string false (family_octets family);
      second = tlv sequence true (prefixes_octets ys);
      parts = refl;
      one = leaf-legal octet_string false IsFamily family (family_octets family) octet_string_legal
          (family-few family) refl;
      two = record {
        value = ys;
        spelled = leaf-legal sequence true (each_address (width family)).spells ys (prefixes_octets ys) sequence_legal
            (listed-short family ys few) (prefixes-back (width family) ys (width-most family) h);
        stands = (refl, λ e. absurd (cc));
      };
    })

-- ---- the families are read back

-- one family at the end
one-back : (f : Family) (s : List ℕ) → roa_family.spells f s → each_family.spells (f ∷ []) s
one-back f s h = ([], record { front = s; parts = sym (append-nil s); spelled = h }, refl)

two-in-order : (strict : Bool) (xs ys : List RoaIpAddress)
    → prefixes_in strict ((Ipv4, xs) ∷ (Ipv6, ys) ∷ []) ≡ Some (xs, ys)
two-in-order true xs ys = refl
two-in-order false xs ys = refl

-- the families that are written, of which these prefixes are taken
pub record AreBack (strict : Bool) (v4 v6 : List RoaIpAddress) : Type 0 where
  pub listed : List Family
  pub spelled : each_family.spells listed (family_prefixes Ipv4 v4 ++ family_prefixes Ipv6 v6)
  pub stands : AreFamilies strict (v4, v6) listed

are-back : (strict : Bool) (v4 v6 : List RoaIpAddress) → (v4 ≡ [] → v6 ≡ [] → ⊥) → AreAddressesIn 32 v4
    → AreAddressesIn 128 v6 → IsShortFamily Ipv4 v4 → IsShortFamily Ipv6 v6 → AreBack strict v4 v6
are-back strict [] [] some h k one two = absurd (some refl refl)
are-back strict [] (y ∷ ys) some h k one two = record {
  listed = (Ipv6, y ∷ ys) ∷ [];
  spelled = one-back (Ipv6, y ∷ ys) (tlv sequence true (family_contents Ipv6 (y ∷ ys))) (family-back Ipv6 y ys k two);
  stands = refl;
}
are-back strict (x ∷ xs) [] some h k one two = record {
  listed = (Ipv4, x ∷ xs) ∷ [];
  spelled = (
    [],
    record {
      front = tlv sequence true (family_contents Ipv4 (x ∷ xs));
      parts = refl;
      spelled = family-back Ipv4 x xs h one;
    },
    refl,
  );
  stands = refl;
}
are-back strict (x ∷ xs) (y ∷ ys) some h k one two = record {
  listed = (Ipv4, x ∷ xs) ∷ (Ipv6, y ∷ ys) ∷ [];
  spelled = (
    tlv sequence true (family_contents Ipv6 (y ∷ ys)),
    record {
      front = tlv sequence true (family_contents Ipv4 (x ∷ xs));
      parts = refl;
      spelled = family-back Ipv4 x xs h one;
    },
    one-back (Ipv6, y ∷ ys) (tlv sequence true (family_contents Ipv6 (y ∷ ys))) (family-back Ipv6 y ys k two),
  );
  stands = two-in-order strict (x ∷ xs) (y ∷ ys);
}

families-back : (strict : Bool) (x : AttestationParts) → IsAttestation x → length (families_contents x) < 2 ^ 32
    → (families strict).spells (x.v4, x.v6) (families_octets x)
families-back strict x h few =
    let both = both-short x few in
    let back = are-back strict x.v4 x.v6 h.some h.v4 h.v6 both.0 both.1 in
    record {
      value = back.listed;
      spelled = leaf-legal sequence true each_family.spells back.listed (families_contents x) sequence_legal few
          back.spelled;
      stands = back.stands;
    }

-- ---- the whole is read back

pub roa-back : (strict : Bool) (x : AttestationParts) → IsAttestation x → x.as_id < 2 ^ 32 → IsShortRoa x
    → (roa strict).spells (fields_of x) (roa_octets x)
roa-back strict x h small few =
    leaf-legal sequence true (fields strict).spells (fields_of x) (roa_contents x) sequence_legal few (record {
      first = as_number_octets x.as_id;
      second = families_octets x;
      parts = refl;
      one = number-back x.as_id small;
      two = families-back strict x h (inside-short x few);
    })
