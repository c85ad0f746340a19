-- Leaf values that are written, and read again.
use Rattle.std.proofs.Common.{◌≡◌, ℕ, ◌<◌, ◌^◌, Bool, true, false, List, [], ◌∷◌, length, slice_index, refl, ap, sym}
use Rattle.std.proofs.Common.{◌∙◌, arith, lit<, cond, nat_lt}
use Rattle.rpki_der.specs.TagName.{IsTag, boolean, integer, bit_string, octet_string, null, oid}
use Rattle.rpki_der.specs.Header.{tlv}
use Rattle.rpki_der.specs.Leaves.{Bits, IsBits, IsNull, IsBoolean, IsOidOf, bits_of, boolean_contents}
use Rattle.rpki_der.specs.Number.{number_of}
use Rattle.rpki_der.specs.Integer.{IsUnsigned, IsMagnitude, unsigned_contents}
use Rattle.rpki_der.specs.Contents.{bits_contents}
use Rattle.rpki_der.specs.LeafLaws.{NullReadBack, BooleansReadBack, NumbersReadBack, IdentifiersReadBack}
use Rattle.rpki_der.specs.LeafLaws.{OctetsReadBack, BitsReadBack, BooleansApart, NumbersApart, IdentifiersApart}
use Rattle.rpki_der.specs.LeafLaws.{OctetsApart, BitsApart}
use Rattle.rpki_der.proofs.EncodeLaws.{leaf-legal, tlv-legal, tlv-same-one}
use Rattle.rpki_der.proofs.UnsignedLaws.{unsigned-spelled, unsigned-at-most}

null-tag : IsTag null
null-tag = record { below = lit< tt; named = λ _. lit< tt }

boolean-tag : IsTag boolean
boolean-tag = record { below = lit< tt; named = λ _. lit< tt }

integer-tag : IsTag integer
integer-tag = record { below = lit< tt; named = λ _. lit< tt }

oid-tag : IsTag oid
oid-tag = record { below = lit< tt; named = λ _. lit< tt }

octets-tag : IsTag octet_string
octets-tag = record { below = lit< tt; named = λ _. lit< tt }

bits-tag : IsTag bit_string
bits-tag = record { below = lit< tt; named = λ _. lit< tt }

pub null-back : NullReadBack
null-back = leaf-legal null false IsNull tt [] null-tag (lit< tt) refl

boolean-short : (b : Bool) → length (boolean_contents b) < 2 ^ 32
boolean-short true = lit< tt
boolean-short false = lit< tt

pub booleans-back : BooleansReadBack
booleans-back b = leaf-legal boolean false IsBoolean b (boolean_contents b) boolean-tag (boolean-short b) refl

pub numbers-back : NumbersReadBack
numbers-back octets m small =
    leaf-legal integer false IsUnsigned (number_of octets) (unsigned_contents octets) integer-tag
    (omega (arith, unsigned-at-most octets)) (unsigned-spelled octets m)

pub identifiers-back : IdentifiersReadBack
identifiers-back octets valid small = leaf-legal oid false IsOidOf octets octets oid-tag small (refl, valid)

pub octets-back : OctetsReadBack
octets-back octets small = tlv-legal octet_string false octets octets-tag small

pub bits-back : BitsReadBack
bits-back b legal small = leaf-legal bit_string false IsBits b (bits_contents b) bits-tag (omega arith)
    (record { legal = legal; contents = refl })

-- ---- equal octets

boolean-same : (a b : Bool) → boolean_contents a ≡ boolean_contents b → a ≡ b
boolean-same true true e = refl
boolean-same true false e = absurd (cc)
boolean-same false true e = absurd (cc)
boolean-same false false e = refl

pub booleans-apart : BooleansApart
booleans-apart a b = (
  λ e. boolean-same a b (tlv-same-one boolean false _ (boolean_contents b) (boolean-short b) e),
  λ
      e. ap (λ (x : Bool). tlv boolean false (boolean_contents x)) e,
)

pub identifiers-apart : IdentifiersApart
identifiers-apart a b small = (λ e. tlv-same-one oid false a b small e, λ e. ap (λ (x : List ℕ). tlv oid false x) e)

pub octets-apart : OctetsApart
octets-apart a b small =
    (λ e. tlv-same-one octet_string false a b small e, λ e. ap (λ (x : List ℕ). tlv octet_string false x) e)

bits-same : (a b : Bits) → bits_contents a ≡ bits_contents b → a ≡ b
bits-same a b e =
    let count : a.unused ≡ b.unused = cc in
    let octets : a.octets ≡ b.octets = cc in
    ap (λ (n : ℕ). bits_of n a.octets) count ∙ ap (λ (x : List ℕ). bits_of b.unused x) octets

pub bits-apart : BitsApart
bits-apart a b small = (
  λ e. bits-same a b (tlv-same-one bit_string false _ (bits_contents b) (omega arith) e),
  λ e. ap
      (λ (x : Bits). tlv bit_string false (bits_contents x)) e,
)

-- a zero octet is in front of one of them alone: then the other begins with zero, and has more than one octet
one-following : (a b : List ℕ) → IsMagnitude a → IsMagnitude b → a ≡ 0 ∷ b → ⊥
one-following a b m k e =
    let longer = ap length e in
    let first : slice_index a 0 ≡ 0 = ap (λ (x : List ℕ). slice_index x 0) e in
    omega (arith, first, m.no_zero_in_front (omega (arith, longer, k.nonempty)))

numbers-same : (a b : List ℕ) → IsMagnitude a → IsMagnitude b → unsigned_contents a ≡ unsigned_contents b → a ≡ b
numbers-same a b m k e = by_first (nat_lt (slice_index a 0) 128) (nat_lt (slice_index b 0) 128) e where
  by_first : (p q : Bool) → cond p a (0 ∷ a) ≡ cond q b (0 ∷ b) → a ≡ b
  by_first true true h = h
  by_first true false h = absurd (one-following a b m k h)
  by_first false true h = absurd (one-following b a k m (sym h))
  by_first false false h = cc

pub numbers-apart : NumbersApart
numbers-apart a b m k small = (
  λ e. numbers-same a b m k (tlv-same-one integer false _ (unsigned_contents b) (omega (arith, unsigned-at-most b)) e),
  λ e. ap (λ (x : List ℕ). tlv integer false (unsigned_contents x)) e,
)
