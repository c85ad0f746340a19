-- Blocks that are written: they are short, and are read as themselves.
use Rattle.std.proofs.Common.{◌≡◌, ◌≤◌, ◌<◌, ◌+◌, ◌^◌, ◌↔◌, IsTrue, ℕ, suc, Bool, true, false, nat_lt, cond, eqb, subst}
use Rattle.std.proofs.Common.{Option, Some, None, List, [], ◌∷◌, ◌++◌, length, length-append, refl, sym, ap, ◌∙◌, arith}
use Rattle.std.proofs.Common.{lit<}
use Rattle.rpki_der.specs.TagName.{TagName, IsTag, bit_string, integer, sequence}
use Rattle.rpki_der.specs.Header.{tlv}
use Rattle.rpki_der.specs.Members.{AreValues, IsValueList}
use Rattle.rpki_der.specs.ValueListLaws.{values_append, no_values, primitive_value, primitive_value_list}
use Rattle.rpki_der.specs.ValueListLaws.{constructed_value, value_lists_append, sequence_legal}
use Rattle.rpki_der.specs.Written.{AppendsAllBut, AppendsBeginning}
use Rattle.rpki_der.proofs.WritingLaws.{beginning_then, beginning_more}
use Rattle.rpki_der.proofs.EncodeLaws.{tlv_at_most}
use Rattle.rpki_resources.specs.declared.address.Address.{Address}
use Rattle.rpki_resources.specs.Address.{width}
use Rattle.rpki_resources.specs.declared.block.Block.{Block}
use Rattle.rpki_resources.specs.declared.kind.ResourceKind.{ResourceKind}
use Rattle.rpki_resources.specs.declared.kind.ResourceKind.TheVariants.{Addresses, AsNumbers}
use Rattle.rpki_resources.specs.Encoded.{address_contents, integer_size, as_contents, pair_octets, address_octets}
use Rattle.rpki_resources.specs.Encoded.{as_number_octets, shared_bits, without_zeros, without_ones, prefix_or_range}
use Rattle.rpki_resources.specs.Encoded.{block_octets, blocks_octets, IsBlockOf, AreBlocksOf}
use Rattle.rpki_resources.proofs.AddressWritingLaws.{address-few}
use Rattle.rpki_resources.proofs.AddressLaws.{width-most}
use Rattle.rpki_resources.proofs.StrippedLaws.{are-shared, stripped-low, stripped-high}
use Rattle.rpki_resources.proofs.NumberOctetsLaws.{octets-length}

size-few : (n : ℕ) → integer_size n ≤ 5
size-few n = by_size (nat_lt n 128) (nat_lt n 32768) (nat_lt n 8388608) (nat_lt n 2147483648) where
  by_size : (a b c d : Bool) → cond a 1 (cond b 2 (cond c 3 (cond d 4 5))) ≤ 5
  by_size true b c d = omega arith
  by_size false true c d = omega arith
  by_size false false true d = omega arith
  by_size false false false true = omega arith
  by_size false false false false = omega arith

pub as-few : (n : ℕ) → length (as_contents n) ≤ 5
as-few n = omega (arith, octets-length (integer_size n) n, size-few n)

-- two short values fit into one
two-short : (s t : TagName) (c d : List ℕ) → length c ≤ 17 → length d ≤ 17
    → ((length c < 2 ^ 32) × (length d < 2 ^ 32)) × (length (tlv s false c ++ tlv t false d) < 2 ^ 32)
two-short s t c d one two = (
  (omega (arith, one), omega (arith, two)),
  omega (
    arith,
    one,
    two,
    length-append (tlv s false c) (tlv t false d),
    tlv_at_most s false c,
    tlv_at_most t false d,
  ),
)

pub as-pair-short : (s t : TagName) (m n : ℕ)
    → ((length (as_contents m) < 2 ^ 32) × (length (as_contents n) < 2 ^ 32))
    × (length (tlv s false (as_contents m) ++ tlv t false (as_contents n)) < 2 ^ 32)
as-pair-short s t m n = two-short s t (as_contents m) (as_contents n) (omega (arith, as-few m))
    (omega (arith, as-few n))

pub bits-pair-short : (s t : TagName) (x y : Address) → x.size ≤ 128 → y.size ≤ 128
    → ((length (address_contents x) < 2 ^ 32) × (length (address_contents y) < 2 ^ 32))
    × (length (tlv s false (address_contents x) ++ tlv t false (address_contents y)) < 2 ^ 32)
bits-pair-short s t x y one two = two-short s t (address_contents x) (address_contents y) (address-few x one)
    (address-few y two)

-- ---- a block is one short value

pub bits-legal : IsTag bit_string
bits-legal = record { below = lit< tt; named = λ _. lit< tt }

pub integer-legal : IsTag integer
integer-legal = record { below = lit< tt; named = λ _. lit< tt }

pub record OneShort (octets : List ℕ) : Type 0 where
  pub value : AreValues 1 octets
  pub few : length octets ≤ 100

one-short : (t : TagName) (c : List ℕ) → IsTag t → length c ≤ 17 → OneShort (tlv t false c)
one-short t c legal few = record {
  value = primitive_value t c legal (omega (arith, few));
  few = omega (arith, few, tlv_at_most t false c);
}

pair-short : (t : TagName) (c d : List ℕ) → IsTag t → length c ≤ 17 → length d ≤ 17
    → OneShort (pair_octets (tlv t false c) (tlv t false d))
pair-short t c d legal one two =
    let both = tlv t false c ++ tlv t false d in
    let sizes = two-short t t c d one two in
    record {
      value = constructed_value sequence both sequence_legal sizes.1
          (value_lists_append (tlv t false c) (tlv t false d) (primitive_value_list t c legal sizes.0.0)
          (primitive_value_list t d legal sizes.0.1));
      few = omega (
        arith,
        one,
        two,
        tlv_at_most sequence true both,
        length-append (tlv t false c) (tlv t false d),
        tlv_at_most t false c,
        tlv_at_most t false d,
      );
    }

bits-short : (x : Address) → x.size ≤ 128 → OneShort (address_octets x)
bits-short x few = one-short bit_string (address_contents x) bits-legal (address-few x few)

ends-short : (x y : Address) → x.size ≤ 128 → y.size ≤ 128
    → OneShort (pair_octets (address_octets x) (address_octets y))
ends-short x y one two = pair-short bit_string (address_contents x) (address_contents y) bits-legal
    (address-few x one) (address-few y two)

number-short : (n : ℕ) → OneShort (as_number_octets n)
number-short n = one-short integer (as_contents n) integer-legal (omega (arith, as-few n))

numbers-short : (m n : ℕ) → OneShort (pair_octets (as_number_octets m) (as_number_octets n))
numbers-short m n = pair-short integer (as_contents m) (as_contents n) integer-legal (omega (arith, as-few m))
    (omega (arith, as-few n))

prefix-short : (w : ℕ) (b : Block) → w ≤ 128 → b.low ≤ b.high → b.high < 2 ^ w → (o : Option Address)
    → shared_bits w b.low b.high ≡ o
    → OneShort (prefix_or_range w b o)
prefix-short w b most some lt (Some x) is =
    let h = (are-shared w b.low b.high x lt is).legal.0 in
    bits-short x (omega (arith, h, most))
prefix-short w b most some lt None is =
    let h = (stripped-low w b.low (omega (arith, some, lt))).legal.0 in
    let k = (stripped-high w b.high lt).legal.0 in
    ends-short (without_zeros w b.low) (without_ones w b.high) (omega (arith, h, most)) (omega (arith, k, most))

pub block-short : (kind : ResourceKind) (b : Block) → IsBlockOf kind b → OneShort (block_octets kind b)
block-short (Addresses family) b h = prefix-short (width family) b (width-most family) h.0 h.1
    (shared_bits (width family) b.low b.high) refl
block-short AsNumbers b h = by_ends (eqb b.low b.high) where
  by_ends : (same : Bool) → OneShort
      (cond same (as_number_octets b.low) (pair_octets (as_number_octets b.low) (as_number_octets b.high)))
  by_ends true = number-short b.low
  by_ends false = numbers-short b.low b.high

pub blocks-values : (kind : ResourceKind) (bs : List Block) → AreBlocksOf kind bs
    → AreValues (length bs) (blocks_octets kind bs)
blocks-values kind [] h = no_values
blocks-values kind (b ∷ bs) h =
    let more : 1 + length bs ≡ suc (length bs) = omega arith in
    subst (λ (k : ℕ). AreValues k (blocks_octets kind (b ∷ bs))) more
    (values_append 1 (length bs) (block_octets kind b) (blocks_octets kind bs) (block-short kind b h.0).value
    (blocks-values kind bs h.1))

-- ---- block by block

pub first-fits : (kind : ResourceKind) (rest bs : List Block) (b : Block) → rest ≡ b ∷ bs → AreBlocksOf kind rest
    → IsBlockOf kind b × AreBlocksOf kind bs
first-fits kind rest bs b is h = subst (AreBlocksOf kind) is h

pub first-octets : (kind : ResourceKind) (rest bs : List Block) (b : Block) → rest ≡ b ∷ bs
    → blocks_octets kind rest ≡ block_octets kind b ++ blocks_octets kind bs
first-octets kind rest bs b is = ap (blocks_octets kind) is

-- a beginning of the rest was written
pub beginning-left : (a b c : Option (List ℕ)) (octets rest ys more : List ℕ) → AppendsAllBut a b octets rest
    → rest ≡ ys ++ more
    → AppendsBeginning b c ys → AppendsBeginning a c octets
beginning-left a b c octets rest ys more p is q =
    let whole : octets ≡ p.0 ++ (ys ++ more) = p.1 ∙ ap (λ (w : List ℕ). p.0 ++ w) is in
    subst (AppendsBeginning a c) (sym whole) (beginning_then a b c p.0 (ys ++ more) p.2 (beginning_more b c ys more q))

-- ---- whether a list can be written

pub value-list : (kind : ResourceKind) (bs : List Block) → AreBlocksOf kind bs → IsValueList (blocks_octets kind bs)
value-list kind bs h = (length bs, blocks-values kind bs h)

pub fits-yes : (kind : ResourceKind) (bs : List Block) → AreBlocksOf kind bs → length (blocks_octets kind bs) < 2 ^ 63
    → IsTrue true ↔ (IsValueList (blocks_octets kind bs) × (length (blocks_octets kind bs) < 2 ^ 63))
fits-yes kind bs h few = (λ _. (value-list kind bs h, few), λ _. refl)

pub fits-no : (kind : ResourceKind) (bs : List Block) → 2 ^ 63 ≤ length (blocks_octets kind bs)
    → IsTrue false ↔ (IsValueList (blocks_octets kind bs) × (length (blocks_octets kind bs) < 2 ^ 63))
fits-no kind bs many = (
  λ z. let none : ⊥ = cc in absurd none,
  λ h. let none : ⊥ = omega (arith, many, h.1) in absurd none,
)
