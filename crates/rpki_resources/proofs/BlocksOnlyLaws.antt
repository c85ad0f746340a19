-- Octets that spell resources are those that are written.
use Rattle.std.proofs.Common.{◌≡◌, ◌≤◌, ◌<◌, ◌-◌, ◌*◌, ◌/◌, ◌%◌, ◌^◌, inl, inr, ℕ, zero, suc, Bool, true, false, cond}
use Rattle.std.proofs.Common.{eqb, Some, List, [], ◌∷◌, ◌++◌, length, refl, sym, ap, subst, ◌∙◌, arith}
use Rattle.std.proofs.lemmas.Nat.{pow_pos}
use Rattle.std.proofs.lemmas.Bool.{cases_lt, eq-eqb, ne_eqb}
use Rattle.rpki_der.specs.TagName.{TagName, bit_string, integer, sequence}
use Rattle.rpki_der.specs.Header.{tlv, identifier_octets, length_octets}
use Rattle.rpki_der.specs.Number.{AreOctets}
use Rattle.rpki_der.specs.Values.{SpellsContents}
use Rattle.rpki_der.specs.Each.{SpellsEach}
use Rattle.rpki_der.proofs.IntegerLaws.{contents-unique}
use Rattle.rpki_resources.specs.declared.address.Address.{Address}
use Rattle.rpki_resources.specs.declared.block.Block.{Block}
use Rattle.rpki_resources.specs.declared.kind.ResourceKind.{ResourceKind}
use Rattle.rpki_resources.specs.declared.kind.ResourceKind.TheVariants.{Addresses, AsNumbers}
use Rattle.rpki_resources.specs.Address.{width, address, block, HasNoZeros, HasNoOnes, low_end, high_end}
use Rattle.rpki_resources.specs.AsNumber.{as_number, as_block}
use Rattle.rpki_resources.specs.Listed.{block_of}
use Rattle.rpki_resources.specs.Encoded.{bits_at, without_zeros, without_ones, shared_bits, prefix_or_range}
use Rattle.rpki_resources.specs.Encoded.{pair_octets, address_octets, as_contents, as_number_octets, ip_block_octets}
use Rattle.rpki_resources.specs.Encoded.{as_block_octets, block_octets, blocks_octets}
use Rattle.rpki_resources.proofs.AddressWritingLaws.{address-only}
use Rattle.rpki_resources.proofs.NumberOctetsLaws.{as-unsigned}
use Rattle.rpki_resources.proofs.StrippedLaws.{end-step, end-there, end-none, shared-some, shared-none}
use Rattle.rpki_resources.proofs.PrefixLaws.{twice}

-- ---- parts of octets are octets

pub octets-behind : (a b : List ℕ) → AreOctets (a ++ b) → AreOctets b
octets-behind [] b o = o
octets-behind (x ∷ a) b o = octets-behind a b o.1

pub octets-before : (a b : List ℕ) → AreOctets (a ++ b) → AreOctets a
octets-before [] b o = tt
octets-before (x ∷ a) b o = (o.0, octets-before a b o.1)

pub octets-inside : (t : TagName) (f : Bool) (c p : List ℕ) → SpellsContents t f c p → AreOctets p → AreOctets c
octets-inside t f c p h o =
    octets-behind (identifier_octets t f ++ length_octets (length c)) c (subst AreOctets h.octets o)

-- ---- one value

address-written : (w : ℕ) (x : Address) (p : List ℕ) → AreOctets p → (address w).spells x p → p ≡ address_octets x
address-written w x p o h =
    h.value.octets ∙ ap (λ (c : List ℕ). tlv bit_string false c)
    (address-only w x h.contents (octets-inside bit_string false h.contents p h.value o) h.spelled)

number-written : (n : ℕ) (p : List ℕ) → as_number.spells n p → p ≡ as_number_octets n
number-written n p h =
    h.value.octets ∙ ap (λ (c : List ℕ). tlv integer false c)
    (contents-unique n h.contents (as_contents n) h.spelled.contents (as-unsigned n h.spelled.below))

-- ---- the ends of a range

address-is : (x : Address) (n k : ℕ) → x.number ≡ n → x.size ≡ k → bits_at n k ≡ x
address-is x n k e f = ap (λ (i : ℕ). bits_at i k) (sym e) ∙ ap (λ (i : ℕ). bits_at x.number i) (sym f)

low-only : (k n : ℕ) (x : Address) → x.size ≤ k → HasNoZeros x → low_end k x ≡ n → without_zeros k n ≡ x
low-only zero n x few bits end =
    let none : zero - x.size ≡ 0 = omega arith in
    let number : x.number * 2 ^ 0 ≡ n = rw none at end in
    sym (end-none 0 zero n refl) ∙ address-is x n zero (omega (arith, number)) (omega (arith, few))
low-only (suc k) n x few bits end = elim (cases_lt x.size (suc k)) [
  | inl less ↦
      let e : suc k - x.size ≡ suc (k - x.size) = omega arith in
      let whole : x.number * 2 ^ suc (k - x.size) ≡ n = rw e at end in
      let double = twice (k - x.size) in
      let half : x.number * (2 * 2 ^ (k - x.size)) ≡ n = rw double at whole in
      sym (end-step 0 k n (omega (arith, half))) ∙ low-only k (n / 2) x (omega (arith, less)) bits (omega (arith, half))
  | inr all ↦
      let size : x.size ≡ suc k = omega (arith, few, all) in
      let none : suc k - x.size ≡ 0 = omega (arith, size) in
      let number : x.number * 2 ^ 0 ≡ n = rw none at end in
      let odd : n % 2 ≡ 0 → ⊥ = λ z. elim bits [
        | inl zero_size ↦ omega (arith, zero_size, size)
        | inr one ↦ omega
            (arith, one, number, z)
      ] in
      sym (end-there 0 (suc k) n odd) ∙ address-is x n (suc k) (omega (arith, number)) size
]

high-only : (k n : ℕ) (x : Address) → x.size ≤ k → HasNoOnes x → high_end k x ≡ n → without_ones k n ≡ x
high-only zero n x few bits end =
    let none : zero - x.size ≡ 0 = omega arith in
    let number : suc x.number * 2 ^ 0 - 1 ≡ n = rw none at end in
    sym (end-none 1 zero n refl) ∙ address-is x n zero (omega (arith, number)) (omega (arith, few))
high-only (suc k) n x few bits end = elim (cases_lt x.size (suc k)) [
  | inl less ↦
      let e : suc k - x.size ≡ suc (k - x.size) = omega arith in
      let whole : suc x.number * 2 ^ suc (k - x.size) - 1 ≡ n = rw e at end in
      let double = twice (k - x.size) in
      let half : suc x.number * (2 * 2 ^ (k - x.size)) - 1 ≡ n = rw double at whole in
      let some : 0 < 2 ^ (k - x.size) = pow_pos (k - x.size) in
      sym (end-step 1 k n (omega (arith, half, some)))
      ∙ high-only k (n / 2) x (omega (arith, less)) bits (omega (arith, half, some))
  | inr all ↦
      let size : x.size ≡ suc k = omega (arith, few, all) in
      let none : suc k - x.size ≡ 0 = omega (arith, size) in
      let number : suc x.number * 2 ^ 0 - 1 ≡ n = rw none at end in
      let even : n % 2 ≡ 1 → ⊥ = λ z. elim bits [
        | inl zero_size ↦ omega (arith, zero_size, size)
        | inr none ↦ omega
            (arith, none, number, z)
      ] in
      sym (end-there 1 (suc k) n even) ∙ address-is x n (suc k) (omega (arith, number)) size
]

-- ---- a block

prefix-found : (w : ℕ) (x : Address) (low high : ℕ) → x.size ≤ w → low ≡ low_end w x → high ≡ high_end w x
    → shared_bits w low high ≡ Some x
prefix-found w x low high few l h =
    let some : 0 < 2 ^ (w - x.size) = pow_pos (w - x.size) in
    let above : suc high ≡ suc x.number * 2 ^ (w - x.size) = omega (arith, h, some) in
    let size : w - (w - x.size) ≡ x.size = omega (arith, few) in
    shared-some w (w - x.size) x.number low high (omega arith) l above ∙ ap (λ (k : ℕ). Some (bits_at x.number k)) size

ip-written : (w : ℕ) (b : Block) (p : List ℕ) → AreOctets p → (block w).spells b p → p ≡ ip_block_octets w b
ip-written w b p o (inl h) =
    let ends = h.spelled in
    let inside = subst AreOctets ends.spelled.parts (octets-inside sequence true h.contents p h.value o) in
    let x = ends.value.0 in
    let y = ends.value.1 in
    let one = address-written w x ends.spelled.first
    (octets-before ends.spelled.first ends.spelled.second inside) ends.spelled.one in
    let two = address-written w y ends.spelled.second
    (octets-behind ends.spelled.first ends.spelled.second inside) ends.spelled.two in
    let low = low-only w b.low x ends.spelled.one.spelled.few ends.stands.no_zeros (sym ends.stands.low) in
    let high = high-only w b.high y ends.spelled.two.spelled.few ends.stands.no_ones (sym ends.stands.high) in
    let none = shared-none w b.low b.high ends.stands.no_prefix in
    let both : h.contents ≡ address_octets (without_zeros w b.low) ++ address_octets (without_ones w b.high) =
    ends.spelled.parts ∙ ap (λ (s : List ℕ). s ++ ends.spelled.second) (one ∙ ap address_octets (sym low))
    ∙ ap (λ (s : List ℕ). address_octets (without_zeros w b.low) ++ s) (two ∙ ap address_octets (sym high)) in
    h.value.octets ∙ ap (λ (c : List ℕ). tlv sequence true c) both ∙ sym (ap (prefix_or_range w b) none)
ip-written w b p o (inr h) =
    let low = ap (λ (d : Block). d.low) h.stands in
    let high = ap (λ (d : Block). d.high) h.stands in
    let some = prefix-found w h.value b.low b.high h.spelled.spelled.few low high in
    address-written w h.value p o h.spelled ∙ sym (ap (prefix_or_range w b) some)

as-block : (b : Block) → Bool → List ℕ
as-block b same = cond same (as_number_octets b.low) (pair_octets (as_number_octets b.low) (as_number_octets b.high))

as-written : (b : Block) (p : List ℕ) → as_block.spells b p → p ≡ as_block_octets b
unfolding as-block
as-written b p (inl h) =
    let ends = h.spelled in
    let one = number-written ends.value.0 ends.spelled.first ends.spelled.one in
    let two = number-written ends.value.1 ends.spelled.second ends.spelled.two in
    let other : eqb b.low b.high ≡ false = ne_eqb b.low b.high
    (λ e. omega (arith, e, ends.stands.low, ends.stands.high, ends.stands.ascends)) in
    let both : h.contents ≡ as_number_octets b.low ++ as_number_octets b.high =
    ends.spelled.parts ∙ ap (λ (s : List ℕ). s ++ ends.spelled.second) (one ∙ ap as_number_octets (sym ends.stands.low))
    ∙ ap (λ (s : List ℕ). as_number_octets b.low ++ s) (two ∙ ap as_number_octets (sym ends.stands.high)) in
    h.value.octets ∙ ap (λ (c : List ℕ). tlv sequence true c) both ∙ sym (ap (as-block b) other)
as-written b p (inr h) =
    let same : eqb b.low b.high ≡ true = eq-eqb b.low b.high (h.stands.0 ∙ sym h.stands.1) in
    number-written h.value p h.spelled ∙ ap as_number_octets (sym h.stands.0) ∙ sym (ap (as-block b) same)

block-written : (kind : ResourceKind) (b : Block) (p : List ℕ) → AreOctets p → (block_of kind).spells b p
    → p ≡ block_octets kind b
block-written (Addresses family) b p o h = ip-written (width family) b p o h
block-written AsNumbers b p o h = as-written b p h

pub blocks-written : (kind : ResourceKind) (bs : List Block) (c : List ℕ) → AreOctets c
    → SpellsEach (block_of kind).spells bs c
    → c ≡ blocks_octets kind bs
blocks-written kind [] c o h = h
blocks-written kind (b ∷ bs) c o h =
    let each = subst AreOctets h.1.parts o in
    let one = block-written kind b h.1.front (octets-before h.1.front h.0 each) h.1.spelled in
    let rest = blocks-written kind bs h.0 (octets-behind h.1.front h.0 each) h.2 in
    h.1.parts ∙ ap (λ (s : List ℕ). s ++ h.0) one ∙ ap (λ (s : List ℕ). block_octets kind b ++ s) rest
