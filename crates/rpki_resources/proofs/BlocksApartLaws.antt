-- Blocks that are written alike are the same.
use Rattle.std.proofs.Common.{◌≡◌, ◌≤◌, ◌<◌, ◌^◌, ℕ, Bool, true, false, cond, eqb, Option, Some, None, List, [], ◌∷◌}
use Rattle.std.proofs.Common.{◌++◌, length, length-append, refl, sym, ap, subst, ◌∙◌, arith}
use Rattle.std.proofs.lemmas.Bool.{eqb-true}
use Rattle.rpki_der.specs.TagName.{TagName, bit_string, integer, sequence}
use Rattle.rpki_der.specs.ValueListLaws.{sequence_legal}
use Rattle.rpki_der.proofs.IntegerLaws.{one-number}
use Rattle.rpki_der.proofs.MembersLaws.{same-value, value-some}
use Rattle.rpki_resources.specs.declared.address.Address.{Address}
use Rattle.rpki_resources.specs.declared.block.Block.{Block}
use Rattle.rpki_resources.specs.declared.kind.ResourceKind.{ResourceKind}
use Rattle.rpki_resources.specs.declared.kind.ResourceKind.TheVariants.{Addresses, AsNumbers}
use Rattle.rpki_resources.specs.Address.{width, IsAddress, IsAddressOf, low_end, high_end}
use Rattle.rpki_resources.specs.Encoded.{address_contents, address_octets, as_contents, as_number_octets, shared_bits}
use Rattle.rpki_resources.specs.Encoded.{without_zeros, without_ones, prefix_or_range, pair_octets, block_octets}
use Rattle.rpki_resources.specs.Encoded.{blocks_octets, IsBlockOf, AreBlocksOf}
use Rattle.rpki_resources.proofs.AddressLaws.{width-most, one-address}
use Rattle.rpki_resources.proofs.BlocksLaws.{same-block}
use Rattle.rpki_resources.proofs.AddressWritingLaws.{address-spelled, address-few}
use Rattle.rpki_resources.proofs.NumberOctetsLaws.{as-unsigned}
use Rattle.rpki_resources.proofs.StrippedLaws.{are-shared, stripped-low, stripped-high}
use Rattle.rpki_resources.proofs.BlockWritingLaws.{as-few, bits-legal, integer-legal, as-pair-short, bits-pair-short}
use Rattle.rpki_resources.proofs.BlockWritingLaws.{block-short}

pub alone : (p q : List ℕ) → p ≡ q → p ++ [] ≡ q ++ []
alone p q e = ap (λ (w : List ℕ). w ++ []) e

bits-or-both : bit_string ≡ sequence → ⊥
bits-or-both e = let n = ap (λ (t : TagName). t.number) e in omega (arith, n)

number-or-both : integer ≡ sequence → ⊥
number-or-both e = let n = ap (λ (t : TagName). t.number) e in omega (arith, n)

-- ---- one value

address-apart : (w : ℕ) → w ≤ 128 → (x y : Address) (r s : List ℕ) → IsAddressOf w x → IsAddressOf w y
    → address_octets x ++ r ≡ address_octets y ++ s → (x ≡ y) × (r ≡ s)
address-apart w most x y r s h k e =
    let few = address-few x (omega (arith, most, h.0)) in
    let few' = address-few y (omega (arith, most, k.0)) in
    let v = same-value bit_string bit_string false false (address_contents x) (address_contents y) r s
    (bits-legal, omega (arith, few)) (bits-legal, omega (arith, few')) e in (
      one-address w x y (address_contents x) (address-spelled w x h)
          (subst (IsAddress w y) (sym v.contents) (address-spelled w y k)),
      v.rest,
    )

number-apart : (m n : ℕ) (r s : List ℕ) → m < 2 ^ 32 → n < 2 ^ 32 → as_number_octets m ++ r ≡ as_number_octets n ++ s
    → (m ≡ n) × (r ≡ s)
number-apart m n r s h k e =
    let v = same-value integer integer false false (as_contents m) (as_contents n) r s
    (integer-legal, omega (arith, as-few m)) (integer-legal, omega (arith, as-few n)) e in
    let same = ap (λ (c : List ℕ). c) v.contents in
    let there = as-unsigned n k in
    (one-number m n (as_contents m) (as-unsigned m h) (rw (sym same) at there), v.rest)

-- ---- two of them

pair-apart : {A : Type 0} (octets : A → List ℕ) (P : A → Type 0)
    (one : (x y : A) (r s : List ℕ) → P x → P y → octets x ++ r ≡ octets y ++ s → (x ≡ y) × (r ≡ s))
    (x x' y y' : A) (r s : List ℕ) → P x → P x' → P y → P y' → length (octets x ++ octets x') < 2 ^ 32
    → length (octets y ++ octets y') < 2 ^ 32
    → pair_octets (octets x) (octets x') ++ r ≡ pair_octets (octets y) (octets y') ++ s → (x ≡ y) × (x' ≡ y') × (r ≡ s)
pair-apart octets P one x x' y y' r s h h' k k' few few' e =
    let v = same-value sequence sequence true true (octets x ++ octets x') (octets y ++ octets y') r s
    (sequence_legal, few) (sequence_legal, few') e in
    let first = one x y (octets x') (octets y') h k v.contents in
    let second = one x' y' [] [] h' k' (alone (octets x') (octets y') first.1) in
    (first.0, second.0, v.rest)

-- ---- a block of addresses

ip-apart : (w : ℕ) → w ≤ 128 → (b d : Block) (r s : List ℕ) → b.low ≤ b.high → b.high < 2 ^ w → d.low ≤ d.high
    → d.high < 2 ^ w → (o o' : Option Address) → shared_bits w b.low b.high ≡ o → shared_bits w d.low d.high ≡ o'
    → prefix_or_range w b o ++ r ≡ prefix_or_range w d o' ++ s → (b ≡ d) × (r ≡ s)
ip-apart w most b d r s some lt some' lt' (Some x) (Some y) is is' e =
    let h = are-shared w b.low b.high x lt is in
    let k = are-shared w d.low d.high y lt' is' in
    let v = address-apart w most x y r s h.legal k.legal e in (
      same-block b d (sym h.low_is ∙ ap (low_end w) v.0 ∙ k.low_is) (sym h.high_is ∙ ap (high_end w) v.0 ∙ k.high_is),
      v.1,
    )
ip-apart w most b d r s some lt some' lt' (Some x) None is is' e =
    let h = are-shared w b.low b.high x lt is in
    let k = stripped-low w d.low (omega (arith, some', lt')) in
    let l = stripped-high w d.high lt' in
    let few = address-few x (omega (arith, most, h.legal.0)) in
    let sizes = bits-pair-short bit_string bit_string (without_zeros w d.low) (without_ones w d.high)
    (omega (arith, k.legal.0, most)) (omega (arith, l.legal.0, most)) in
    let v = same-value bit_string sequence false true (address_contents x)
    (address_octets (without_zeros w d.low) ++ address_octets (without_ones w d.high)) r s
    (bits-legal, omega (arith, few)) (sequence_legal, sizes.1) e in
    absurd (bits-or-both v.tag)
ip-apart w most b d r s some lt some' lt' None (Some y) is is' e =
    let h = are-shared w d.low d.high y lt' is' in
    let k = stripped-low w b.low (omega (arith, some, lt)) in
    let l = stripped-high w b.high lt in
    let few = address-few y (omega (arith, most, h.legal.0)) in
    let sizes = bits-pair-short bit_string bit_string (without_zeros w b.low) (without_ones w b.high)
    (omega (arith, k.legal.0, most)) (omega (arith, l.legal.0, most)) in
    let v = same-value bit_string sequence false true (address_contents y)
    (address_octets (without_zeros w b.low) ++ address_octets (without_ones w b.high)) s r
    (bits-legal, omega (arith, few)) (sequence_legal, sizes.1) (sym e) in
    absurd (bits-or-both v.tag)
ip-apart w most b d r s some lt some' lt' None None is is' e =
    let h = stripped-low w b.low (omega (arith, some, lt)) in
    let h' = stripped-high w b.high lt in
    let k = stripped-low w d.low (omega (arith, some', lt')) in
    let k' = stripped-high w d.high lt' in
    let sizes = bits-pair-short bit_string bit_string (without_zeros w b.low) (without_ones w b.high)
    (omega (arith, h.legal.0, most)) (omega (arith, h'.legal.0, most)) in
    let sizes' = bits-pair-short bit_string bit_string (without_zeros w d.low) (without_ones w d.high)
    (omega (arith, k.legal.0, most)) (omega (arith, k'.legal.0, most)) in
    let v = pair-apart address_octets (IsAddressOf w) (address-apart w most) (without_zeros w b.low)
    (without_ones w b.high) (without_zeros w d.low) (without_ones w d.high) r s h.legal h'.legal k.legal k'.legal
    sizes.1 sizes'.1 e in
    (same-block b d (sym h.end ∙ ap (low_end w) v.0 ∙ k.end) (sym h'.end ∙ ap (high_end w) v.1 ∙ k'.end), v.2)

-- ---- a block of AS numbers

as-apart : (b d : Block) (r s : List ℕ) → b.low ≤ b.high → b.high < 2 ^ 32 → d.low ≤ d.high → d.high < 2 ^ 32
    → (one two : Bool) → eqb b.low b.high ≡ one → eqb d.low d.high ≡ two
    → cond one (as_number_octets b.low) (pair_octets (as_number_octets b.low) (as_number_octets b.high)) ++ r
    ≡ cond two (as_number_octets d.low) (pair_octets (as_number_octets d.low) (as_number_octets d.high)) ++ s
    → (b ≡ d) × (r ≡ s)
as-apart b d r s some lt some' lt' true true p q e =
    let v = number-apart b.low d.low r s (omega (arith, some, lt)) (omega (arith, some', lt')) e in
    (same-block b d v.0 (sym (eqb-true b.low b.high p) ∙ v.0 ∙ eqb-true d.low d.high q), v.1)
as-apart b d r s some lt some' lt' true false p q e =
    let v = same-value integer sequence false true (as_contents b.low)
    (as_number_octets d.low ++ as_number_octets d.high) r s (integer-legal, omega (arith, as-few b.low))
    (sequence_legal, (as-pair-short integer integer d.low d.high).1) e in
    absurd (number-or-both v.tag)
as-apart b d r s some lt some' lt' false true p q e =
    let v = same-value integer sequence false true (as_contents d.low)
    (as_number_octets b.low ++ as_number_octets b.high) s r (integer-legal, omega (arith, as-few d.low))
    (sequence_legal, (as-pair-short integer integer b.low b.high).1) (sym e) in
    absurd (number-or-both v.tag)
as-apart b d r s some lt some' lt' false false p q e =
    let v = pair-apart as_number_octets (λ (n : ℕ). n < 2 ^ 32) number-apart b.low b.high d.low d.high r s
    (omega (arith, some, lt)) lt (omega (arith, some', lt')) lt' (as-pair-short integer integer b.low b.high).1
    (as-pair-short integer integer d.low d.high).1 e in
    (same-block b d v.0 v.1, v.2)

-- ---- a block, and blocks in sequence

block-apart : (kind : ResourceKind) (b d : Block) (r s : List ℕ) → IsBlockOf kind b → IsBlockOf kind d
    → block_octets kind b ++ r ≡ block_octets kind d ++ s → (b ≡ d) × (r ≡ s)
block-apart (Addresses family) b d r s h k e =
    ip-apart (width family) (width-most family) b d r s h.0 h.1 k.0 k.1 (shared_bits (width family) b.low b.high)
    (shared_bits (width family) d.low d.high) refl refl e
block-apart AsNumbers b d r s h k e =
    as-apart b d r s h.0 h.1 k.0 k.1 (eqb b.low b.high) (eqb d.low d.high) refl refl e

some-octets : (kind : ResourceKind) (b : Block) (r : List ℕ) → IsBlockOf kind b → [] ≡ block_octets kind b ++ r → ⊥
some-octets kind b r h e =
    omega (arith, value-some (block-short kind b h).value, length-append (block_octets kind b) r, ap length e)

pub blocks-apart : (kind : ResourceKind) (bs ds : List Block) → AreBlocksOf kind bs → AreBlocksOf kind ds
    → blocks_octets kind bs ≡ blocks_octets kind ds → bs ≡ ds
blocks-apart kind [] [] h k e = refl
blocks-apart kind [] (d ∷ ds) h k e = absurd (some-octets kind d (blocks_octets kind ds) k.0 e)
blocks-apart kind (b ∷ bs) [] h k e = absurd (some-octets kind b (blocks_octets kind bs) h.0 (sym e))
blocks-apart kind (b ∷ bs) (d ∷ ds) h k e =
    let v = block-apart kind b d (blocks_octets kind bs) (blocks_octets kind ds) h.0 k.0 e in
    let rest = blocks-apart kind bs ds h.1 k.1 v.1 in
    ap (λ (x : Block). x ∷ bs) v.0 ∙ ap (λ (xs : List Block). d ∷ xs) rest
