-- Blocks as prefixes or as ranges, and that a list begins with one of them at most.
use Rattle.std.proofs.Common.{◌≡◌, ℕ, List, true, false, sym, ap, ◌∙◌, ◌^◌, arith, Result}
use Rattle.rpki_der.specs.declared.error.DecodeError.{DecodeError}
use Rattle.rpki_der.specs.Prelude.{TagName, sequence, bit_string, integer, HasTag, IsUnsignedBelow, Takes}
use Rattle.rpki_der.proofs.ChoiceLaws.{takes-first, takes-second}
use Rattle.rpki_der.proofs.LeavesLaws.{leaf-tag}
use Rattle.rpki_resources.specs.declared.block.Block.{Block}
use Rattle.rpki_resources.specs.declared.address.Address.{Address}
use Rattle.rpki_resources.specs.Address.{IsAddress, address, prefix_block, IsRange, prefix, range_ends, range, block}
use Rattle.rpki_resources.specs.AsNumber.{as_number, IsOneNumber, as_id, IsAsRange, as_ends, as_range, as_block}
use Rattle.rpki_resources.proofs.BlocksLaws.{same-block}
use Rattle.rpki_resources.proofs.ComposingLaws.{standing-apart}

pub one-range : (w : ℕ) (b d : Block) (x : Address × Address) → IsRange w b x → IsRange w d x → d ≡ b
one-range w b d x h k = same-block d b (k.low ∙ sym h.low) (k.high ∙ sym h.high)

pub one-as-range : (b d : Block) (x : ℕ × ℕ) → IsAsRange b x → IsAsRange d x → d ≡ b
one-as-range b d x h k = same-block d b (k.low ∙ sym h.low) (k.high ∙ sym h.high)

pub one-number : (b d : Block) (n : ℕ) → IsOneNumber b n → IsOneNumber d n → d ≡ b
one-number b d n h k = same-block d b (k.0 ∙ sym h.0) (k.1 ∙ sym h.1)

not-bits : sequence ≡ bit_string → ⊥
not-bits e = let n = ap (λ (t : TagName). t.number) e in omega (arith, n)

not-integer : sequence ≡ integer → ⊥
not-integer e = let n = ap (λ (t : TagName). t.number) e in omega (arith, n)

-- a block of addresses: a range, or a prefix
module _ (w : ℕ) (s r : List ℕ) (x : Result Block DecodeError) where
  abbrev IsPrefixBlock : Block → Address → Type 0
  IsPrefixBlock b a = b ≡ prefix_block w a

  pub takes-range : HasTag sequence s → Takes (λ b. b) (range w) s r x → Takes (λ b. b) (block w) s r x
  takes-range = takes-first (λ b. b) sequence (range w) (prefix w) (leaf-tag sequence true (range_ends w).spells)
      (standing-apart IsPrefixBlock (address w) sequence bit_string not-bits (leaf-tag bit_string false (IsAddress w)))
      s r x

  pub takes-prefix : (HasTag sequence s → ⊥) → Takes (λ b. b) (prefix w) s r x → Takes (λ b. b) (block w) s r x
  takes-prefix = takes-second (λ b. b) sequence (range w) (prefix w) (leaf-tag sequence true (range_ends w).spells)
      (standing-apart IsPrefixBlock (address w) sequence bit_string not-bits (leaf-tag bit_string false (IsAddress w)))
      s r x

-- a block of AS numbers: a range, or one
module _ (s r : List ℕ) (x : Result Block DecodeError) where
  pub takes-as-range : HasTag sequence s → Takes (λ b. b) as_range s r x → Takes (λ b. b) as_block s r x
  takes-as-range = takes-first (λ b. b) sequence as_range as_id (leaf-tag sequence true as_ends.spells)
      (standing-apart IsOneNumber as_number sequence integer not-integer
      (leaf-tag integer false (IsUnsignedBelow (2 ^ 32)))) s r x

  pub takes-as-id : (HasTag sequence s → ⊥) → Takes (λ b. b) as_id s r x → Takes (λ b. b) as_block s r x
  takes-as-id = takes-second (λ b. b) sequence as_range as_id (leaf-tag sequence true as_ends.spells)
      (standing-apart IsOneNumber as_number sequence integer not-integer
      (leaf-tag integer false (IsUnsignedBelow (2 ^ 32)))) s r x
