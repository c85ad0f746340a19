-- Choices: those of the issuer, or blocks.
use Rattle.std.proofs.Common.{◌≡◌, ℕ, List, true, false, ap, arith, Result}
use Rattle.rpki_der.specs.declared.error.DecodeError.{DecodeError}
use Rattle.rpki_der.specs.Prelude.{TagName, null, sequence, IsNull, Spells, HasTag, null_value, Takes}
use Rattle.rpki_der.proofs.ChoiceLaws.{takes-first, takes-second}
use Rattle.rpki_der.proofs.LeavesLaws.{leaf-tag}
use Rattle.rpki_resources.specs.declared.kind.ResourceKind.{ResourceKind}
use Rattle.rpki_resources.specs.declared.choice_view.ChoiceView.{ChoiceView}
use Rattle.rpki_resources.specs.declared.choice_view.ChoiceView.TheVariants.{Inherit, Blocks}
use Rattle.rpki_resources.specs.InPlace.{Octets, IsListed}
use Rattle.rpki_resources.specs.Extension.{inherit, block_list, listed_blocks, choice}
use Rattle.rpki_resources.proofs.ComposingLaws.{value-of, standing-apart}

abbrev pub IsInherit : ChoiceView → Unit {0} → Type 0
IsInherit v nothing = v ≡ Inherit

abbrev pub IsList : ChoiceView → Octets → Type 0
IsList v x = v ≡ Blocks x

not-null : null ≡ sequence → ⊥
not-null e = let n = ap (λ (t : TagName). t.number) e in omega (arith, n)

pub inherit-tag : (s : List ℕ) (v : ChoiceView) (r : List ℕ) → Spells inherit.spells s v r → HasTag null s
inherit-tag s v r h = leaf-tag null false IsNull s h.spelled.value r (value-of IsInherit null_value h)

module _ (kind : ResourceKind) where
  pub listed-tag : (s : List ℕ) (v : ChoiceView) (r : List ℕ) → Spells (listed_blocks kind).spells s v r
      → HasTag null s → ⊥
  listed-tag = standing-apart IsList (block_list kind) null sequence not-null (leaf-tag sequence true (IsListed kind))

  module _ (s r : List ℕ) (x : Result ChoiceView DecodeError) where
    pub takes-inherit : HasTag null s → Takes (λ v. v) inherit s r x → Takes (λ v. v) (choice kind) s r x
    takes-inherit = takes-first (λ v. v) null inherit (listed_blocks kind) inherit-tag listed-tag s r x

    pub takes-listed : (HasTag null s → ⊥) → Takes (λ v. v) (listed_blocks kind) s r x
        → Takes (λ v. v) (choice kind) s r x
    takes-listed = takes-second (λ v. v) null inherit (listed_blocks kind) inherit-tag listed-tag s r x
