use Rattle.std.proofs.Common.{Ok, refl}
use Rattle.std.proofs.lemmas.Bool.{iff_false}
use Rattle.rpki_der.specs.Prelude.{null_value}
use Rattle.rpki_der.proofs.ChoiceLaws.{such-read}
use Rattle.rpki_der.proofs.TriedLaws.{tried-refused}
use Rattle.rpki_resources.specs.declared.choice_view.ChoiceView.TheVariants.{Inherit, Blocks}
use Rattle.rpki_resources.specs.Extension.{inherit, block_list, listed_blocks}
use Rattle.rpki_resources.proofs.ComposingLaws.{standing-refused}
use Rattle.rpki_resources.proofs.ExtensionLaws.{IsInherit, IsList, takes-inherit, takes-listed}
use Rattle.rpki_resources.proofs.choice_reading.take_choice.Goals as goal

pub returns-in_err-take_null : goal.returns-in_err-take_null
returns-in_err-take_null c =
    takes-inherit c.args.kind _ _ _ (c.has_tag.ensures.0 c.if-has_tag.true)
    (tried-refused (λ v. v) inherit.spells inherit.fault _ _ _ _ c.from_residual.ensures
    (standing-refused IsInherit null_value c.in_err-take_null.ensures))

pub returns-then-has_tag : goal.returns-then-has_tag
returns-then-has_tag c =
    takes-inherit c.args.kind _ _ (Ok Inherit) (c.has_tag.ensures.0 c.if-has_tag.true)
    (such-read IsInherit null_value Inherit c.in_ok-take_null.ensures refl (λ w k. k))

pub returns-in_err-listed : goal.returns-in_err-listed
returns-in_err-listed c =
    let kind = c.args.kind in
    takes-listed kind _ _ _ (iff_false c.has_tag.ensures c.if-has_tag.false)
    (tried-refused (λ v. v) (listed_blocks kind).spells (listed_blocks kind).fault _ _ _ _
    c.from_residual-in_err-listed.ensures
    (standing-refused IsList (block_list kind) c.in_err-listed.ensures))

pub returns : goal.returns
returns c =
    let kind = c.args.kind in
    takes-listed kind _ _ (Ok _) (iff_false c.has_tag.ensures c.if-has_tag.false)
    (such-read IsList (block_list kind) (Blocks c.in_ok-listed.listed) c.in_ok-listed.ensures refl (λ w k. k))
