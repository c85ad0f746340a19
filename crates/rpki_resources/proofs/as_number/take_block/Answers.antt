use Rattle.std.proofs.Common.{Ok}
use Rattle.std.proofs.lemmas.Bool.{iff_false}
use Rattle.rpki_der.proofs.ChoiceLaws.{such-read}
use Rattle.rpki_der.proofs.TriedLaws.{tried-refused}
use Rattle.rpki_resources.specs.AsNumber.{as_number, IsOneNumber, as_id}
use Rattle.rpki_resources.proofs.ComposingLaws.{standing-refused}
use Rattle.rpki_resources.proofs.RangeLaws.{takes-as-range, takes-as-id, one-number}
use Rattle.rpki_resources.proofs.as_number.take_block.Goals as goal

pub returns-then-has_tag : goal.returns-then-has_tag
returns-then-has_tag c = takes-as-range _ _ _ (c.has_tag.ensures.0 c.if-has_tag.true) c.take_range.ensures

pub returns-in_err-take_as_number : goal.returns-in_err-take_as_number
returns-in_err-take_as_number c =
    takes-as-id _ _ _ (iff_false c.has_tag.ensures c.if-has_tag.false)
    (tried-refused (λ b. b) as_id.spells as_id.fault _ _ _ _ c.from_residual.ensures
    (standing-refused IsOneNumber as_number c.in_err-take_as_number.ensures))

pub returns : goal.returns
returns c =
    takes-as-id _ _ (Ok _) (iff_false c.has_tag.ensures c.if-has_tag.false)
    (such-read IsOneNumber as_number _ c.in_ok-take_as_number.ensures (c.from-number.ensures, c.from-number.ensures)
    (λ d k. one-number _ d _ (c.from-number.ensures, c.from-number.ensures) k))
