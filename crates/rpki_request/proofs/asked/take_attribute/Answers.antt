use Rattle.std.proofs.Common.{rules}
use Rattle.rpki_der.specs.TagName.{sequence}
use Rattle.rpki_der.proofs.FormatLaws.{takes-around}
use Rattle.rpki_request.specs.Request.{asked_of, attribute_parts}
use Rattle.rpki_request.proofs.asked.take_attribute.Goals as goal

pub returns : goal.returns
returns g c =
    takes-around (λ x. (tt, asked_of x)) sequence attribute_parts _ (λ b a x h. search rules) _ _ _
    c.in_sequence_with.ensures
