use Rattle.std.proofs.Common.{rules}
use Rattle.rpki_der.proofs.FormatLaws.{takes-around-one}
use Rattle.rpki_x509.specs.Tag.{zero_tag}
use Rattle.rpki_request.specs.Request.{asked_of, attribute}
use Rattle.rpki_request.proofs.asked.take_attributes.Goals as goal

pub returns : goal.returns
returns g c =
    takes-around-one (λ x. (tt, asked_of x)) zero_tag attribute _ (λ b a x h. search rules) _ _ _
    (rw c.new.ensures at c.in_constructed_with.ensures)
