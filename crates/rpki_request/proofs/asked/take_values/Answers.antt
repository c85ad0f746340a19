use Rattle.std.proofs.Common.{rules}
use Rattle.rpki_der.specs.TagName.{set}
use Rattle.rpki_der.proofs.FormatLaws.{takes-around-one}
use Rattle.rpki_request.specs.Request.{asked_of, asked}
use Rattle.rpki_request.proofs.asked.take_values.Goals as goal

pub returns : goal.returns
returns g c = takes-around-one asked_of set asked _ (λ b a x h. search rules) _ _ _ c.in_set_with.ensures
