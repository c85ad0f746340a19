use Rattle.std.proofs.Common.{rules}
use Rattle.rpki_der.specs.TagName.{sequence}
use Rattle.rpki_der.proofs.FormatLaws.{takes-around}
use Rattle.rpki_request.specs.Request.{each_extension}
use Rattle.rpki_request.proofs.asked.take_extension_list.Goals as goal

pub returns : goal.returns
returns g c =
    takes-around (λ v. v.items) sequence each_extension _ (λ b a x h. search rules) _ _ _ c.in_sequence_with.ensures
