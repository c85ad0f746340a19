use Rattle.std.proofs.Common.{rules}
use Rattle.rpki_der.specs.TagName.{sequence}
use Rattle.rpki_der.proofs.FormatLaws.{takes-around}
use Rattle.rpki_request.specs.Request.{descriptions_in, each_description}
use Rattle.rpki_request.proofs.access.take_access.Goals as goal

pub returns : goal.returns
returns c =
    takes-around (λ v. descriptions_in v.items) sequence each_description _ (λ b a x h. search rules) _ _ _
    c.in_sequence.ensures
