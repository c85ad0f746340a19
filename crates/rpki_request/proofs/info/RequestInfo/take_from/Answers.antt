use Rattle.std.proofs.Common.{rules}
use Rattle.rpki_der.specs.TagName.{sequence}
use Rattle.rpki_der.proofs.FormatLaws.{takes-around}
use Rattle.rpki_request.specs.Request.{fields_in, fields}
use Rattle.rpki_request.proofs.info.RequestInfo.take_from.Goals as goal

pub returns : goal.returns
returns g c = takes-around fields_in sequence fields _ (λ b a x h. search rules) _ _ _ c.in_sequence_with.ensures
