use Rattle.std.proofs.Common.{rules}
use Rattle.rpki_der.specs.TagName.{sequence}
use Rattle.rpki_der.proofs.FormatLaws.{takes-around}
use Rattle.rpki_resources.specs.AsNumber.{as_ends}
use Rattle.rpki_resources.proofs.as_number.take_range.Goals as goal

pub returns : goal.returns
returns c = takes-around (λ b. b) sequence as_ends _ (λ b a x h. search rules) _ _ _ c.in_sequence.ensures
