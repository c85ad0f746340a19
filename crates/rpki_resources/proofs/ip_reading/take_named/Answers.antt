use Rattle.std.proofs.Common.{rules}
use Rattle.rpki_der.specs.TagName.{sequence}
use Rattle.rpki_der.proofs.FormatLaws.{takes-around}
use Rattle.rpki_resources.specs.Extension.{family_parts}
use Rattle.rpki_resources.proofs.ip_reading.take_named.Goals as goal

pub returns : goal.returns
returns c = takes-around (λ x. x) sequence family_parts _ (λ b a x h. search rules) _ _ _ c.in_sequence.ensures
