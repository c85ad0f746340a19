use Rattle.std.proofs.Common.{rules}
use Rattle.rpki_der.specs.TagName.{sequence}
use Rattle.rpki_der.proofs.FormatLaws.{takes-around-one}
use Rattle.rpki_resources.specs.Extension.{asnum}
use Rattle.rpki_resources.proofs.choice_reading.take_as_resources.Goals as goal

pub returns : goal.returns
returns c = takes-around-one (λ v. v) sequence asnum _ (λ b a x h. search rules) _ _ _ c.in_sequence.ensures
