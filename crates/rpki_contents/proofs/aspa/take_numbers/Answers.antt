use Rattle.std.proofs.Common.{rules}
use Rattle.rpki_der.specs.TagName.{sequence}
use Rattle.rpki_der.proofs.FormatLaws.{takes-around}
use Rattle.rpki_contents.specs.Aspa.{each_number}
use Rattle.rpki_contents.proofs.aspa.take_numbers.Goals as goal

pub returns : goal.returns
returns c = takes-around (λ v. v.items) sequence each_number _ (λ b a x h. search rules) _ _ _ c.in_sequence.ensures
