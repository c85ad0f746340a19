use Rattle.std.proofs.Common.{rules}
use Rattle.rpki_der.specs.TagName.{sequence}
use Rattle.rpki_der.proofs.FormatLaws.{takes-around}
use Rattle.rpki_examples.specs.NumberList.{parts_of, parts}
use Rattle.rpki_examples.proofs.number_list.NumberList.take_from.Goals as goal

pub returns : goal.returns
returns c = takes-around parts_of sequence parts _ (λ b a x h. search rules) _ _ _ c.in_sequence.ensures
