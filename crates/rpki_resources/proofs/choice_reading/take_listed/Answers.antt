use Rattle.std.proofs.Common.{rules}
use Rattle.rpki_der.specs.TagName.{sequence}
use Rattle.rpki_der.proofs.FormatLaws.{takes-around}
use Rattle.rpki_resources.specs.InPlace.{blocks}
use Rattle.rpki_resources.proofs.choice_reading.take_listed.Goals as goal

pub returns : goal.returns
returns c =
    takes-around (λ x. x) sequence (blocks c.args.kind) _ (λ b a x h. search rules) _ _ _ c.in_sequence.ensures
