use Rattle.std.proofs.Common.{rules}
use Rattle.rpki_der.specs.TagName.{sequence}
use Rattle.rpki_der.proofs.FormatLaws.{takes-around}
use Rattle.rpki_contents.specs.Aspa.{listed_of, fields}
use Rattle.rpki_contents.proofs.aspa.take_listed.Goals as goal

pub returns : goal.returns
returns c = takes-around listed_of sequence fields _ (λ b a x h. search rules) _ _ _ c.in_sequence.ensures
