use Rattle.std.proofs.Common.{rules}
use Rattle.rpki_der.specs.Prelude.{sequence, end}
use Rattle.rpki_der.proofs.FormatLaws.{takes-around}
use Rattle.rpki_request.proofs.info.skip_nameless.Goals as goal

pub returns : goal.returns
returns c = takes-around (λ _. tt) sequence end _ (λ b a x h. search rules) _ _ _ c.in_sequence.ensures
