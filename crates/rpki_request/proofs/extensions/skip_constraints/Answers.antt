use Rattle.std.proofs.Common.{rules, true}
use Rattle.rpki_der.specs.TagName.{sequence, boolean}
use Rattle.rpki_der.specs.Leaves.{IsOnly, boolean_contents}
use Rattle.rpki_der.specs.Format.{leaf}
use Rattle.rpki_der.proofs.FormatLaws.{takes-around-one}
use Rattle.rpki_request.proofs.extensions.skip_constraints.Goals as goal

pub returns : goal.returns
returns c = takes-around-one (λ _. tt) sequence (leaf boolean (IsOnly (boolean_contents true))) _
    (λ b a x h. search rules) _ _ _ c.in_sequence.ensures
