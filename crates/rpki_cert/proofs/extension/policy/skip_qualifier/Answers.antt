use Rattle.std.proofs.Common.{rules}
use Rattle.rpki_der.specs.TagName.{sequence}
use Rattle.rpki_der.proofs.FormatLaws.{takes-around}
use Rattle.rpki_cert.specs.ExtensionContent.{qualifier_parts}
use Rattle.rpki_cert.proofs.extension.policy.skip_qualifier.Goals as goal

pub returns : goal.returns
returns c = takes-around (λ _. (tt, tt)) sequence qualifier_parts _ (λ b a x h. search rules) _ _ _
    c.in_sequence.ensures
