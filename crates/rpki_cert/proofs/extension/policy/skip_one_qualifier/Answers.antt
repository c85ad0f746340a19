use Rattle.std.proofs.Common.{rules}
use Rattle.rpki_der.specs.TagName.{sequence}
use Rattle.rpki_der.proofs.FormatLaws.{takes-around-one}
use Rattle.rpki_cert.specs.ExtensionContent.{qualifier_value}
use Rattle.rpki_cert.proofs.extension.policy.skip_one_qualifier.Goals as goal

pub returns : goal.returns
returns c = takes-around-one (λ _. (tt, tt)) sequence qualifier_value _ (λ b a x h. search rules) _ _ _
    c.in_sequence.ensures
