use Rattle.std.proofs.Common.{rules}
use Rattle.rpki_der.proofs.FormatLaws.{takes-around-one}
use Rattle.rpki_examples.specs.NumberList.{version_tag, byte}
use Rattle.rpki_examples.proofs.number_list.take_version.Goals as goal

pub returns : goal.returns
returns c =
    takes-around-one (λ n. n) version_tag byte _ (λ b a x h. search rules) _ _ _
    (rw c.new.ensures at c.in_constructed.ensures)
