use Rattle.std.proofs.Common.{rules}
use Rattle.rpki_der.proofs.FormatLaws.{takes-around-one}
use Rattle.rpki_resources.specs.declared.kind.ResourceKind.TheVariants.{AsNumbers}
use Rattle.rpki_resources.specs.Extension.{as_numbers, choice}
use Rattle.rpki_resources.proofs.choice_reading.take_numbers.Goals as goal

pub returns : goal.returns
returns c =
    takes-around-one (λ v. v) as_numbers (choice AsNumbers) _ (λ b a x h. search rules) _ _ _
    (rw c.new.ensures at c.in_constructed.ensures)
