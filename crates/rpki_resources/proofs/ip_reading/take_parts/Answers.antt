use Rattle.rpki_der.specs.Prelude.{Format, only}
use Rattle.rpki_der.proofs.FormatLaws.{tried, given, last, all}
use Rattle.rpki_resources.specs.declared.family.AddressFamily.{AddressFamily}
use Rattle.rpki_resources.specs.declared.kind.ResourceKind.TheVariants.{Addresses}
use Rattle.rpki_resources.specs.declared.choice_view.ChoiceView.{ChoiceView}
use Rattle.rpki_resources.specs.Extension.{choice, family_name, family_parts}
use Rattle.rpki_resources.proofs.ThenByLaws.{first-by, after-by, and-by}
use Rattle.rpki_resources.proofs.ip_reading.take_parts.Goals as goal

abbrev behind : AddressFamily → Format ChoiceView
behind family = only (choice (Addresses family))

pub returns-in_err-family : goal.returns-in_err-family
returns-in_err-family c =
    tried (λ x. x) family_parts _ _ c.from_residual.ensures (first-by family_name behind c.in_err-family.ensures)

pub returns-in_err-choice : goal.returns-in_err-choice
returns-in_err-choice c =
    tried (λ x. x) family_parts _ _ c.from_residual-in_err-choice.ensures
    (after-by family_name behind c.in_ok-family.ensures (last c.in_err-choice.ensures))

pub returns : goal.returns
returns c = given (and-by family_name behind c.in_ok-family.ensures (all c.in_ok-choice.ensures))
