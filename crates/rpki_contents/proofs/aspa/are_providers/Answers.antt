use Rattle.rpki_contents.proofs.AspaLaws.{numbers-fit}
use Rattle.rpki_contents.proofs.aspa.are_providers.Goals as goal

pub returns-then-is_empty-clause-numbers : goal.returns-then-is_empty-clause-numbers
returns-then-is_empty-clause-numbers c = numbers-fit _ c.type_inv.providers

pub returns-then-not-ascend-clause-numbers : goal.returns-then-not-ascend-clause-numbers
returns-then-not-ascend-clause-numbers c = numbers-fit _ c.type_inv.providers

pub returns-clause-numbers : goal.returns-clause-numbers
returns-clause-numbers c = numbers-fit _ c.type_inv.providers
