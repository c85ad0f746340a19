use Rattle.rpki_der.proofs.ShortestLaws.{identifier-forms}
use Rattle.rpki_der.proofs.laws.identifiers_in_shortest_form.Goals as goal

pub returns : goal.returns
returns c = identifier-forms
