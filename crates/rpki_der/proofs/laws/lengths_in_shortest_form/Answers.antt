use Rattle.rpki_der.proofs.ShortestLaws.{length-forms}
use Rattle.rpki_der.proofs.laws.lengths_in_shortest_form.Goals as goal

pub returns : goal.returns
returns c = length-forms
