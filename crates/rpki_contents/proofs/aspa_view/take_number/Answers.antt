use Rattle.rpki_contents.proofs.AspaViewLaws.{number_read}
use Rattle.rpki_contents.proofs.aspa_view.take_number.Goals as goal

pub returns-in-Some-clause-reads : goal.returns-in-Some-clause-reads
returns-in-Some-clause-reads c = rw (c.from_slice.ensures, ← c.rest.ensures) (number_read _ _ _ c.in-Some.ensures)
