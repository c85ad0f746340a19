use Rattle.rpki_der.proofs.FormatLaws.{failed, given, first, last, after, all, and}
use Rattle.rpki_crl.proofs.crl_entry.fn.CrlEntry.take_from.in_sequence.Goals as goal

pub returns-in-Err : goal.returns-in-Err
returns-in-Err c = failed (first c.in-Err.ensures)

pub returns-in-Err-take_from : goal.returns-in-Err-take_from
returns-in-Err-take_from c = failed (after c.in-Ok.ensures (last c.in-Err-take_from.ensures))

pub returns : goal.returns
returns c = given (and c.in-Ok.ensures (all c.in-Ok-take_from.ensures))
