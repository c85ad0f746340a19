use Rattle.std.proofs.Common.{[], Ok, Err}
use Rattle.rpki_der.proofs.FormatLaws.{failed, given-as, first, after, last, and, all}
use Rattle.rpki_der.proofs.PartsLaws.{pair-is}
use Rattle.rpki_time.proofs.PeriodReadingLaws.{ends, period-said}
use Rattle.rpki_time.proofs.validity.fn.Validity.take_from.in_sequence.Goals as goal

pub returns-in-Err : goal.returns-in-Err
returns-in-Err c = period-said _ [] (Err c.in-Err.e) (failed (first c.in-Err.ensures))

pub returns-in-Err-take_from : goal.returns-in-Err-take_from
returns-in-Err-take_from c =
    period-said _ [] (Err c.in-Err-take_from.e) (failed (after c.in-Ok.ensures (last c.in-Err-take_from.ensures)))

pub returns : goal.returns
returns c =
    let is = pair-is (ends c.new.result) _ _ c.new.ensures.not_before c.new.ensures.not_after in
    period-said _ _ (Ok c.new.result) (given-as is (and c.in-Ok.ensures (all c.in-Ok-take_from.ensures)))
