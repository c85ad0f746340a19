use Rattle.std.proofs.Common.{rules, true}
use Rattle.rpki_der.specs.TagName.{sequence}
use Rattle.rpki_der.proofs.FirstFaultLaws.{read-parts-inside}
use Rattle.rpki_time.specs.PeriodValue.{IsPeriod, times}
use Rattle.rpki_time.proofs.validity.Validity.take_from.Goals as goal

pub returns : goal.returns
returns c = read-parts-inside (λ p. p) sequence true IsPeriod times.fault _ (λ b a x h. search rules) _ _ _
    c.in_sequence.ensures
