use Rattle.std.proofs.Common.{rules}
use Rattle.rpki_der.proofs.InsideLaws.{read-whole-exactly}
use Rattle.rpki_time.specs.PeriodValue.{SpellsPeriod, IsPeriodFault}
use Rattle.rpki_time.proofs.PeriodReadingLaws.{period-outer}
use Rattle.rpki_time.proofs.validity.Validity.decode.Goals as goal

pub returns : goal.returns
returns c =
    read-whole-exactly (λ p. p) SpellsPeriod IsPeriodFault (λ s e k. (period-outer s e k).other) _
    (λ b a x h. search rules) _ _ (rw c.from_slice.ensures at c.whole.ensures)
