use Rattle.std.proofs.Common.{rules}
use Rattle.rpki_der.proofs.InsideLaws.{read-whole-exactly}
use Rattle.rpki_time.specs.TimeValue.{SpellsTime, IsTimeFault}
use Rattle.rpki_time.proofs.TimeReadingLaws.{time-exactly}
use Rattle.rpki_time.proofs.time.Time.decode.Goals as goal

pub returns : goal.returns
returns c =
    read-whole-exactly (λ t. t) SpellsTime IsTimeFault time-exactly _ (λ b a x h. search rules) _ _
    (rw c.from_slice.ensures at c.whole.ensures)
