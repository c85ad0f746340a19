use Rattle.std.proofs.Common.{arith, length-append}
use Rattle.rpki_der.proofs.DigitLaws.{length-digits}
use Rattle.rpki_der.proofs.HeaderWritingLaws.{digits-none, digits-more}
use Rattle.rpki_der.proofs.encode.header.+digit_count.Goals as goal

pub returns-then-room-eq0 : goal.returns-then-room-eq0
returns-then-room-eq0 t c = rw (digits-none _ _ _ _ c.then-room-eq0.either)

pub overflow_add-result : goal.overflow_add-result
overflow_add-result t c = omega (arith, c.digit_count.ensures, length-digits)

pub returns : goal.returns
returns t c = rw (digits-more _ _ _ _ c.if-room-eq0.false c.if-number-eq0.false, length-append)
    (omega (arith, c.digit_count.ensures))
