use Rattle.std.proofs.Common.{arith, length-append}
use Rattle.rpki_der.proofs.DigitLaws.{length-digits}
use Rattle.rpki_der.proofs.HeaderWritingLaws.{digits-none, digits-more, pushed-nothing, pushed-twice}
use Rattle.rpki_der.proofs.encode.header.HeaderOctets.+push_digits.Goals as goal

pub returns-then-room-eq0 : goal.returns-then-room-eq0
returns-then-room-eq0 t c = pushed-nothing _ _ (digits-none _ _ _ _ c.then-room-eq0.either)

pub push-requires : goal.push-requires
push-requires t c = rw (c.push_digits.ensures, length-append) (omega (arith, length-digits))

pub returns : goal.returns
returns t c = rw (digits-more _ _ _ _ c.if-room-eq0.false c.if-number-eq0.false)
    (pushed-twice _ _ _ _ _ c.push_digits.ensures c.push.ensures)
