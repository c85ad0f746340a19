use Rattle.std.proofs.Common.{arith}
use Rattle.rpki_der.proofs.DigitLaws.{length-digits}
use Rattle.rpki_der.proofs.HeaderWritingLaws.{length-short, length-long, pushed-twice}
use Rattle.rpki_der.proofs.encode.header.HeaderOctets.push_length.Goals as goal

pub returns-then-contents_len-lt128 : goal.returns-then-contents_len-lt128
returns-then-contents_len-lt128 c = rw (length-short c.args.contents_len c.if-contents_len-lt128.true) c.push.ensures

pub overflow_add-digit_count : goal.overflow_add-digit_count
overflow_add-digit_count c = omega (arith, c.digit_count.ensures, length-digits)

pub returns : goal.returns
returns c = rw (length-long c.args.contents_len c.if-contents_len-lt128.false, ← c.digit_count.ensures)
    (pushed-twice _ _ _ _ _ c.push-2.ensures c.push_digits.ensures)
