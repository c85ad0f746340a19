use Rattle.std.proofs.Common.{arith, length-append}
use Rattle.rpki_der.proofs.DigitLaws.{length-digits}
use Rattle.rpki_der.proofs.HeaderWritingLaws.{identifier-low, identifier-high, pushed-thrice}
use Rattle.rpki_der.proofs.encode.header.HeaderOctets.push_identifier.Goals as goal

pub returns-then-number-lt31 : goal.returns-then-number-lt31
returns-then-number-lt31 c =
    rw (
      identifier-low c.args.tag c.args.constructed (omega arith),
      ← c.number-number.ensures.value,
      ←
          c.lead_octet.ensures,
    ) c.push.ensures

pub push-requires-3 : goal.push-requires-3
push-requires-3 c =
    rw (c.push_digits.ensures, length-append, c.push-2.ensures, length-append) (omega (arith, length-digits))

pub returns : goal.returns
returns c =
    rw (
      identifier-high c.args.tag c.args.constructed (omega arith),
      ← c.number-number.ensures.value,
      ←
          c.lead_octet-2.ensures,
    )
    (pushed-thrice _ _ _ _ _ _ _ c.push-2.ensures c.push_digits.ensures c.push-3.ensures)
