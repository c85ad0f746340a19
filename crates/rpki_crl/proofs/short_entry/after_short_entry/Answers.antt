use Rattle.std.proofs.Common.{arith}
use Rattle.rpki_crl.proofs.ShortEntryLaws.{entry-there}
use Rattle.rpki_crl.proofs.short_entry.after_short_entry.Goals as goal

pub returns-in-empty : goal.returns-in-empty
returns-in-empty c =
    let serial = c.is_serial.ensures c.if-not-is_serial.false in
    let time = c.is_utc_text.ensures.0 c.if-not-is_utc_text.false in
    entry-there _ _ _ _ _ _ _ c.in-Some.ensures.some c.in-Some-short_value.ensures.some
    c.in-Some-short_value-2.ensures.some (omega (arith, c.in-empty.len_below)) serial.0 serial.1 time.0 time.1
