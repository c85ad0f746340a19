use Rattle.std.proofs.Common.{◌≢◌, [], subst}
use Rattle.std.proofs.lemmas.Bool.{iff_false}
use Rattle.rpki_der.specs.Cursor.{left}
use Rattle.rpki_der.proofs.InsideLaws.{unless-memory}
use Rattle.rpki_crl.specs.Crl.{entry, entry_of}
use Rattle.rpki_crl.proofs.EntriesLaws.{entry-no-memory}
use Rattle.rpki_c.proofs.SerialTableLaws.{writing-next, writing-refused, writing-all}
use Rattle.rpki_c.proofs.serial_table.write_serials.Goals as goal

pub entries-preserved : goal.entries-preserved
entries-preserved c =
    let some : left c.entries.rest ≢ [] = iff_false c.is_empty.ensures c.entries-test.true in
    writing-next c.entries.invariant some (entry_of c.in-Ok.entry) (left c.take_from.new.cons) c.into_array.result _
    c.in-Ok.ensures c.put_serial.ensures.twenty c.into_array.ensures.value c.put_serial.ensures.within
    c.put_serial.ensures.beyond

pub returns-in-Err : goal.returns-in-Err
returns-in-Err c =
    let s = left c.entries.rest in
    let some : s ≢ [] = iff_false c.is_empty.ensures c.entries-test.true in
    let h = c.in-Err.ensures in
    absurd (writing-refused c.entries.invariant some
    (unless-memory c.in-Err.field-0 (λ z. entry-no-memory s (subst (entry.fault s) z h.kind)) h.refuses))

pub returns : goal.returns
returns c = writing-all c.entries.invariant (c.is_empty.ensures.0 c.entries-test.false)
