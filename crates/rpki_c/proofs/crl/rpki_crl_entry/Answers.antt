use Rattle.std.proofs.Common.{inl, inr, refl}
use Rattle.rpki_crl.specs.Crl.{entry, entry_of}
use Rattle.rpki_crl.proofs.EntriesLaws.{entry-no-memory}
use Rattle.rpki_c.proofs.MomentLaws.{moment}
use Rattle.rpki_c.proofs.StatusLaws.{front-refused}
use Rattle.rpki_c.proofs.crl.rpki_crl_entry.Goals as goal

pub returns-in-Ok : goal.returns-in-Ok
returns-in-Ok c =
    let h = rw c.from_slice-cursor.ensures at c.in-Ok.ensures in
    let parts = h.spells.spelled.spelled in
    inl (
      refl,
      entry_of c.in-Ok.entry,
      rw (c.of.ensures, c.rest.ensures) h,
      record {
        serial = c.into_array.ensures.value;
        date = moment c.moment_of.ensures refl parts.two;
      },
    )

pub returns-in-Err : goal.returns-in-Err
returns-in-Err c =
    let h = rw c.from_slice-cursor.ensures at c.in-Err.ensures in
    inr (front-refused entry (entry-no-memory _) h c.number.ensures, refl, refl)
