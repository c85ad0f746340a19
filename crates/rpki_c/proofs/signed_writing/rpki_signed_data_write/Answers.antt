use Rattle.std.proofs.Common.{refl, inl, inr}
use Rattle.rpki_c.proofs.StatusLaws.{made-if}
use Rattle.rpki_c.proofs.signed_writing.rpki_signed_data_write.Goals as goal

pub returns-in-Some : goal.returns-in-Some
returns-in-Some c =
    let h = rw c.in-Some.is at c.in-Ok.ensures.reads in
    inl (_, h.1.0, made-if c.signed_of.ensures.short c.signed_of.ensures.octets c.store_if_short.ensures)

pub returns-in-Err : goal.returns-in-Err
returns-in-Err c =
    let h = c.in-Err.ensures.reads in
    inr (inr (
      record {
        refused = record { error = c.in-Err.e; number = c.number.ensures; nothing = h.1.0; kind = h.1.1 };
        other = h.0;
      },
      record { buffer = refl; size = refl },
    ))
