use Rattle.std.proofs.Common.{inr, refl}
use Rattle.rpki_c.proofs.key_writing.rpki_rsa_key_of_bits.Goals as goal

pub returns-in-Err : goal.returns-in-Err
returns-in-Err c =
    let h = rw c.in-Ok.ensures at c.in-Err.ensures in
    inr (
      inr (record { error = c.in-Err.e; number = c.number.ensures; nothing = h.0; kind = h.1 }),
      record { buffer = refl; size = refl },
    )
