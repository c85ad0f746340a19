use Rattle.std.proofs.Common.{inr, refl}
use Rattle.rpki_c.specs.Taking.{value_of}
use Rattle.rpki_c.proofs.StatusLaws.{front-refused}
use Rattle.rpki_c.proofs.taking.take.Goals as goal

pub returns-in-Err : goal.returns-in-Err
returns-in-Err c =
    let h = rw c.from_slice-cursor.ensures at c.in-Err.ensures in
    inr (front-refused (value_of c.args.tag c.args.constructed) (λ z. z) h c.number.ensures, refl, refl)
