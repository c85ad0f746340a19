use Rattle.std.proofs.Common.{inr, refl}
use Rattle.rpki_c.specs.Taking.{value_of}
use Rattle.rpki_c.proofs.StatusLaws.{front-refused}
use Rattle.rpki_c.proofs.taking.take_optional.Goals as goal

pub returns-in-Err : goal.returns-in-Err
returns-in-Err c =
    let some = (rw c.from_slice-cursor.ensures at c.has_tag.ensures).0 c.if-not-has_tag.false in
    let h = rw c.from_slice-cursor.ensures at c.in-Err.ensures in
    inr (some, inr (front-refused (value_of c.args.tag c.args.constructed) (λ z. z) h c.number.ensures, refl, refl))
