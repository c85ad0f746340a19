use Rattle.std.proofs.Common.{inr, refl}
use Rattle.rpki_cert.specs.AccessDescription.{general_name}
use Rattle.rpki_cert.proofs.GeneralNameLaws.{name-no-memory}
use Rattle.rpki_c.proofs.StatusLaws.{front-refused}
use Rattle.rpki_c.proofs.access.rpki_general_name.Goals as goal

pub returns-in-Err : goal.returns-in-Err
returns-in-Err c =
    let h = rw c.from_slice-cursor.ensures at c.in-Err.ensures in
    inr (front-refused general_name (name-no-memory _) h c.number.ensures, refl, refl)
