use Rattle.std.proofs.Common.{inr, refl}
use Rattle.rpki_contents.specs.Aspa.{as_number}
use Rattle.rpki_c.proofs.ObjectLaws.{number-no-memory}
use Rattle.rpki_c.proofs.StatusLaws.{front-refused}
use Rattle.rpki_c.proofs.aspa.rpki_aspa_provider.Goals as goal

pub returns-in-Err : goal.returns-in-Err
returns-in-Err c =
    let h = rw c.from_slice-cursor.ensures at c.in-Err.ensures in
    inr (front-refused as_number (number-no-memory c.args.rest.now.octets.now) h c.number.ensures, refl, refl)
