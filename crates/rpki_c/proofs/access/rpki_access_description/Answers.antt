use Rattle.std.proofs.Common.{inr, refl}
use Rattle.rpki_cert.specs.AccessDescription.{description}
use Rattle.rpki_c.proofs.CertificateLaws.{description-no-memory}
use Rattle.rpki_c.proofs.StatusLaws.{front-refused}
use Rattle.rpki_c.proofs.access.rpki_access_description.Goals as goal

pub returns-in-Err : goal.returns-in-Err
returns-in-Err c =
    let h = rw c.from_slice-cursor.ensures at c.in-Err.ensures in
    inr (front-refused description (description-no-memory _) h c.number.ensures, refl, refl)
