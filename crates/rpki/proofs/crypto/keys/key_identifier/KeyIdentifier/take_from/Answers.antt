use Rattle.std.proofs.Common.{refl}
use Rattle.rpki_der.proofs.TriedLaws.{tried-refused}
use Rattle.rpki.proofs.KeyIdentifierLaws.{not-octets, identifier-read, other-size}
use Rattle.rpki.proofs.crypto.keys.key_identifier.KeyIdentifier.take_from.Goals as goal

pub returns-in_err-octets : goal.returns-in_err-octets
returns-in_err-octets c = tried-refused _ _ _ _ _ _ _ c.from_residual.ensures
    (not-octets _ _ _ c.in_err-octets.field-0.0 refl c.in_err-octets.ensures)

pub returns-in-Ok : goal.returns-in-Ok
returns-in-Ok c = identifier-read _ _ _ _ c.in_ok-octets.ensures c.in-Ok.ensures

pub returns-in-Err : goal.returns-in-Err
returns-in-Err c =
    let h = c.in-Err.ensures in
    other-size _ _ _ _ c.in-Err.e refl c.in_ok-octets.ensures h.0 h.1
