use Rattle.rpki_der.proofs.TriedLaws.{tried-refused}
use Rattle.rpki.specs.KeyFault.{shared_bits}
use Rattle.rpki.proofs.SigningLaws.{signature-accepted, signature-refused}
use Rattle.rpki.proofs.repository.x509.signed_data.signature_value.Goals as goal

pub returns-in_err-bits : goal.returns-in_err-bits
returns-in_err-bits g c =
    tried-refused _ _ _ _ _ _ _ c.from_residual.ensures
    (signature-refused shared_bits.fault _ _ c.in_err-bits.field-0.0 c.in_err-bits.ensures)

pub returns : goal.returns
returns g c = signature-accepted _ _ _ _ c.into_octets.ensures c.in_ok-bits.ensures
