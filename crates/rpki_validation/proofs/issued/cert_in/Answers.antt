use Rattle.rpki_x509.proofs.TriedLaws.{tried-fault}
use Rattle.rpki_validation.proofs.FindingLaws.{stops-malformed-cert}
use Rattle.rpki_validation.proofs.issued.cert_in.Goals as goal

pub returns-in_err-cert : goal.returns-in_err-cert
returns-in_err-cert c =
    tried-fault _ _ _ _ c.from_residual.ensures
    (stops-malformed-cert _ _ _ c.in_err-cert.ensures.decodes.0 c.in_err-cert.ensures.part)

pub returns : goal.returns
returns c = record { holds = c.in_ok-cert.ensures.decodes.0; sole = c.in_ok-cert.ensures.decodes.1 }
