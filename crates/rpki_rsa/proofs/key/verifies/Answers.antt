use Rattle.std.proofs.Common.{subst}
use Rattle.sha2.specs.Sha256.{sha256}
use Rattle.rpki_rsa.specs.Key.{IsSignature}
use Rattle.rpki_rsa.specs.RsaKey.{RsaKey}
use Rattle.rpki_rsa.proofs.KeyLemmas.{one-key, no-key}
use Rattle.rpki_rsa.proofs.key.verifies.Goals as goal

pub returns-in-Ok : goal.returns-in-Ok
returns-in-Ok c = (
  λ t. record { key = c.in-Ok.key; spelled = c.in-Ok.ensures; signed = c.verifies.ensures.0 t },
  λ h. c.verifies.ensures.1
      (subst (λ (k : RsaKey). IsSignature k (sha256 c.args.message.now) c.args.signature.now)
      (one-key c.args.bits.now _ _ h.spelled c.in-Ok.ensures) h.signed),
)

pub returns-in-Err : goal.returns-in-Err
returns-in-Err c = (λ t. (cc), λ h. absurd (no-key c.args.bits.now c.in-Err.field-0 h.key c.in-Err.ensures h.spelled))
