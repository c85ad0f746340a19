use Rattle.std.proofs.Common.{subst}
use Rattle.sha2.specs.Sha256.{sha256}
use Rattle.rpki_rsa.specs.Key.{IsSignature}
use Rattle.rpki_rsa.specs.RsaKey.{RsaKey}
use Rattle.rpki_rsa.proofs.KeyLemmas.{one-key, no-key}
use Rattle.rpki_digests.proofs.rsa_provider.RsaProviderPreparingProvider.rsa_check_by.Goals as goal

pub returns-in-Ok : goal.returns-in-Ok
returns-in-Ok c =
    let spelled = rw c.in-Ok.is at c.requires in (
      λ t. record { key = c.in-Ok.key; spelled = spelled; signed = c.verifies.ensures.0 t },
      λ h. c.verifies.ensures.1
          (subst (λ (k : RsaKey). IsSignature k (sha256 c.args.message.now) c.args.signature.now)
          (one-key c.args._bits.now _ _ h.spelled spelled) h.signed),
    )

pub returns-in-Err : goal.returns-in-Err
returns-in-Err c =
    let none = rw c.in-Err.is at c.requires in
    (λ t. (cc), λ h. absurd (no-key c.args._bits.now c.in-Err.field-0 h.key none h.spelled))
