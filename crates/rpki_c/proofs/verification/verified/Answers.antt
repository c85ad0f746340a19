use Rattle.std.proofs.Common.{◌≡◌, ℕ, List, Err, subst, rules}
use Rattle.rpki.specs.declared.crypto.keys.PublicKeyFormat.TheVariants.{Rsa}
use Rattle.rpki_rsa.specs.Key.{IsKeyOf}
use Rattle.rpki_c.proofs.VerificationLaws.{bad-signature, not-accepted}
use Rattle.rpki_c.proofs.verification.verified.Goals as goal

pub returns-else-verifies : goal.returns-else-verifies
returns-else-verifies c =
    let format : c.args.key.now.format ≡ Rsa = search rules in
    bad-signature c.args.key.now c.args.message.now c.args.signature.now c.in-Ok.ready c.verifies.result format
    (rw c.bits.ensures at c.in-Ok.ensures) c.verifies.ensures c.if-verifies.false

pub returns-in-Err : goal.returns-in-Err
returns-in-Err c =
    not-accepted c.args.key.now c.args.message.now c.args.signature.now c.in-Err.field-0
    (subst (λ (bits : List ℕ). IsKeyOf bits (Err c.in-Err.field-0)) c.bits.ensures c.in-Err.ensures)
