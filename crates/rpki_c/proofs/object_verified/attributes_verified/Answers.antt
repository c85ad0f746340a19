use Rattle.std.proofs.Common.{List, ℕ, Err, subst, rules, ◌≡◌}
use Rattle.rpki.specs.declared.crypto.keys.PublicKeyFormat.TheVariants.{Rsa}
use Rattle.rpki_attributes.specs.SignedAttributes.{message_of}
use Rattle.rpki_rsa.specs.Key.{IsKeyOf}
use Rattle.rpki_c.proofs.VerificationLaws.{bad-signature, good-signature, not-accepted}
use Rattle.rpki_c.proofs.object_verified.attributes_verified.Goals as goal

pub returns-then-verifies_digest : goal.returns-then-verifies_digest
returns-then-verifies_digest c =
    let format : c.args.key.now.format ≡ Rsa = search rules in
    good-signature c.args.key.now (message_of c.args.attributes.now) c.args.signature.now c.in-Ok.ready
    c.verifies_digest.result format (rw c.bits.ensures at c.in-Ok.ensures)
    (rw c.attributes_digest-digest.ensures at c.verifies_digest.ensures) c.if-verifies_digest.true

pub returns-else-verifies_digest : goal.returns-else-verifies_digest
returns-else-verifies_digest c =
    let format : c.args.key.now.format ≡ Rsa = search rules in
    bad-signature c.args.key.now (message_of c.args.attributes.now) c.args.signature.now c.in-Ok.ready
    c.verifies_digest.result format (rw c.bits.ensures at c.in-Ok.ensures)
    (rw c.attributes_digest-digest.ensures at c.verifies_digest.ensures) c.if-verifies_digest.false

pub returns-in-Err : goal.returns-in-Err
returns-in-Err c =
    not-accepted c.args.key.now (message_of c.args.attributes.now) c.args.signature.now c.in-Err.field-0
    (subst (λ (bits : List ℕ). IsKeyOf bits (Err c.in-Err.field-0)) c.bits.ensures c.in-Err.ensures)
