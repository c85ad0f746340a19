use Rattle.std.proofs.Common.{Some, false, sym}
use Rattle.rpki.specs.KeyIdentifier.{SpellsKeyIdentifier}
use Rattle.rpki_cert.specs.Cert.{find}
use Rattle.rpki_cert.specs.Known.{subject_key_identifier}
use Rattle.rpki_valid.specs.Valid.{HasReason}
use Rattle.rpki_x509.proofs.WholeLaws.{not-true}
use Rattle.rpki_cert.proofs.ProfileLaws.{says-other, says-wrong}
use Rattle.rpki_valid.proofs.object_verified.verify_signer.Goals as goal
use Rattle.rpki_x509.specs.Authority.{WholeFault}
use Rattle.rpki_cert.specs.ExtensionContent.{subject_content}
use Rattle.rpki_valid.specs.ErrorTexts.{signer_text}

pub returns-else-is_identifier : goal.returns-else-is_identifier
returns-else-is_identifier c =
    let found = rw (c.tbs.ensures, c.cert.ensures) at c.in-Ok.ensures in
    let wanted = rw c.signer_identifier.ensures at c.is_identifier.ensures in
    let extensions = c.args.object.now.cert.tbs.extensions in
    says-other false SpellsKeyIdentifier (WholeFault subject_content)
    (HasReason signer_text)
    (find subject_key_identifier extensions) _ c.in-Ok.found c.unverified.result found
    (λ k. (
      Some c.args.object.now.signer.identifier,
      k,
      λ same. not-true c.is_identifier.result c.if-is_identifier.false (wanted.1 (sym same)),
    ))
    c.unverified.ensures

pub returns-in-Err : goal.returns-in-Err
returns-in-Err c =
    let wrong = rw (c.tbs.ensures, c.cert.ensures) at c.in-Err.ensures in
    let extensions = c.args.object.now.cert.tbs.extensions in
    says-wrong false SpellsKeyIdentifier (WholeFault subject_content)
    (HasReason signer_text)
    (find subject_key_identifier extensions) _ c.in-Err.e wrong
    (λ k. (Some c.args.object.now.signer.identifier, k))
