use Rattle.std.proofs.Common.{Some, false, sym}
use Rattle.rpki.specs.KeyIdentifier.{SpellsKeyIdentifier}
use Rattle.rpki_cert.specs.Cert.{find}
use Rattle.rpki_cert.specs.Known.{subject_key_identifier}
use Rattle.rpki_valid.specs.Valid.{HasReason}
use Rattle.rpki_x509.proofs.WholeLaws.{not-true}
use Rattle.rpki_cert.proofs.ProfileLaws.{says-other, says-wrong}
use Rattle.rpki_valid.proofs.verify.verify_subject.Goals as goal
use Rattle.rpki_x509.specs.Authority.{WholeFault}
use Rattle.rpki_cert.specs.ExtensionContent.{subject_content}
use Rattle.rpki_valid.specs.ErrorTexts.{subject_text}

pub returns-else-is_identifier : goal.returns-else-is_identifier
returns-else-is_identifier c =
    says-other false SpellsKeyIdentifier (WholeFault subject_content)
    (HasReason subject_text) (find subject_key_identifier c.args.cert.now.extensions) _
    c.in-Ok.found c.unverified.result c.in-Ok.ensures
    (λ k. (
      Some c.args.wanted,
      k,
      λ same. not-true c.is_identifier.result c.if-is_identifier.false
          (c.is_identifier.ensures.1 (sym same)),
    )) c.unverified.ensures

pub returns-in-Err : goal.returns-in-Err
returns-in-Err c =
    says-wrong false SpellsKeyIdentifier (WholeFault subject_content)
    (HasReason subject_text) (find subject_key_identifier c.args.cert.now.extensions) _
    c.in-Err.e c.in-Err.ensures (λ k. (Some c.args.wanted, k))
