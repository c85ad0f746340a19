use Rattle.std.proofs.Common.{Some, false, sym}
use Rattle.rpki_x509.specs.Authority.{SpellsAuthority}
use Rattle.rpki_cert.specs.Cert.{find}
use Rattle.rpki_x509.specs.Authority.{authority_key_identifier}
use Rattle.rpki_valid.specs.Valid.{HasReason}
use Rattle.rpki_x509.proofs.WholeLaws.{not-true}
use Rattle.rpki_cert.proofs.ProfileLaws.{says-other, says-wrong}
use Rattle.rpki_valid.proofs.verify.verify_authority.Goals as goal
use Rattle.rpki_x509.specs.Authority.{WholeFault, authority_content}
use Rattle.rpki_valid.specs.ErrorTexts.{authority_text}

pub returns-else-is_identifier : goal.returns-else-is_identifier
returns-else-is_identifier c =
    says-other false SpellsAuthority (WholeFault authority_content)
    (HasReason authority_text)
    (find authority_key_identifier c.args.cert.now.extensions) _ c.in-Ok.found c.unverified.result c.in-Ok.ensures
    (λ k. (
      Some c.args.wanted,
      k,
      λ same. not-true c.is_identifier.result c.if-is_identifier.false
          (c.is_identifier.ensures.1 (sym same)),
    )) c.unverified.ensures

pub returns-in-Err : goal.returns-in-Err
returns-in-Err c =
    says-wrong false SpellsAuthority (WholeFault authority_content)
    (HasReason authority_text)
    (find authority_key_identifier c.args.cert.now.extensions) _ c.in-Err.e c.in-Err.ensures
    (λ k. (Some c.args.wanted, k))
