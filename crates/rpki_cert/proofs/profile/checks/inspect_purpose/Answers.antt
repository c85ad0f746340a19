use Rattle.std.proofs.Common.{Some, true, false, sym}
use Rattle.rpki_cert.specs.ExtensionContent.{SpellsPurposes}
use Rattle.rpki_cert.specs.declared.profile.rule.CertRule.TheVariants.{RouterPurpose}
use Rattle.rpki_der.specs.Reading.{AnyFault}
use Rattle.rpki_x509.proofs.WholeLaws.{not-true}
use Rattle.rpki_cert.proofs.ProfileLaws.{found-other, found-wrong}
use Rattle.rpki_cert.proofs.profile.checks.inspect_purpose.Goals as goal

pub returns-else-is_router : goal.returns-else-is_router
returns-else-is_router c =
    found-other false SpellsPurposes AnyFault RouterPurpose c.args.found _ c.in-Ok.purpose c.rejected.result
    c.in-Ok.ensures
    (λ k. (Some true, k, λ same. not-true c.is_router.result c.if-is_router.false (c.is_router.ensures.1 (sym same))))
    c.rejected.ensures

pub returns-in-Err : goal.returns-in-Err
returns-in-Err c = found-wrong false SpellsPurposes AnyFault RouterPurpose c.args.found _ c.in-Err.e c.in-Err.ensures
    (λ k. (Some true, k))
