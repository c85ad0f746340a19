use Rattle.std.proofs.Common.{sym, subst}
use Rattle.rpki_der.proofs.InsideLaws.{unless-memory}
use Rattle.rpki_cert.specs.declared.extension.key_usage.KeyUsage.{KeyUsage}
use Rattle.rpki_cert.specs.declared.extension.key_usage.KeyUsage.TheVariants.{Ca}
use Rattle.rpki_cert.specs.ExtensionContent.{SpellsUsage}
use Rattle.rpki_request.proofs.extensions.is_usage.Goals as goal

pub returns-in-Ok : goal.returns-in-Ok
returns-in-Ok c = (
  λ t. subst (λ (u : KeyUsage). SpellsUsage u c.args.octets.now) (c.is_authoritys.ensures.0 t) c.in-Ok.ensures.0,
  λ h. c.is_authoritys.ensures.1 (sym (c.in-Ok.ensures.1 Ca h)),
)

pub returns-in-Err : goal.returns-in-Err
returns-in-Err c = (
  λ t. absurd (cc),
  λ h. absurd (unless-memory c.in-Err.field-0 c.in-Err.ensures.1.other c.in-Err.ensures.0 Ca h),
)
