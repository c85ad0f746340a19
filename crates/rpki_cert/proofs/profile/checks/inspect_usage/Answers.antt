use Rattle.std.proofs.Common.{Some, true, sym}
use Rattle.rpki_cert.specs.ExtensionContent.{SpellsUsage}
use Rattle.rpki_x509.proofs.WholeLaws.{not-true}
use Rattle.rpki_cert.proofs.ProfileLaws.{found-other, found-wrong}
use Rattle.rpki_cert.proofs.profile.checks.inspect_usage.Goals as goal
use Rattle.rpki_x509.specs.Authority.{WholeFault}
use Rattle.rpki_cert.specs.ExtensionContent.{usage_content}

pub returns-else-is_there : goal.returns-else-is_there
returns-else-is_there c = λ found h.
    found-other true SpellsUsage (WholeFault usage_content) c.args.rule found _ c.in-Ok.usage c.rejected.result
    (rw c.in-Ok.is at h)
    (λ k. (
      Some c.args.wanted,
      k,
      λ same. not-true c.is_there.result c.if-is_there.false
          (c.is_there.ensures.1 (sym same)),
    )) c.rejected.ensures

pub returns-in-Err : goal.returns-in-Err
returns-in-Err c = λ found h.
    found-wrong true SpellsUsage (WholeFault usage_content) c.args.rule found _ c.in-Err.e (rw c.in-Err.is at h)
    (λ k. (Some c.args.wanted, k))
