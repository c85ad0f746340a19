use Rattle.std.proofs.Common.{Some, true}
use Rattle.rpki_cert.specs.ExtensionContent.{SpellsConstraints}
use Rattle.rpki_x509.specs.Authority.{WholeFault}
use Rattle.rpki_cert.specs.ExtensionContent.{constraints_content}
use Rattle.rpki_cert.specs.declared.profile.rule.CertRule.TheVariants.{BasicConstraints}
use Rattle.rpki_cert.proofs.ProfileLaws.{found-wrong}
use Rattle.rpki_cert.proofs.profile.checks.inspect_constraints.Goals as goal

pub returns-in-Err : goal.returns-in-Err
returns-in-Err c = λ found h.
    let fault = WholeFault constraints_content in
    let wrong = rw c.in-Err.is at h in
    found-wrong true SpellsConstraints fault BasicConstraints found _ _ wrong (λ k. (Some tt, k))
