use Rattle.std.proofs.Common.{◌≡◌, Option, Some, None, true, IsTrue, subst}
use Rattle.rpki_cert.specs.declared.extension.policy.Overclaim.{Overclaim}
use Rattle.rpki_cert.specs.declared.profile.rule.CertRule.TheVariants.{ResourceVersion}
use Rattle.rpki_cert.specs.Cert.{find}
use Rattle.rpki_cert.specs.Known.{certificate_policies}
use Rattle.rpki_cert.specs.ExtensionContent.{SpellsPolicies}
use Rattle.rpki_cert.specs.RuleWords.{is_of_version, HasOneVersion}
use Rattle.rpki_x509.proofs.WholeLaws.{not-true}
use Rattle.rpki_cert.proofs.ProfileLaws.{found-other, found-wrong}
use Rattle.rpki_cert.proofs.profile.checks.inspect_version.Goals as goal
use Rattle.rpki_x509.specs.Authority.{WholeFault}
use Rattle.rpki_cert.specs.ExtensionContent.{policies_content}

pub returns-else-is_of_version : goal.returns-else-is_of_version
returns-else-is_of_version c = λ xs h k.
    let policy = c.in-Ok-Some.policy in
    let some = rw c.in-Ok-Some.is at c.in-Ok-Some.field-0-is in
    let said = rw some at (rw c.in-Ok-Some.is at k) in
    found-other true SpellsPolicies (WholeFault policies_content) ResourceVersion (find certificate_policies xs)
    (HasOneVersion xs) (Some policy) c.rejected.result said
    (λ p. (
      Some p.0,
      p.1,
      λ same. not-true c.is_of_version.result c.if-is_of_version.false
          (rw (c.is_of_version.ensures xs h) (subst (λ (q : Overclaim). IsTrue (is_of_version q xs))
          (one-some p.0 policy same) p.2)),
    )) c.rejected.ensures
  where
    one-some : (v w : Overclaim) → ◌≡◌ {A = Option Overclaim} (Some v) (Some w) → v ≡ w
    one-some v w e = cc

pub returns-in-Ok-None : goal.returns-in-Ok-None
returns-in-Ok-None c = λ xs h k.
    let none = rw c.in-Ok-None.is at c.in-Ok-None.field-0-is in
    let said = rw none at (rw c.in-Ok-None.is at k) in
    found-other true SpellsPolicies (WholeFault policies_content) ResourceVersion (find certificate_policies xs)
    (HasOneVersion xs) None c.rejected-in-Ok-None.result said
    (λ p. (Some p.0, p.1, λ same. some-none p.0 same)) c.rejected-in-Ok-None.ensures
  where
    some-none : (v : Overclaim) → ◌≡◌ {A = Option Overclaim} (Some v) None → ⊥
    some-none v e = cc

pub returns-in-Err : goal.returns-in-Err
returns-in-Err c = λ xs h k.
    found-wrong true SpellsPolicies (WholeFault policies_content) ResourceVersion (find certificate_policies xs)
    (HasOneVersion xs) c.in-Err.e (rw c.in-Err.is at k) (λ p. (Some p.0, p.1))
