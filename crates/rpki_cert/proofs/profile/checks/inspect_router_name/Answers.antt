use Rattle.rpki.specs.StrictName.{IsPrintableOrUtf8}
use Rattle.rpki.proofs.RuleLaws.{named-not}
use Rattle.rpki_cert.proofs.profile.checks.inspect_router_name.Goals as goal

pub returns-in-Err : goal.returns-in-Err
returns-in-Err c = (
  λ h. named-not IsPrintableOrUtf8 c.in-Err.rule c.args.name.now c.in-Err.ensures (h c.if-not-strict.false),
  (c.in-Err.rule, c.in-Err.ensures, c.router_error.ensures),
)
