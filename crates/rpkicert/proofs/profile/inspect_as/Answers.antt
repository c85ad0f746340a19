use Rattle.std.proofs.Common.{refl}
use Rattle.rpki_cert.specs.Profile.{rules_of}
use Rattle.rpkicert.proofs.ViolationLaws.{breaks-with}
use Rattle.rpkicert.proofs.profile.inspect_as.Goals as goal

pub returns-in-Err-inspect : goal.returns-in-Err-inspect
returns-in-Err-inspect c = (
  c.in-Err-inspect.ensures.0,
  (
    _,
    refl,
    breaks-with c.args.strict c.args.tbs.now (rules_of c.args.profile) c.in-Err.rule c.in-Err-inspect.error
        c.in-Err.ensures.0 c.in-Err-inspect.ensures.1,
  ),
)
