use Rattle.rpki_cert.proofs.RuleLaws.{alone-obeyed, alone-broken}
use Rattle.rpki_cert.proofs.profile.inspected.Inspected.obeys.Goals as goal

pub returns-in-Ok : goal.returns-in-Ok
returns-in-Ok c = λ t h. alone-obeyed c.args.strict t c.args.rule (c.in-Ok.ensures t h)

pub returns-in-Err : goal.returns-in-Err
returns-in-Err c = λ t h. alone-broken c.args.strict t c.args.rule c.in-Err.error (c.in-Err.ensures t h)
