use Rattle.rpki_cert.specs.Profile.{rules_of}
use Rattle.rpki_cert.proofs.RuleLaws.{not-all}
use Rattle.rpki_cert.proofs.profile.inspected.Inspected.test.Goals as goal

pub returns-in-Err : goal.returns-in-Err
returns-in-Err c = λ t h.
    let first = (c.in-Err.ensures t h).0 in
    (first, not-all c.args.strict t (rules_of c.args.profile) c.in-Err.field-0.rule first)

pub returns-in-Ok : goal.returns-in-Ok
returns-in-Ok c = λ t h. c.in-Ok.ensures t h
