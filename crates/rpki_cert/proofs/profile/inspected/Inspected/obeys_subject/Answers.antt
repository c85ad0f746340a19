use Rattle.std.proofs.Common.{drop}
use Rattle.rpki_cert.specs.Profile.{subject_rules}
use Rattle.rpki_cert.proofs.RuleLaws.{goes-on, stops}
use Rattle.rpki_cert.proofs.profile.inspected.Inspected.obeys_subject.Goals as goal

pub returns-in_err-obeys : goal.returns-in_err-obeys
returns-in_err-obeys c = λ t h.
    stops c.args.strict t 1 subject_rules c.in_err-obeys.field-0.0 _
    c.from_residual.ensures (c.in_err-obeys.ensures t h)

pub returns-in_err-obeys-2 : goal.returns-in_err-obeys-2
returns-in_err-obeys-2 c = λ t h.
    goes-on c.args.strict t 1 subject_rules _ (c.in_ok-obeys.ensures t h)
    (stops c.args.strict t 1 (drop 1 subject_rules) c.in_err-obeys-2.field-0.0 _
    c.from_residual-in_err-obeys-2.ensures (c.in_err-obeys-2.ensures t h))

pub returns-in_err-obeys-3 : goal.returns-in_err-obeys-3
returns-in_err-obeys-3 c = λ t h.
    goes-on c.args.strict t 1 subject_rules _ (c.in_ok-obeys.ensures t h)
    (goes-on c.args.strict t 1 (drop 1 subject_rules) _ (c.in_ok-obeys-2.ensures t h)
    (stops c.args.strict t 1 (drop 2 subject_rules) c.in_err-obeys-3.field-0.0 _
    c.from_residual-in_err-obeys-3.ensures (c.in_err-obeys-3.ensures t h)))

pub returns : goal.returns
returns c = λ t h.
    goes-on c.args.strict t 1 subject_rules _ (c.in_ok-obeys.ensures t h)
    (goes-on c.args.strict t 1 (drop 1 subject_rules) _ (c.in_ok-obeys-2.ensures t h)
    (goes-on c.args.strict t 1 (drop 2 subject_rules) _ (c.in_ok-obeys-3.ensures t h)
    (c.obeys-4.ensures t h)))
