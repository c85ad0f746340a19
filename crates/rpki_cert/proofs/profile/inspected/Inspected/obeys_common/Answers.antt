use Rattle.std.proofs.Common.{drop}
use Rattle.rpki_cert.specs.Profile.{common_rules}
use Rattle.rpki_cert.proofs.RuleLaws.{goes-on, stops}
use Rattle.rpki_cert.proofs.profile.inspected.Inspected.obeys_common.Goals as goal

pub returns-in_err-obeys : goal.returns-in_err-obeys
returns-in_err-obeys c = λ t h.
    stops c.args.strict t 1 common_rules c.in_err-obeys.field-0.0 _
    c.from_residual.ensures (c.in_err-obeys.ensures t h)

pub returns-in_err-obeys-2 : goal.returns-in_err-obeys-2
returns-in_err-obeys-2 c = λ t h.
    goes-on c.args.strict t 1 common_rules _ (c.in_ok-obeys.ensures t h)
    (stops c.args.strict t 1 (drop 1 common_rules) c.in_err-obeys-2.field-0.0 _
    c.from_residual-in_err-obeys-2.ensures (c.in_err-obeys-2.ensures t h))

pub returns-in_err-obeys-3 : goal.returns-in_err-obeys-3
returns-in_err-obeys-3 c = λ t h.
    goes-on c.args.strict t 1 common_rules _ (c.in_ok-obeys.ensures t h)
    (goes-on c.args.strict t 1 (drop 1 common_rules) _ (c.in_ok-obeys-2.ensures t h)
    (stops c.args.strict t 1 (drop 2 common_rules) c.in_err-obeys-3.field-0.0 _
    c.from_residual-in_err-obeys-3.ensures (c.in_err-obeys-3.ensures t h)))

pub returns-in_err-obeys-4 : goal.returns-in_err-obeys-4
returns-in_err-obeys-4 c = λ t h.
    goes-on c.args.strict t 1 common_rules _ (c.in_ok-obeys.ensures t h)
    (goes-on c.args.strict t 1 (drop 1 common_rules) _ (c.in_ok-obeys-2.ensures t h)
    (goes-on c.args.strict t 1 (drop 2 common_rules) _ (c.in_ok-obeys-3.ensures t h)
    (stops c.args.strict t 1 (drop 3 common_rules) c.in_err-obeys-4.field-0.0 _
    c.from_residual-in_err-obeys-4.ensures (c.in_err-obeys-4.ensures t h))))

pub returns-in_err-obeys-5 : goal.returns-in_err-obeys-5
returns-in_err-obeys-5 c = λ t h.
    goes-on c.args.strict t 1 common_rules _ (c.in_ok-obeys.ensures t h)
    (goes-on c.args.strict t 1 (drop 1 common_rules) _ (c.in_ok-obeys-2.ensures t h)
    (goes-on c.args.strict t 1 (drop 2 common_rules) _ (c.in_ok-obeys-3.ensures t h)
    (goes-on c.args.strict t 1 (drop 3 common_rules) _ (c.in_ok-obeys-4.ensures t h)
    (stops c.args.strict t 1 (drop 4 common_rules) c.in_err-obeys-5.field-0.0 _
    c.from_residual-in_err-obeys-5.ensures (c.in_err-obeys-5.ensures t h)))))

pub returns-in_err-obeys-6 : goal.returns-in_err-obeys-6
returns-in_err-obeys-6 c = λ t h.
    goes-on c.args.strict t 1 common_rules _ (c.in_ok-obeys.ensures t h)
    (goes-on c.args.strict t 1 (drop 1 common_rules) _ (c.in_ok-obeys-2.ensures t h)
    (goes-on c.args.strict t 1 (drop 2 common_rules) _ (c.in_ok-obeys-3.ensures t h)
    (goes-on c.args.strict t 1 (drop 3 common_rules) _ (c.in_ok-obeys-4.ensures t h)
    (goes-on c.args.strict t 1 (drop 4 common_rules) _ (c.in_ok-obeys-5.ensures t h)
    (stops c.args.strict t 1 (drop 5 common_rules) c.in_err-obeys-6.field-0.0 _
    c.from_residual-in_err-obeys-6.ensures (c.in_err-obeys-6.ensures t h))))))

pub returns-in_err-obeys-7 : goal.returns-in_err-obeys-7
returns-in_err-obeys-7 c = λ t h.
    goes-on c.args.strict t 1 common_rules _ (c.in_ok-obeys.ensures t h)
    (goes-on c.args.strict t 1 (drop 1 common_rules) _ (c.in_ok-obeys-2.ensures t h)
    (goes-on c.args.strict t 1 (drop 2 common_rules) _ (c.in_ok-obeys-3.ensures t h)
    (goes-on c.args.strict t 1 (drop 3 common_rules) _ (c.in_ok-obeys-4.ensures t h)
    (goes-on c.args.strict t 1 (drop 4 common_rules) _ (c.in_ok-obeys-5.ensures t h)
    (goes-on c.args.strict t 1 (drop 5 common_rules) _ (c.in_ok-obeys-6.ensures t h)
    (stops c.args.strict t 1 (drop 6 common_rules) c.in_err-obeys-7.field-0.0 _
    c.from_residual-in_err-obeys-7.ensures (c.in_err-obeys-7.ensures t h)))))))

pub returns-in_err-obeys-8 : goal.returns-in_err-obeys-8
returns-in_err-obeys-8 c = λ t h.
    goes-on c.args.strict t 1 common_rules _ (c.in_ok-obeys.ensures t h)
    (goes-on c.args.strict t 1 (drop 1 common_rules) _ (c.in_ok-obeys-2.ensures t h)
    (goes-on c.args.strict t 1 (drop 2 common_rules) _ (c.in_ok-obeys-3.ensures t h)
    (goes-on c.args.strict t 1 (drop 3 common_rules) _ (c.in_ok-obeys-4.ensures t h)
    (goes-on c.args.strict t 1 (drop 4 common_rules) _ (c.in_ok-obeys-5.ensures t h)
    (goes-on c.args.strict t 1 (drop 5 common_rules) _ (c.in_ok-obeys-6.ensures t h)
    (goes-on c.args.strict t 1 (drop 6 common_rules) _ (c.in_ok-obeys-7.ensures t h)
    (stops c.args.strict t 1 (drop 7 common_rules) c.in_err-obeys-8.field-0.0 _
    c.from_residual-in_err-obeys-8.ensures (c.in_err-obeys-8.ensures t h))))))))

pub returns-in_err-obeys-9 : goal.returns-in_err-obeys-9
returns-in_err-obeys-9 c = λ t h.
    goes-on c.args.strict t 1 common_rules _ (c.in_ok-obeys.ensures t h)
    (goes-on c.args.strict t 1 (drop 1 common_rules) _ (c.in_ok-obeys-2.ensures t h)
    (goes-on c.args.strict t 1 (drop 2 common_rules) _ (c.in_ok-obeys-3.ensures t h)
    (goes-on c.args.strict t 1 (drop 3 common_rules) _ (c.in_ok-obeys-4.ensures t h)
    (goes-on c.args.strict t 1 (drop 4 common_rules) _ (c.in_ok-obeys-5.ensures t h)
    (goes-on c.args.strict t 1 (drop 5 common_rules) _ (c.in_ok-obeys-6.ensures t h)
    (goes-on c.args.strict t 1 (drop 6 common_rules) _ (c.in_ok-obeys-7.ensures t h)
    (goes-on c.args.strict t 1 (drop 7 common_rules) _ (c.in_ok-obeys-8.ensures t h)
    (stops c.args.strict t 1 (drop 8 common_rules) c.in_err-obeys-9.field-0.0 _
    c.from_residual-in_err-obeys-9.ensures (c.in_err-obeys-9.ensures t h)))))))))

pub returns : goal.returns
returns c = λ t h.
    goes-on c.args.strict t 1 common_rules _ (c.in_ok-obeys.ensures t h)
    (goes-on c.args.strict t 1 (drop 1 common_rules) _ (c.in_ok-obeys-2.ensures t h)
    (goes-on c.args.strict t 1 (drop 2 common_rules) _ (c.in_ok-obeys-3.ensures t h)
    (goes-on c.args.strict t 1 (drop 3 common_rules) _ (c.in_ok-obeys-4.ensures t h)
    (goes-on c.args.strict t 1 (drop 4 common_rules) _ (c.in_ok-obeys-5.ensures t h)
    (goes-on c.args.strict t 1 (drop 5 common_rules) _ (c.in_ok-obeys-6.ensures t h)
    (goes-on c.args.strict t 1 (drop 6 common_rules) _ (c.in_ok-obeys-7.ensures t h)
    (goes-on c.args.strict t 1 (drop 7 common_rules) _ (c.in_ok-obeys-8.ensures t h)
    (goes-on c.args.strict t 1 (drop 8 common_rules) _ (c.in_ok-obeys-9.ensures t h)
    (c.obeys-10.ensures t h)))))))))
