use Rattle.std.proofs.Common.{drop}
use Rattle.rpki_cert.specs.declared.profile.Profile.TheVariants.{Router}
use Rattle.rpki_cert.specs.Profile.{rules_of}
use Rattle.rpki_cert.proofs.RuleLaws.{goes-on, stops}
use Rattle.rpki_cert.proofs.profile.inspected.Inspected.obeys_router.Goals as goal

pub returns-in_err-obeys_common : goal.returns-in_err-obeys_common
returns-in_err-obeys_common c = λ t h.
    stops c.args.strict t 10 (rules_of Router) c.in_err-obeys_common.field-0.0 _
    c.from_residual.ensures (c.in_err-obeys_common.ensures t h)

pub returns-in_err-obeys : goal.returns-in_err-obeys
returns-in_err-obeys c = λ t h.
    goes-on c.args.strict t 10 (rules_of Router) _ (c.in_ok-obeys_common.ensures t h)
    (stops c.args.strict t 1 (drop 10 (rules_of Router)) c.in_err-obeys.field-0.0 _
    c.from_residual-in_err-obeys.ensures (c.in_err-obeys.ensures t h))

pub returns-in_err-obeys-2 : goal.returns-in_err-obeys-2
returns-in_err-obeys-2 c = λ t h.
    goes-on c.args.strict t 10 (rules_of Router) _ (c.in_ok-obeys_common.ensures t h)
    (goes-on c.args.strict t 1 (drop 10 (rules_of Router)) _ (c.in_ok-obeys.ensures t h)
    (stops c.args.strict t 1 (drop 11 (rules_of Router)) c.in_err-obeys-2.field-0.0 _
    c.from_residual-in_err-obeys-2.ensures (c.in_err-obeys-2.ensures t h)))

pub returns-in_err-obeys-3 : goal.returns-in_err-obeys-3
returns-in_err-obeys-3 c = λ t h.
    goes-on c.args.strict t 10 (rules_of Router) _ (c.in_ok-obeys_common.ensures t h)
    (goes-on c.args.strict t 1 (drop 10 (rules_of Router)) _ (c.in_ok-obeys.ensures t h)
    (goes-on c.args.strict t 1 (drop 11 (rules_of Router)) _ (c.in_ok-obeys-2.ensures t h)
    (stops c.args.strict t 1 (drop 12 (rules_of Router)) c.in_err-obeys-3.field-0.0 _
    c.from_residual-in_err-obeys-3.ensures (c.in_err-obeys-3.ensures t h))))

pub returns-in_err-obeys-4 : goal.returns-in_err-obeys-4
returns-in_err-obeys-4 c = λ t h.
    goes-on c.args.strict t 10 (rules_of Router) _ (c.in_ok-obeys_common.ensures t h)
    (goes-on c.args.strict t 1 (drop 10 (rules_of Router)) _ (c.in_ok-obeys.ensures t h)
    (goes-on c.args.strict t 1 (drop 11 (rules_of Router)) _ (c.in_ok-obeys-2.ensures t h)
    (goes-on c.args.strict t 1 (drop 12 (rules_of Router)) _ (c.in_ok-obeys-3.ensures t h)
    (stops c.args.strict t 1 (drop 13 (rules_of Router)) c.in_err-obeys-4.field-0.0 _
    c.from_residual-in_err-obeys-4.ensures (c.in_err-obeys-4.ensures t h)))))

pub returns-in_err-obeys_end : goal.returns-in_err-obeys_end
returns-in_err-obeys_end c = λ t h.
    goes-on c.args.strict t 10 (rules_of Router) _ (c.in_ok-obeys_common.ensures t h)
    (goes-on c.args.strict t 1 (drop 10 (rules_of Router)) _ (c.in_ok-obeys.ensures t h)
    (goes-on c.args.strict t 1 (drop 11 (rules_of Router)) _ (c.in_ok-obeys-2.ensures t h)
    (goes-on c.args.strict t 1 (drop 12 (rules_of Router)) _ (c.in_ok-obeys-3.ensures t h)
    (goes-on c.args.strict t 1 (drop 13 (rules_of Router)) _ (c.in_ok-obeys-4.ensures t h)
    (stops c.args.strict t 2 (drop 14 (rules_of Router)) c.in_err-obeys_end.field-0.0 _
    c.from_residual-in_err-obeys_end.ensures (c.in_err-obeys_end.ensures t h))))))

pub returns-in_err-obeys-5 : goal.returns-in_err-obeys-5
returns-in_err-obeys-5 c = λ t h.
    goes-on c.args.strict t 10 (rules_of Router) _ (c.in_ok-obeys_common.ensures t h)
    (goes-on c.args.strict t 1 (drop 10 (rules_of Router)) _ (c.in_ok-obeys.ensures t h)
    (goes-on c.args.strict t 1 (drop 11 (rules_of Router)) _ (c.in_ok-obeys-2.ensures t h)
    (goes-on c.args.strict t 1 (drop 12 (rules_of Router)) _ (c.in_ok-obeys-3.ensures t h)
    (goes-on c.args.strict t 1 (drop 13 (rules_of Router)) _ (c.in_ok-obeys-4.ensures t h)
    (goes-on c.args.strict t 2 (drop 14 (rules_of Router)) _ (c.in_ok-obeys_end.ensures t h)
    (stops c.args.strict t 1 (drop 16 (rules_of Router)) c.in_err-obeys-5.field-0.0 _
    c.from_residual-in_err-obeys-5.ensures (c.in_err-obeys-5.ensures t h)))))))

pub returns-in_err-obeys-6 : goal.returns-in_err-obeys-6
returns-in_err-obeys-6 c = λ t h.
    goes-on c.args.strict t 10 (rules_of Router) _ (c.in_ok-obeys_common.ensures t h)
    (goes-on c.args.strict t 1 (drop 10 (rules_of Router)) _ (c.in_ok-obeys.ensures t h)
    (goes-on c.args.strict t 1 (drop 11 (rules_of Router)) _ (c.in_ok-obeys-2.ensures t h)
    (goes-on c.args.strict t 1 (drop 12 (rules_of Router)) _ (c.in_ok-obeys-3.ensures t h)
    (goes-on c.args.strict t 1 (drop 13 (rules_of Router)) _ (c.in_ok-obeys-4.ensures t h)
    (goes-on c.args.strict t 2 (drop 14 (rules_of Router)) _ (c.in_ok-obeys_end.ensures t h)
    (goes-on c.args.strict t 1 (drop 16 (rules_of Router)) _ (c.in_ok-obeys-5.ensures t h)
    (stops c.args.strict t 1 (drop 17 (rules_of Router)) c.in_err-obeys-6.field-0.0 _
    c.from_residual-in_err-obeys-6.ensures (c.in_err-obeys-6.ensures t h))))))))

pub returns-in_err-obeys-7 : goal.returns-in_err-obeys-7
returns-in_err-obeys-7 c = λ t h.
    goes-on c.args.strict t 10 (rules_of Router) _ (c.in_ok-obeys_common.ensures t h)
    (goes-on c.args.strict t 1 (drop 10 (rules_of Router)) _ (c.in_ok-obeys.ensures t h)
    (goes-on c.args.strict t 1 (drop 11 (rules_of Router)) _ (c.in_ok-obeys-2.ensures t h)
    (goes-on c.args.strict t 1 (drop 12 (rules_of Router)) _ (c.in_ok-obeys-3.ensures t h)
    (goes-on c.args.strict t 1 (drop 13 (rules_of Router)) _ (c.in_ok-obeys-4.ensures t h)
    (goes-on c.args.strict t 2 (drop 14 (rules_of Router)) _ (c.in_ok-obeys_end.ensures t h)
    (goes-on c.args.strict t 1 (drop 16 (rules_of Router)) _ (c.in_ok-obeys-5.ensures t h)
    (goes-on c.args.strict t 1 (drop 17 (rules_of Router)) _ (c.in_ok-obeys-6.ensures t h)
    (stops c.args.strict t 1 (drop 18 (rules_of Router)) c.in_err-obeys-7.field-0.0 _
    c.from_residual-in_err-obeys-7.ensures (c.in_err-obeys-7.ensures t h)))))))))

pub returns-in_err-obeys-8 : goal.returns-in_err-obeys-8
returns-in_err-obeys-8 c = λ t h.
    goes-on c.args.strict t 10 (rules_of Router) _ (c.in_ok-obeys_common.ensures t h)
    (goes-on c.args.strict t 1 (drop 10 (rules_of Router)) _ (c.in_ok-obeys.ensures t h)
    (goes-on c.args.strict t 1 (drop 11 (rules_of Router)) _ (c.in_ok-obeys-2.ensures t h)
    (goes-on c.args.strict t 1 (drop 12 (rules_of Router)) _ (c.in_ok-obeys-3.ensures t h)
    (goes-on c.args.strict t 1 (drop 13 (rules_of Router)) _ (c.in_ok-obeys-4.ensures t h)
    (goes-on c.args.strict t 2 (drop 14 (rules_of Router)) _ (c.in_ok-obeys_end.ensures t h)
    (goes-on c.args.strict t 1 (drop 16 (rules_of Router)) _ (c.in_ok-obeys-5.ensures t h)
    (goes-on c.args.strict t 1 (drop 17 (rules_of Router)) _ (c.in_ok-obeys-6.ensures t h)
    (goes-on c.args.strict t 1 (drop 18 (rules_of Router)) _ (c.in_ok-obeys-7.ensures t h)
    (stops c.args.strict t 1 (drop 19 (rules_of Router)) c.in_err-obeys-8.field-0.0 _
    c.from_residual-in_err-obeys-8.ensures (c.in_err-obeys-8.ensures t h))))))))))

pub returns : goal.returns
returns c = λ t h.
    goes-on c.args.strict t 10 (rules_of Router) _ (c.in_ok-obeys_common.ensures t h)
    (goes-on c.args.strict t 1 (drop 10 (rules_of Router)) _ (c.in_ok-obeys.ensures t h)
    (goes-on c.args.strict t 1 (drop 11 (rules_of Router)) _ (c.in_ok-obeys-2.ensures t h)
    (goes-on c.args.strict t 1 (drop 12 (rules_of Router)) _ (c.in_ok-obeys-3.ensures t h)
    (goes-on c.args.strict t 1 (drop 13 (rules_of Router)) _ (c.in_ok-obeys-4.ensures t h)
    (goes-on c.args.strict t 2 (drop 14 (rules_of Router)) _ (c.in_ok-obeys_end.ensures t h)
    (goes-on c.args.strict t 1 (drop 16 (rules_of Router)) _ (c.in_ok-obeys-5.ensures t h)
    (goes-on c.args.strict t 1 (drop 17 (rules_of Router)) _ (c.in_ok-obeys-6.ensures t h)
    (goes-on c.args.strict t 1 (drop 18 (rules_of Router)) _ (c.in_ok-obeys-7.ensures t h)
    (goes-on c.args.strict t 1 (drop 19 (rules_of Router)) _ (c.in_ok-obeys-8.ensures t h)
    (c.obeys_issuer.ensures t h))))))))))
