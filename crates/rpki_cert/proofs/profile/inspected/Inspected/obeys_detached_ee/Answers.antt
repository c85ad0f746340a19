use Rattle.std.proofs.Common.{drop}
use Rattle.rpki_cert.specs.declared.profile.Profile.TheVariants.{DetachedEe}
use Rattle.rpki_cert.specs.Profile.{rules_of}
use Rattle.rpki_cert.proofs.RuleLaws.{goes-on, stops}
use Rattle.rpki_cert.proofs.profile.inspected.Inspected.obeys_detached_ee.Goals as goal

pub returns-in_err-obeys_common : goal.returns-in_err-obeys_common
returns-in_err-obeys_common c = λ t h.
    stops c.args.strict t 10 (rules_of DetachedEe) c.in_err-obeys_common.field-0.0 _
    c.from_residual.ensures (c.in_err-obeys_common.ensures t h)

pub returns-in_err-obeys_subject : goal.returns-in_err-obeys_subject
returns-in_err-obeys_subject c = λ t h.
    goes-on c.args.strict t 10 (rules_of DetachedEe) _ (c.in_ok-obeys_common.ensures t h)
    (stops c.args.strict t 4 (drop 10 (rules_of DetachedEe)) c.in_err-obeys_subject.field-0.0 _
    c.from_residual-in_err-obeys_subject.ensures (c.in_err-obeys_subject.ensures t h))

pub returns-in_err-obeys_end : goal.returns-in_err-obeys_end
returns-in_err-obeys_end c = λ t h.
    goes-on c.args.strict t 10 (rules_of DetachedEe) _ (c.in_ok-obeys_common.ensures t h)
    (goes-on c.args.strict t 4 (drop 10 (rules_of DetachedEe)) _ (c.in_ok-obeys_subject.ensures t h)
    (stops c.args.strict t 2 (drop 14 (rules_of DetachedEe)) c.in_err-obeys_end.field-0.0 _
    c.from_residual-in_err-obeys_end.ensures (c.in_err-obeys_end.ensures t h)))

pub returns-in_err-obeys : goal.returns-in_err-obeys
returns-in_err-obeys c = λ t h.
    goes-on c.args.strict t 10 (rules_of DetachedEe) _ (c.in_ok-obeys_common.ensures t h)
    (goes-on c.args.strict t 4 (drop 10 (rules_of DetachedEe)) _ (c.in_ok-obeys_subject.ensures t h)
    (goes-on c.args.strict t 2 (drop 14 (rules_of DetachedEe)) _ (c.in_ok-obeys_end.ensures t h)
    (stops c.args.strict t 1 (drop 16 (rules_of DetachedEe)) c.in_err-obeys.field-0.0 _
    c.from_residual-in_err-obeys.ensures (c.in_err-obeys.ensures t h))))

pub returns : goal.returns
returns c = λ t h.
    goes-on c.args.strict t 10 (rules_of DetachedEe) _ (c.in_ok-obeys_common.ensures t h)
    (goes-on c.args.strict t 4 (drop 10 (rules_of DetachedEe)) _ (c.in_ok-obeys_subject.ensures t h)
    (goes-on c.args.strict t 2 (drop 14 (rules_of DetachedEe)) _ (c.in_ok-obeys_end.ensures t h)
    (goes-on c.args.strict t 1 (drop 16 (rules_of DetachedEe)) _ (c.in_ok-obeys.ensures t h)
    (c.obeys_issuer.ensures t h))))
