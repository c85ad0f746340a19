use Rattle.std.proofs.Common.{drop}
use Rattle.rpki_cert.specs.declared.profile.Profile.TheVariants.{Ta}
use Rattle.rpki_cert.specs.Profile.{rules_of}
use Rattle.rpki_cert.proofs.RuleLaws.{goes-on, stops}
use Rattle.rpki_cert.proofs.profile.inspected.Inspected.obeys_ta.Goals as goal

pub returns-in_err-obeys_common : goal.returns-in_err-obeys_common
returns-in_err-obeys_common c = λ t h.
    stops c.args.strict t 10 (rules_of Ta) c.in_err-obeys_common.field-0.0 _
    c.from_residual.ensures (c.in_err-obeys_common.ensures t h)

pub returns-in_err-obeys_subject : goal.returns-in_err-obeys_subject
returns-in_err-obeys_subject c = λ t h.
    goes-on c.args.strict t 10 (rules_of Ta) _ (c.in_ok-obeys_common.ensures t h)
    (stops c.args.strict t 4 (drop 10 (rules_of Ta)) c.in_err-obeys_subject.field-0.0 _
    c.from_residual-in_err-obeys_subject.ensures (c.in_err-obeys_subject.ensures t h))

pub returns-in_err-obeys_authority : goal.returns-in_err-obeys_authority
returns-in_err-obeys_authority c = λ t h.
    goes-on c.args.strict t 10 (rules_of Ta) _ (c.in_ok-obeys_common.ensures t h)
    (goes-on c.args.strict t 4 (drop 10 (rules_of Ta)) _ (c.in_ok-obeys_subject.ensures t h)
    (stops c.args.strict t 2 (drop 14 (rules_of Ta)) c.in_err-obeys_authority.field-0.0 _
    c.from_residual-in_err-obeys_authority.ensures (c.in_err-obeys_authority.ensures t h)))

pub returns-in_err-obeys : goal.returns-in_err-obeys
returns-in_err-obeys c = λ t h.
    goes-on c.args.strict t 10 (rules_of Ta) _ (c.in_ok-obeys_common.ensures t h)
    (goes-on c.args.strict t 4 (drop 10 (rules_of Ta)) _ (c.in_ok-obeys_subject.ensures t h)
    (goes-on c.args.strict t 2 (drop 14 (rules_of Ta)) _ (c.in_ok-obeys_authority.ensures t h)
    (stops c.args.strict t 1 (drop 16 (rules_of Ta)) c.in_err-obeys.field-0.0 _
    c.from_residual-in_err-obeys.ensures (c.in_err-obeys.ensures t h))))

pub returns-in_err-obeys-2 : goal.returns-in_err-obeys-2
returns-in_err-obeys-2 c = λ t h.
    goes-on c.args.strict t 10 (rules_of Ta) _ (c.in_ok-obeys_common.ensures t h)
    (goes-on c.args.strict t 4 (drop 10 (rules_of Ta)) _ (c.in_ok-obeys_subject.ensures t h)
    (goes-on c.args.strict t 2 (drop 14 (rules_of Ta)) _ (c.in_ok-obeys_authority.ensures t h)
    (goes-on c.args.strict t 1 (drop 16 (rules_of Ta)) _ (c.in_ok-obeys.ensures t h)
    (stops c.args.strict t 1 (drop 17 (rules_of Ta)) c.in_err-obeys-2.field-0.0 _
    c.from_residual-in_err-obeys-2.ensures (c.in_err-obeys-2.ensures t h)))))

pub returns-in_err-obeys_repository : goal.returns-in_err-obeys_repository
returns-in_err-obeys_repository c = λ t h.
    goes-on c.args.strict t 10 (rules_of Ta) _ (c.in_ok-obeys_common.ensures t h)
    (goes-on c.args.strict t 4 (drop 10 (rules_of Ta)) _ (c.in_ok-obeys_subject.ensures t h)
    (goes-on c.args.strict t 2 (drop 14 (rules_of Ta)) _ (c.in_ok-obeys_authority.ensures t h)
    (goes-on c.args.strict t 1 (drop 16 (rules_of Ta)) _ (c.in_ok-obeys.ensures t h)
    (goes-on c.args.strict t 1 (drop 17 (rules_of Ta)) _ (c.in_ok-obeys-2.ensures t h)
    (stops c.args.strict t 4 (drop 18 (rules_of Ta)) c.in_err-obeys_repository.field-0.0 _
    c.from_residual-in_err-obeys_repository.ensures (c.in_err-obeys_repository.ensures t h))))))

pub returns-in_err-obeys-3 : goal.returns-in_err-obeys-3
returns-in_err-obeys-3 c = λ t h.
    goes-on c.args.strict t 10 (rules_of Ta) _ (c.in_ok-obeys_common.ensures t h)
    (goes-on c.args.strict t 4 (drop 10 (rules_of Ta)) _ (c.in_ok-obeys_subject.ensures t h)
    (goes-on c.args.strict t 2 (drop 14 (rules_of Ta)) _ (c.in_ok-obeys_authority.ensures t h)
    (goes-on c.args.strict t 1 (drop 16 (rules_of Ta)) _ (c.in_ok-obeys.ensures t h)
    (goes-on c.args.strict t 1 (drop 17 (rules_of Ta)) _ (c.in_ok-obeys-2.ensures t h)
    (goes-on c.args.strict t 4 (drop 18 (rules_of Ta)) _ (c.in_ok-obeys_repository.ensures t h)
    (stops c.args.strict t 1 (drop 22 (rules_of Ta)) c.in_err-obeys-3.field-0.0 _
    c.from_residual-in_err-obeys-3.ensures (c.in_err-obeys-3.ensures t h)))))))

pub returns-in_err-obeys-4 : goal.returns-in_err-obeys-4
returns-in_err-obeys-4 c = λ t h.
    goes-on c.args.strict t 10 (rules_of Ta) _ (c.in_ok-obeys_common.ensures t h)
    (goes-on c.args.strict t 4 (drop 10 (rules_of Ta)) _ (c.in_ok-obeys_subject.ensures t h)
    (goes-on c.args.strict t 2 (drop 14 (rules_of Ta)) _ (c.in_ok-obeys_authority.ensures t h)
    (goes-on c.args.strict t 1 (drop 16 (rules_of Ta)) _ (c.in_ok-obeys.ensures t h)
    (goes-on c.args.strict t 1 (drop 17 (rules_of Ta)) _ (c.in_ok-obeys-2.ensures t h)
    (goes-on c.args.strict t 4 (drop 18 (rules_of Ta)) _ (c.in_ok-obeys_repository.ensures t h)
    (goes-on c.args.strict t 1 (drop 22 (rules_of Ta)) _ (c.in_ok-obeys-3.ensures t h)
    (stops c.args.strict t 1 (drop 23 (rules_of Ta)) c.in_err-obeys-4.field-0.0 _
    c.from_residual-in_err-obeys-4.ensures (c.in_err-obeys-4.ensures t h))))))))

pub returns : goal.returns
returns c = λ t h.
    goes-on c.args.strict t 10 (rules_of Ta) _ (c.in_ok-obeys_common.ensures t h)
    (goes-on c.args.strict t 4 (drop 10 (rules_of Ta)) _ (c.in_ok-obeys_subject.ensures t h)
    (goes-on c.args.strict t 2 (drop 14 (rules_of Ta)) _ (c.in_ok-obeys_authority.ensures t h)
    (goes-on c.args.strict t 1 (drop 16 (rules_of Ta)) _ (c.in_ok-obeys.ensures t h)
    (goes-on c.args.strict t 1 (drop 17 (rules_of Ta)) _ (c.in_ok-obeys-2.ensures t h)
    (goes-on c.args.strict t 4 (drop 18 (rules_of Ta)) _ (c.in_ok-obeys_repository.ensures t h)
    (goes-on c.args.strict t 1 (drop 22 (rules_of Ta)) _ (c.in_ok-obeys-3.ensures t h)
    (goes-on c.args.strict t 1 (drop 23 (rules_of Ta)) _ (c.in_ok-obeys-4.ensures t h)
    (c.obeys-5.ensures t h))))))))
