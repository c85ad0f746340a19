use Rattle.std.proofs.Common.{codes}
use Rattle.std.proofs.lemmas.Result.{IfErr-weaker, IfOk-weaker}
use Rattle.serde_json.specs.View.{view}
use Rattle.rpki_payloads.specs.Listed.{IsElement}
use Rattle.rpki_payloads.proofs.FindsLaws.{roas-fault}
use Rattle.rpki_payloads.proofs.MemberLaws.{listed}
use Rattle.rpki_payloads.proofs.payload_list.listed_by.Goals as goal

pub returns-in-Some-clause-ok : goal.returns-in-Some-clause-ok
returns-in-Some-clause-ok c =
    IfOk-weaker c.elements_of.result _ _
    (λ all h. listed (codes "roas") IsElement (view c.args.value.now)
    c.in-Some.values.now.items c.as_slice.result.now all.items c.as_slice.ensures.value
    (rw c.in-Some.is at c.elements_in.ensures) h) c.elements_of.ensures.ok

pub returns-in-Some-clause-err : goal.returns-in-Some-clause-err
returns-in-Some-clause-err c =
    IfErr-weaker c.elements_of.result _ _
    (roas-fault (view c.args.value.now) c.in-Some.values.now.items c.as_slice.result.now c.as_slice.ensures.value
    (rw c.in-Some.is at c.elements_in.ensures)) c.elements_of.ensures.err
