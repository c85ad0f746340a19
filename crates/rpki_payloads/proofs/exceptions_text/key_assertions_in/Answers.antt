use Rattle.std.proofs.Common.{codes}
use Rattle.std.proofs.lemmas.Result.{IfErr-weaker, IfOk-weaker}
use Rattle.serde_json.specs.View.{view}
use Rattle.rpki_payloads.specs.ExceptionsText.{IsKeyAssertion}
use Rattle.rpki_payloads.specs.declared.exceptions_text.Member.TheVariants.{KeyAssertions}
use Rattle.rpki_payloads.proofs.FindsLaws.{array-fault}
use Rattle.rpki_payloads.proofs.MemberLaws.{listed}
use Rattle.rpki_payloads.proofs.exceptions_text.key_assertions_in.Goals as goal

pub returns-in-Some-clause-ok : goal.returns-in-Some-clause-ok
returns-in-Some-clause-ok c =
    IfOk-weaker c.key_assertions_of.result _ _
    (λ all h. listed (codes "bgpsecAssertions") IsKeyAssertion (view c.args.value.now)
    c.in-Some.values.now.items c.as_slice.result.now all.items c.as_slice.ensures.value
    (rw c.in-Some.is at c.elements_in.ensures) h) c.key_assertions_of.ensures.ok

pub returns-in-Some-clause-err : goal.returns-in-Some-clause-err
returns-in-Some-clause-err c =
    IfErr-weaker c.key_assertions_of.result _ _
    (array-fault IsKeyAssertion KeyAssertions (view c.args.value.now) c.in-Some.values.now.items c.as_slice.result.now
    c.as_slice.ensures.value (rw c.in-Some.is at c.elements_in.ensures)) c.key_assertions_of.ensures.err
