use Rattle.std.proofs.Common.{codes}
use Rattle.std.proofs.lemmas.Result.{IfErr-weaker, IfOk-weaker}
use Rattle.serde_json.specs.View.{view}
use Rattle.rpki_payloads.specs.ExceptionsText.{IsPrefixAssertion}
use Rattle.rpki_payloads.specs.declared.exceptions_text.Member.TheVariants.{PrefixAssertions}
use Rattle.rpki_payloads.proofs.FindsLaws.{array-fault}
use Rattle.rpki_payloads.proofs.MemberLaws.{listed}
use Rattle.rpki_payloads.proofs.exceptions_text.prefix_assertions_in.Goals as goal

pub returns-in-Some-clause-ok : goal.returns-in-Some-clause-ok
returns-in-Some-clause-ok c =
    IfOk-weaker c.prefix_assertions_of.result _ _
    (λ all h. listed (codes "prefixAssertions") IsPrefixAssertion (view c.args.value.now)
    c.in-Some.values.now.items c.as_slice.result.now all.items c.as_slice.ensures.value
    (rw c.in-Some.is at c.elements_in.ensures) h) c.prefix_assertions_of.ensures.ok

pub returns-in-Some-clause-err : goal.returns-in-Some-clause-err
returns-in-Some-clause-err c =
    IfErr-weaker c.prefix_assertions_of.result _ _
    (array-fault IsPrefixAssertion PrefixAssertions (view c.args.value.now) c.in-Some.values.now.items
    c.as_slice.result.now c.as_slice.ensures.value (rw c.in-Some.is at c.elements_in.ensures))
    c.prefix_assertions_of.ensures.err
