use Rattle.std.proofs.Common.{arith}
use Rattle.serde_json.specs.View.{view}
use Rattle.rpki_payloads.specs.Listed.{IsElement}
use Rattle.rpki_payloads.proofs.ExceptionLaws.{each-next}
use Rattle.rpki_payloads.proofs.FindsLaws.{first-other}
use Rattle.rpki_payloads.proofs.payload_list.elements_of.Goals as goal

pub values-preserved : goal.values-preserved
values-preserved c =
    rw c.in_ok-push.ensures.items
    (each-next (λ v. IsElement (view v)) c.args.values.now c.values.all.items c.values.value-index
    c.value-item.result _ c.values-test.true c.value-item.is c.values.invariant c.in-Some.ensures)

pub returns-in_default-clause-err : goal.returns-in_default-clause-err
returns-in_default-clause-err c =
    first-other (λ v. IsElement (view v)) c.args.values.now c.values.all.items c.values.value-index c.len.result
    c.value-item.result (omega (arith, c.len.ensures, c.values.all.ok.0)) c.values-test.true c.value-item.is
    c.values.invariant (rw c.in_default.is at c.element_of.ensures)
