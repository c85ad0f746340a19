use Rattle.std.proofs.Common.{arith, refl}
use Rattle.serde_json.specs.View.{view}
use Rattle.rpki_payloads.specs.ExceptionsText.{IsKeyFilter}
use Rattle.rpki_payloads.proofs.ExceptionLaws.{each-next}
use Rattle.rpki_payloads.proofs.FindsLaws.{first-other}
use Rattle.rpki_payloads.proofs.exceptions_text.key_filters_of.Goals as goal

pub values-preserved : goal.values-preserved
values-preserved c =
    let pushed = c.in_ok-push_key_filter.ensures.pushed c.if-not-branch.false in
    rw pushed.2
    (each-next (λ v. IsKeyFilter (view v)) c.args.values.now c.values.all.items c.values.value-index c.value-item.result
    pushed.0 c.values-test.true c.value-item.is c.values.invariant pushed.1)

pub returns-then-not-branch-clause-err : goal.returns-then-not-branch-clause-err
returns-then-not-branch-clause-err c =
    let none = c.in_ok-push_key_filter.ensures.none c.if-not-branch.true in
    let long = rw none.0 at c.len.ensures in (
      refl,
      first-other (λ v. IsKeyFilter (view v)) c.args.values.now c.values.all.items c.values.value-index c.len.result
          c.value-item.result (omega (arith, long, c.values.all.ok.0)) c.values-test.true c.value-item.is
          c.values.invariant none.1,
    )
