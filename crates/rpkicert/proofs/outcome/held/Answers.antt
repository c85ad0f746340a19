use Rattle.std.proofs.Common.{◌⊎◌, ◌≡◌, List, ℕ, refl, subst}
use Rattle.rpki_fields.specs.declared.object.Object.{Object}
use Rattle.rpkicert.specs.declared.fault.Fault.TheVariants.{OutOfMemory}
use Rattle.rpkicert.specs.Outcome.{IsObject, IsRefusal, IsHeld, IsWrong}
use Rattle.rpkicert.specs.RequirementsView.{terms_of}
use Rattle.rpkicert.proofs.OutcomeLaws.{given-up, wrong-holds}
use Rattle.rpkicert.proofs.outcome.held.Goals as goal

pub returns-in_err-object : goal.returns-in_err-object
returns-in_err-object c =
    given-up (terms_of c.args.terms.now) c.args.octets.items c.from_residual.result c.in_err-object.field-0.0
    c.from_residual.ensures.1
    (subst (λ (o : List ℕ). IsRefusal o c.in_err-object.field-0.0) c.as_slice.ensures.value c.in_err-object.ensures)

pub returns-in-Ok : goal.returns-in-Ok
returns-in-Ok c = (
  refl,
  subst (λ (o : List ℕ). IsObject o c.in_ok-object.object.value) c.as_slice.ensures.value c.in_ok-object.ensures,
  subst (λ (x : Object). IsHeld (terms_of c.args.terms.now) x) c.as_ref.ensures c.in-Ok.ensures,
)

pub returns-in-Err : goal.returns-in-Err
returns-in-Err c =
    rw c.wrong.ensures
    (wrong-holds (terms_of c.args.terms.now) c.args.octets.items c.in_ok-object.object.value c.in-Err.fault
    (subst (λ (o : List ℕ). IsObject o c.in_ok-object.object.value) c.as_slice.ensures.value c.in_ok-object.ensures)
    (subst (λ (x : Object). (c.in-Err.fault ≡ OutOfMemory) ⊎ IsWrong (terms_of c.args.terms.now) x c.in-Err.fault)
    c.as_ref.ensures c.in-Err.ensures))
