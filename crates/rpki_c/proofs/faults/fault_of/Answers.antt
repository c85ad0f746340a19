use Rattle.std.proofs.Common.{ℕ, [], ◌∷◌, refl, ap, arith, length, length-append}
use Rattle.std.proofs.lemmas.Result.{err_from_is_err_and}
use Rattle.std.proofs.lemmas.Slice.{pushed}
use Rattle.rpki_der.proofs.WalkingLaws.{has-constructed}
use Rattle.rpki_c.proofs.FaultLaws.{start-primitive, start-constructed, step, step-end, step-last, step-fault}
use Rattle.rpki_c.proofs.faults.fault_of.Goals as goal

pub returns-then-not-first-clause-none : goal.returns-then-not-first-clause-none
returns-then-not-first-clause-none c =
    let h = c.in-Some.ensures in
    start-primitive c.in-Some.found.1 c.if-not-first.true h.found h.within

pub values-init : goal.values-init
values-init c =
    let h = c.in-Some.ensures in
    record {
      low = omega arith;
      high = omega (arith, h.within);
      opened = start-constructed c.in-Some.found.1 c.if-not-first.false h.found h.within c.new-around.ensures.items;
    }

pub returns-in-None-pop-clause-none : goal.returns-in-None-pop-clause-none
returns-in-None-pop-clause-none c =
    step-last c.values.invariant.opened c.if-place-end.true
    (omega (arith, c.values.around.ok.0, c.in-None-pop.ensures.cases.0))

pub values-preserved-then-place-end : goal.values-preserved-then-place-end
values-preserved-then-place-end c =
    let more = step-end c.values.invariant.opened c.if-place-end.true c.in-Some-pop.ensures.items in
    record { low = more.opened.low; high = more.opened.high; opened = more }

pub returns-in-None-header_within-clause-found : goal.returns-in-None-header_within-clause-found
returns-in-None-header_within-clause-found c =
    step-fault c.values.invariant.opened c.in-None-header_within.ensures.none

pub values-smaller-then-not-found : goal.values-smaller-then-not-found
values-smaller-then-not-found c =
    let h = c.in-Some-header_within.ensures in
    let t = step c.in-Some-header_within.found.1 c.values.invariant.opened h.found h.within in
    omega (arith, t.fits, t.high, t.some)

pub values-preserved-then-not-found : goal.values-preserved-then-not-found
values-preserved-then-not-found c =
    let h = c.in-Some-header_within.ensures in
    let t = step c.in-Some-header_within.found.1 c.values.invariant.opened h.found h.within in
    record { low = t.fits; high = t.high; opened = t.primitive c.if-not-found.true }

pub values-smaller : goal.values-smaller
values-smaller c =
    let h = c.in-Some-header_within.ensures in
    let t = step c.in-Some-header_within.found.1 c.values.invariant.opened h.found h.within in
    let more = pushed (c.values.end ∷ []) refl c.in_ok-push.was c.push.ensures.items in
    omega (arith, t.fits, t.high, t.some, ap length more, length-append {A = ℕ})

pub values-preserved : goal.values-preserved
values-preserved c =
    let h = c.in-Some-header_within.ensures in
    let t = step c.in-Some-header_within.found.1 c.values.invariant.opened h.found h.within in
    let more = pushed (c.values.end ∷ []) refl c.in_ok-push.was c.push.ensures.items in
    record {
      low = omega arith;
      high = omega (arith, t.fits, t.high);
      opened = t.constructed _ c.if-not-found.false more;
    }

pub returns-in_err-push-clause-refused : goal.returns-in_err-push-clause-refused
returns-in_err-push-clause-refused c =
    let p = err_from_is_err_and c.from_residual.result c.from_residual.ensures.1 in
    let h = c.in-Some.ensures in
    rw p.1 (p.2, has-constructed c.in-Some.found.1 c.if-not-first.false h.found h.within)
