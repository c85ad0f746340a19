use Rattle.std.proofs.Common.{ap, ◌≡◌, ◌≢◌, [], length, refl, sym, ◌∙◌, inr, Ok, Err}
use Rattle.std.proofs.lemmas.List.{nil_from_length}
use Rattle.std.proofs.lemmas.Bool.{eqb-true, eqb-false}
use Rattle.std.proofs.lemmas.Result.{err_from_is_err_and}
use Rattle.rpki_der.specs.declared.error.DecodeError.{DecodeError}
use Rattle.rpki_der.specs.Walk.{HasEither}
use Rattle.rpki_der.proofs.IndexLaws.{index-of-one, one-index}
use Rattle.rpki_der.proofs.WalkLaws.{capture-nothing, error-named, front-accepted, nothing-fault, refusal-of}
use Rattle.rpki_der.proofs.WalkLaws.{value-faultless}
use Rattle.rpki_der.proofs.front.index_octets.Goals as goal

pub returns-then-is_empty-clause-refused : goal.returns-then-is_empty-clause-refused
returns-then-is_empty-clause-refused c =
    let none : length c.args.octets.now ≡ 0 = eqb-true _ _ (sym c.is_empty.ensures ∙ c.if-is_empty.true) in
    capture-nothing HasEither c.args.octets.now (nil_from_length c.args.octets.now none)

pub returns-then-is_empty-clause-fault : goal.returns-then-is_empty-clause-fault
returns-then-is_empty-clause-fault c = λ e f.
    let none : length c.args.octets.now ≡ 0 = eqb-true _ _ (sym c.is_empty.ensures ∙ c.if-is_empty.true) in
    inr (ap (λ (x : DecodeError). Err x) (sym (nothing-fault (nil_from_length c.args.octets.now none) f)))

pub returns-in_err-size-clause-refused : goal.returns-in_err-size-clause-refused
returns-in_err-size-clause-refused c =
    let p = err_from_is_err_and c.from_residual.result c.from_residual.ensures.1 in
    rw (p.1, p.2) (refusal-of HasEither c.args.octets.now c.in_err-size.field-0.0 c.in_err-size.ensures.refused)

pub returns-in_err-size-clause-fault : goal.returns-in_err-size-clause-fault
returns-in_err-size-clause-fault c =
    let some : c.args.octets.now ≢ [] = λ z. eqb-false _ _ (sym c.is_empty.ensures ∙ c.if-is_empty.false) (ap length z)
    in
    let p = err_from_is_err_and c.from_residual.result c.from_residual.ensures.1 in
    rw (p.1, p.2) (error-named HasEither c.args.octets.now c.in_err-size.field-0.0 c.in_err-size.ensures.refused some)

pub returns-clause-accepted : goal.returns-clause-accepted
returns-clause-accepted c =
    let e = c.in_ok-size.ensures in
    front-accepted HasEither (Ok c.in_ok-size.size) c.args.octets.now _ e.within e.accepted tt

pub returns-clause-only : goal.returns-clause-only
returns-clause-only c = λ y h. one-index (index-of-one c.new-index.ensures.items (c.in_ok-size.ensures.kept refl)) h

pub returns-clause-fault : goal.returns-clause-fault
returns-clause-fault c = λ e f.
    let some : c.args.octets.now ≢ [] = λ z. eqb-false _ _ (sym c.is_empty.ensures ∙ c.if-is_empty.false) (ap length z)
    in
    absurd (value-faultless c.args.octets.now _ c.in_ok-size.size e c.in_ok-size.ensures.accepted some f)
