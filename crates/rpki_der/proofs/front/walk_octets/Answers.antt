use Rattle.std.proofs.Common.{ap, ◌≡◌, ◌≢◌, [], ◌-◌, length, sym, ◌∙◌, inr, Err}
use Rattle.std.proofs.lemmas.List.{nil_from_length}
use Rattle.std.proofs.lemmas.Bool.{eqb-true, eqb-false}
use Rattle.rpki_der.specs.declared.error.DecodeError.{DecodeError}
use Rattle.rpki_der.specs.Walk.{HasConstructed}
use Rattle.rpki_der.proofs.WalkLaws.{front-accepted, front-counted, front-refused, fault-named, capture-nothing}
use Rattle.rpki_der.proofs.WalkLaws.{nothing-fault}
use Rattle.rpki_der.proofs.front.walk_octets.Goals as goal

pub returns-then-is_empty-clause-refused : goal.returns-then-is_empty-clause-refused
returns-then-is_empty-clause-refused c =
    let none : length c.args.octets.now ≡ 0 = eqb-true _ _ (sym c.is_empty.ensures ∙ c.if-is_empty.true) in
    capture-nothing HasConstructed c.args.octets.now (nil_from_length c.args.octets.now none)

pub returns-then-is_empty-clause-fault : goal.returns-then-is_empty-clause-fault
returns-then-is_empty-clause-fault c = λ e f.
    let none : length c.args.octets.now ≡ 0 = eqb-true _ _ (sym c.is_empty.ensures ∙ c.if-is_empty.true) in
    inr (ap (λ (x : DecodeError). Err x) (sym (nothing-fault (nil_from_length c.args.octets.now none) f)))

pub returns-clause-accepted : goal.returns-clause-accepted
returns-clause-accepted c =
    let e = c.walk_value-size.ensures in front-accepted HasConstructed _ _ _ e.within e.accepted e.refused

pub returns-clause-refused : goal.returns-clause-refused
returns-clause-refused c =
    let e = c.walk_value-size.ensures in
    front-refused HasConstructed c.walk_value-size.result c.args.octets.now
    (c.walk_value-size.new.steps - c.copied-own.result) e.within e.accepted e.refused

pub returns-clause-fault : goal.returns-clause-fault
returns-clause-fault c =
    let some : c.args.octets.now ≢ [] = λ z. eqb-false _ _ (sym c.is_empty.ensures ∙ c.if-is_empty.false) (ap length z)
    in
    let e = c.walk_value-size.ensures in
    fault-named HasConstructed c.walk_value-size.result c.args.octets.now
    (c.walk_value-size.new.steps - c.copied-own.result) e.within e.accepted e.refused some

pub returns-clause-counted : goal.returns-clause-counted
returns-clause-counted c =
    let e = c.walk_value-size.ensures in rw (sym c.copied-own.ensures)
    (front-counted HasConstructed _ _ _ e.within e.accepted e.refused)
