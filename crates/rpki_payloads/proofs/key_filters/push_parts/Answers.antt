use Rattle.std.proofs.Common.{ℕ, List, sym, subst, arith}
use Rattle.std.proofs.lemmas.List.{nil_from_length}
use Rattle.std.specs.List.{Contains}
use Rattle.rpki_payloads.specs.Asked.{IsWithin, key_from}
use Rattle.rpki_payloads.proofs.AmongLaws.{head-in}
use Rattle.rpki_payloads.proofs.PartLaws.{rest-all, rest-last, rest-more, rest-none}
use Rattle.rpki_payloads.proofs.key_filters.push_parts.Goals as goal

pub numbers-init : goal.numbers-init
numbers-init c =
    rest-all c.args.keys.now.items c.args.numbers.now c.args.key.now c.requires.order c.requires.within

pub returns-then-number-key : goal.returns-then-number-key
returns-then-number-key c =
    rest-last c.args.keys.now.items c.args.numbers.now c.args.key.now c.numbers.keys.items
    c.push_below.new.keys.items c.numbers.rest.now (key_from c.numbers.first c.args.key.now) c.numbers.invariant
    c.in-Some.number.now c.in-Some.following.now c.in-Some.ensures.cases.0 c.in_ok-push_below.ensures
    (omega arith)

pub overflow_add-first : goal.overflow_add-first
overflow_add-first c =
    let w : IsWithin (key_from c.numbers.first c.args.key.now) c.in-Some.number.now =
    c.numbers.invariant.within c.in-Some.number.now
    (subst (λ (xs : List ℕ). Contains xs c.in-Some.number.now) (sym c.in-Some.ensures.cases.0)
    (head-in c.in-Some.number.now c.in-Some.following.now)) in
    omega (arith, w.1)

pub numbers-preserved : goal.numbers-preserved
numbers-preserved c =
    let w : IsWithin (key_from c.numbers.first c.args.key.now) c.in-Some.number.now =
    c.numbers.invariant.within c.in-Some.number.now
    (subst (λ (xs : List ℕ). Contains xs c.in-Some.number.now) (sym c.in-Some.ensures.cases.0)
    (head-in c.in-Some.number.now c.in-Some.following.now)) in
    rest-more c.args.keys.now.items c.args.numbers.now c.args.key.now c.numbers.keys.items
    c.push_below.new.keys.items c.numbers.rest.now (key_from c.numbers.first c.args.key.now) c.numbers.invariant
    c.in-Some.number.now c.in-Some.following.now c.in-Some.ensures.cases.0 c.in_ok-push_below.ensures
    (omega (arith, w.1))

pub returns : goal.returns
returns c =
    rest-none c.args.keys.now.items c.args.numbers.now c.args.key.now c.numbers.keys.items
    c.push_range.new.keys.items c.numbers.rest.now (key_from c.numbers.first c.args.key.now) c.numbers.invariant
    (nil_from_length c.numbers.rest.now c.in_default.ensures.cases) c.in_ok-push_range.ensures
