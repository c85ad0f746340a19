use Rattle.std.proofs.Common.{◌≡◌, true}
use Rattle.std.proofs.lemmas.List.{nil_from_length}
use Rattle.std.specs.List.{Contains}
use Rattle.rpki_payloads.proofs.ConflictLaws.{sought-first, sought-here, sought-next, sought-none}
use Rattle.rpki_payloads.proofs.conflict.in_both.Goals as goal

pub numbers-init : goal.numbers-init
numbers-init c = sought-first (Contains c.args.others.now) c.args.numbers.now

pub returns-then-is_among : goal.returns-then-is_among
returns-then-is_among c = (
  sought-here (Contains c.args.others.now) c.args.numbers.now c.numbers.rest.now c.in-Some.following.now
      c.in-Some.first.now c.numbers.invariant
      c.in-Some.ensures.cases.0,
  c.is_among.ensures.0 c.if-is_among.true,
)

pub numbers-preserved : goal.numbers-preserved
numbers-preserved c =
    sought-next (Contains c.args.others.now) c.args.numbers.now c.numbers.rest.now c.in-Some.following.now
    c.in-Some.first.now c.numbers.invariant
    c.in-Some.ensures.cases.0
    (λ h. let t : c.is_among.result ≡ true = c.is_among.ensures.1 h in absurd (cc c.if-is_among.false))

pub returns : goal.returns
returns c =
    let none = sought-none (Contains c.args.others.now) c.args.numbers.now c.numbers.rest.now c.numbers.invariant
    (nil_from_length c.numbers.rest.now c.in_default.ensures.cases) in
    λ number h. none number h.0 h.1
