use Rattle.std.proofs.Common.{◌≡◌, true}
use Rattle.std.proofs.lemmas.List.{nil_from_length}
use Rattle.rpki_payloads.specs.Shared.{HasAddress}
use Rattle.rpki_payloads.proofs.ConflictLaws.{sought-first, sought-here, sought-next, sought-none}
use Rattle.rpki_payloads.proofs.shared.with_address.Goals as goal

pub prefixes-init : goal.prefixes-init
prefixes-init c = sought-first (λ p. HasAddress c.args.width p c.args.number) c.args.prefixes.now

pub returns-then-has_address : goal.returns-then-has_address
returns-then-has_address c = (
  sought-here (λ p. HasAddress c.args.width p c.args.number) c.args.prefixes.now c.prefixes.rest.now
      c.in-Some.following.now
      c.in-Some.first.now c.prefixes.invariant
      c.in-Some.ensures.cases.0,
  c.has_address.ensures.0 c.if-has_address.true,
)

pub prefixes-preserved : goal.prefixes-preserved
prefixes-preserved c =
    sought-next (λ p. HasAddress c.args.width p c.args.number) c.args.prefixes.now c.prefixes.rest.now
    c.in-Some.following.now
    c.in-Some.first.now c.prefixes.invariant
    c.in-Some.ensures.cases.0
    (λ h. let t : c.has_address.result ≡ true = c.has_address.ensures.1 h in absurd (cc c.if-has_address.false))

pub returns : goal.returns
returns c =
    let none = sought-none (λ p. HasAddress c.args.width p c.args.number) c.args.prefixes.now c.prefixes.rest.now
    c.prefixes.invariant
    (nil_from_length c.prefixes.rest.now c.in_default.ensures.cases) in
    λ p h. none p h.0 h.1
