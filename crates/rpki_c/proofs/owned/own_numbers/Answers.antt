use Rattle.std.proofs.Common.{inl, inr}
use Rattle.rpki_c.specs.Settling.{IsOverclaimed}
use Rattle.rpki_c.proofs.ResourceLaws.{refused-by, settled-fits}
use Rattle.rpki_c.proofs.owned.own_numbers.Goals as goal

pub returns-in-Ok-settle-clause-fit : goal.returns-in-Ok-settle-clause-fit
returns-in-Ok-settle-clause-fit c =
    let (v, h) = c.in-Ok-settle.ensures.some in
    settled-fits c.args.policy v c.in-Ok.over c.in-Ok-settle.own (c.requires v h) c.in-Ok.ensures.small
    c.as_slice-blocks.ensures.canonical (c.in-Ok-settle.ensures.settled v h)

pub returns-clause-err : goal.returns-clause-err
returns-clause-err c = λ v h.
    let number = c.settle_number in
    let why = refused-by (IsOverclaimed c.args.policy v c.in-Ok.over) c.in-Err.error number.result
    number.ensures.overclaim number.ensures.memory (λ is. c.in-Err.ensures.refused is v h) in
    elim why [ inl w ↦ inl (c.in-Ok.over, c.in-Ok.ensures.numbers, w.0, w.1) | inr w ↦ inr w ]
