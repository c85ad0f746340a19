use Rattle.std.proofs.Common.{inl, inr}
use Rattle.rpki_c.specs.Settling.{IsOverclaimed}
use Rattle.rpki_c.proofs.ResourceLaws.{refused-by}
use Rattle.rpki_c.proofs.owned.own_addresses.Goals as goal

pub returns-in-Err-clause-err : goal.returns-in-Err-clause-err
returns-in-Err-clause-err c = λ v h.
    let number = c.settle_number in
    let why = refused-by (IsOverclaimed c.args.policy v.v4 c.in-Ok.over4) c.in-Err.error number.result
    number.ensures.overclaim number.ensures.memory (λ is. c.in-Err.ensures.refused is v.v4 h.0) in
    elim why [
      | inl w ↦
          inl (
            c.in-Ok.over4,
            c.in-Ok-held.over6,
            record { in_v4 = c.in-Ok.ensures; in_v6 = c.in-Ok-held.ensures },
            w.0,
            inl w.1,
          )
      | inr w ↦ inr w
    ]

pub returns-clause-err : goal.returns-clause-err
returns-clause-err c = λ v h.
    let number = c.settle_number-in-Err-settle in
    let why = refused-by (IsOverclaimed c.args.policy v.v6 c.in-Ok-held.over6) c.in-Err-settle.error number.result
    number.ensures.overclaim number.ensures.memory (λ is. c.in-Err-settle.ensures.refused is v.v6 h.1) in
    elim why [
      | inl w ↦
          inl (
            c.in-Ok.over4,
            c.in-Ok-held.over6,
            record { in_v4 = c.in-Ok.ensures; in_v6 = c.in-Ok-held.ensures },
            w.0,
            inr w.1,
          )
      | inr w ↦ inr w
    ]
