use Rattle.std.proofs.Common.{inl, inr, refl}
use Rattle.rpki_c.specs.Settling.{IsOverclaimed}
use Rattle.rpki_c.proofs.ResourceLaws.{refused-by}
use Rattle.rpki_c.proofs.settling.settle_addresses.Goals as goal

pub returns-in-Err-settle : goal.returns-in-Err-settle
returns-in-Err-settle c = λ v h.
    let number = c.settle_number-in-Err-settle in
    let why = refused-by (IsOverclaimed c.args.policy v.v6 c.in-Ok-held.v6) c.in-Err-settle.error number.result
    number.ensures.overclaim number.ensures.memory (λ is. c.in-Err-settle.ensures.refused is v.v6 h.1) in
    inl (
      c.in-Ok.v4,
      c.in-Ok-held.v6,
      record { in_v4 = c.in-Ok.ensures; in_v6 = c.in-Ok-held.ensures },
      elim why [
        | inl w ↦ inr (inl (w.0, inr w.1, record { array = refl; size = refl }))
        | inr w ↦ inr (inr (w, record { array = refl; size = refl }))
      ],
    )

pub returns-in-Err : goal.returns-in-Err
returns-in-Err c = λ v h.
    let number = c.settle_number in
    let why = refused-by (IsOverclaimed c.args.policy v.v4 c.in-Ok.v4) c.in-Err.error number.result
    number.ensures.overclaim number.ensures.memory (λ is. c.in-Err.ensures.refused is v.v4 h.0) in
    inl (
      c.in-Ok.v4,
      c.in-Ok-held.v6,
      record { in_v4 = c.in-Ok.ensures; in_v6 = c.in-Ok-held.ensures },
      elim why [
        | inl w ↦ inr (inl (w.0, inl w.1, record { array = refl; size = refl }))
        | inr w ↦ inr (inr (w, record { array = refl; size = refl }))
      ],
    )
