use Rattle.std.proofs.Common.{inl, subst, ◌∙◌}
use Rattle.jiff.specs.Types.{DateTime}
use Rattle.rpki_c.specs.Moments.{IsToldOf}
use Rattle.rpki_c.proofs.list_issued.in_force.Goals as goal

pub returns : goal.returns
returns c = λ s x h.
    let time = c.in-Some.time in
    let status = c.told_of.result in
    let this = c.new-period.ensures.not_before ∙ h.tbs.this_update in
    let next = c.new-period.ensures.not_after ∙ h.tbs.next_update in
    let first = subst (λ (t : DateTime).
    IsToldOf (record { not_before = t; not_after = c.new-period.result.not_after }) time status) this
    c.told_of.ensures in
    inl (
      time,
      c.in-Some.ensures.value,
      subst (λ (t : DateTime). IsToldOf (record { not_before = x.list.this_update; not_after = t }) time status) next
          first,
    )
