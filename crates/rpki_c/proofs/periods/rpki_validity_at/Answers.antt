use Rattle.std.proofs.Common.{inl}
use Rattle.rpki_c.proofs.periods.rpki_validity_at.Goals as goal

pub returns : goal.returns
returns c =
    inl (
      c.in-Some.validity,
      c.in-Some-time_of.time,
      c.in-Some.ensures.value,
      c.in-Some-time_of.ensures.value,
      c.told_of.ensures,
    )
