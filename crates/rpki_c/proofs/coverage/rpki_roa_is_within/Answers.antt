use Rattle.std.proofs.Common.{inl, inr, refl}
use Rattle.std.proofs.lemmas.Bool.{iff_false}
use Rattle.rpki_c.proofs.coverage.rpki_roa_is_within.Goals as goal

pub returns-in-Ok-is_within : goal.returns-in-Ok-is_within
returns-in-Ok-is_within c =
    inr (inr (inl (
      c.in-Ok-decode.roa,
      c.in-Ok-held.v4,
      c.in-Ok-held-2.v6,
      c.in-Ok-decode.ensures.0,
      record { in_v4 = c.in-Ok-held.ensures; in_v6 = c.in-Ok-held-2.ensures },
      inr (refl, iff_false c.in-Ok-is_within.ensures c.if-within.false),
    )))
