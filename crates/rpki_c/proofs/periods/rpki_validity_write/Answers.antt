use Rattle.std.proofs.Common.{inl}
use Rattle.rpki_c.proofs.periods.rpki_validity_write.Goals as goal

pub returns-in-Some : goal.returns-in-Some
returns-in-Some c =
    inl (c.in-Some.validity, c.in-Some.ensures.value, rw c.encode.ensures.encoded at c.store_values.ensures)
