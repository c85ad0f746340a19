use Rattle.std.proofs.Common.{inl}
use Rattle.rpki_c.proofs.time_writing.rpki_time_write.Goals as goal

pub returns-in-Some : goal.returns-in-Some
returns-in-Some c =
    inl (c.in-Some.time, c.in-Some.ensures.value, rw c.encode_varied.ensures.time at c.store_values.ensures)
