use Rattle.std.proofs.Common.{inl}
use Rattle.rpki_c.proofs.moments.rpki_time_write_utc.Goals as goal

pub returns-in-Some : goal.returns-in-Some
returns-in-Some c =
    inl (c.in-Some.time, c.in-Some.ensures.value, rw c.encode_utc_time.ensures.encoded at c.store_values.ensures)
