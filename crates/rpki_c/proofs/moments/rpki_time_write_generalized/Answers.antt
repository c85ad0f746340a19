use Rattle.std.proofs.Common.{inl}
use Rattle.rpki_c.proofs.moments.rpki_time_write_generalized.Goals as goal

pub returns-in-Some : goal.returns-in-Some
returns-in-Some c =
    let made = rw c.encode_generalized_time.ensures.encoded at c.store_values.ensures in
    inl (c.in-Some.time, c.in-Some.ensures.value, made)
