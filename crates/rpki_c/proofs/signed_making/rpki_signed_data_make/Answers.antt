use Rattle.std.proofs.Common.{inl}
use Rattle.rpki_c.proofs.StatusLaws.{made-if}
use Rattle.rpki_c.proofs.signed_making.rpki_signed_data_make.Goals as goal

pub signed_of-requires : goal.signed_of-requires
signed_of-requires c = c.in-Ok.ensures.0.value

pub returns-in-Ok : goal.returns-in-Ok
returns-in-Ok c =
    let made = made-if c.signed_of.ensures.short c.signed_of.ensures.octets c.store_if_short.ensures in
    inl (c.in-Ok.ensures.0.value, made)
