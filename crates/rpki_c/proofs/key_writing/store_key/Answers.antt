use Rattle.rpki_c.proofs.StatusLaws.{made-if}
use Rattle.rpki_c.proofs.key_writing.store_key.Goals as goal

pub returns : goal.returns
returns c = made-if c.encode_ref.ensures.short c.encode_ref.ensures.octets c.store_if_short.ensures
