use Rattle.rpki_crl.proofs.ShortEntryLaws.{serial_there}
use Rattle.rpki_crl.proofs.short_entry.is_serial.Goals as goal

pub returns : goal.returns
returns c = λ h. serial_there _ c.type_inv.contents (c.are_least.ensures h).0 (c.are_least.ensures h).1
