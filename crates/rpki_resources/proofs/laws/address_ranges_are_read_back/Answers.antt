use Rattle.rpki_resources.proofs.AddressTextLaws.{range-read-back}
use Rattle.rpki_resources.proofs.laws.address_ranges_are_read_back.Goals as goal

pub returns : goal.returns
returns c = λ r h. range-read-back r h.min h.max h.one_family h.order h.is_block
