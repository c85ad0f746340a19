use Rattle.rpki_attributes.proofs.AttributesReadLaws.{attributes-back}
use Rattle.rpki_attributes.proofs.laws.written_attributes_are_read.Goals as goal

pub returns : goal.returns
returns c = attributes-back
