use Rattle.rpki_resources.specs.Address.{width}
use Rattle.rpki_contents.proofs.OriginLaws.{low-fits}
use Rattle.rpki_contents.proofs.roa_address.RoaIpAddress.friendly.Goals as goal

pub address_of-requires : goal.address_of-requires
address_of-requires c = rw c.low_end.ensures (low-fits (width c.args.family) c.args.self.prefix c.requires.0)
