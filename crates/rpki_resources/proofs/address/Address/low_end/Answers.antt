use Rattle.rpki_resources.specs.Address.{width}
use Rattle.rpki_resources.proofs.AddressLaws.{width-most, low-shifted}
use Rattle.rpki_resources.proofs.address.Address.low_end.Goals as goal

pub returns : goal.returns
returns c = rw c.width.ensures (low-shifted c.args.self (width c.args.family) c.requires.number c.requires.size
    (width-most c.args.family))
