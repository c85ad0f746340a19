use Rattle.rpki_resources.specs.Address.{width}
use Rattle.rpki_resources.proofs.AddressLaws.{width-most, high-shifted, high-below}
use Rattle.rpki_resources.proofs.address.Address.high_end.Goals as goal

pub overflow_add-result : goal.overflow_add-result
overflow_add-result c =
    let short = rw c.width.ensures at c.if-missing.false in
    let lt = high-below c.args.self (width c.args.family) c.requires.number c.requires.size (width-most c.args.family)
    short in
    rw c.width.ensures (record { fits = lt })

pub returns : goal.returns
returns c =
    let short = rw c.width.ensures at c.if-missing.false in
    rw c.width.ensures (high-shifted c.args.self (width c.args.family) c.requires.number c.requires.size
    (width-most c.args.family) short)
