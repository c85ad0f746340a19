use Rattle.rpki_resources.specs.Address.{width}
use Rattle.rpki_resources.proofs.StrippedLaws.{stripped-high}
use Rattle.rpki_resources.proofs.address.Address.stripped_high.Goals as goal

pub returns-clause-legal : goal.returns-clause-legal
returns-clause-legal c =
    let is = c.without_bits.ensures in
    let size = c.width.ensures in
    let h = (stripped-high (width c.args.family) c.args.high c.requires).legal in
    rw (is, size) h

pub returns-clause-stripped : goal.returns-clause-stripped
returns-clause-stripped c =
    let is = c.without_bits.ensures in
    let size = c.width.ensures in
    let h = (stripped-high (width c.args.family) c.args.high c.requires).stripped in
    rw (is, size) h

pub returns-clause-end : goal.returns-clause-end
returns-clause-end c =
    let is = c.without_bits.ensures in
    let size = c.width.ensures in
    let h = (stripped-high (width c.args.family) c.args.high c.requires).end in
    rw (is, size) h
