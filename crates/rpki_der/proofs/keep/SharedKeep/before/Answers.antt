use Rattle.std.proofs.Common.{arith}
use Rattle.rpki_der.proofs.KeepLaws.{part-before, no-longer}
use Rattle.rpki_der.proofs.keep.SharedKeep.before.Goals as goal

pub returns : goal.returns
returns c =
    let self = c.args.self.now in
    part-before self.bytes.now self.end c.args._octets.now c.args._part.now c.args.rest.now c.requires.held
    c.requires.stands

pub overflow_sub-result : goal.overflow_sub-result
overflow_sub-result c =
    let within = no-longer c.args._octets.now c.args._part.now c.args.rest.now c.requires.stands in
    omega (arith, c.requires.held.ends, within)
