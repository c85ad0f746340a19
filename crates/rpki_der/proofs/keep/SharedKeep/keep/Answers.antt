use Rattle.std.proofs.Common.{refl, ◌∙◌}
use Rattle.rpki_der.proofs.KeepLaws.{part-stands}
use Rattle.rpki_der.proofs.keep.SharedKeep.keep.Goals as goal

pub returns : goal.returns
returns c =
    let self = c.args.self.now in
    c.in_ok-part.ensures.ok ∙ part-stands self.bytes.now self.end c.args.octets.now c.requires.held _ c.args.start
    c.args.end refl c.requires.ordered c.requires.within
