use Rattle.std.proofs.Common.{subst}
use Rattle.rpki_resources.specs.declared.kind.ResourceKind.TheVariants.{AsNumbers}
use Rattle.rpki_resources.specs.Encoded.{AreBlocksOf}
use Rattle.rpki_c.proofs.ResourceLaws.{gives-some, filling-next}
use Rattle.rpki_c.proofs.as_blocks.write_listed.Goals as goal

pub each-preserved : goal.each-preserved
each-preserved c = λ bs h.
    let k = c.each.invariant bs h in
    let g = gives-some k.0 c.in-Some.block c.next_block.new.self (c.in-Some.ensures.given k.0 k.1) in
    (g.0, g.2, (subst (AreBlocksOf AsNumbers) g.1 k.2).1, filling-next c.entry_of.ensures g.1 k.3)
