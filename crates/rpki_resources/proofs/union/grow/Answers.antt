use Rattle.std.proofs.Common.{◌<◌, suc, inl, inr, refl, arith}
use Rattle.std.proofs.lemmas.Bool.{iff_false}
use Rattle.rpki_resources.proofs.UnionLaws.{closes, grows}
use Rattle.rpki_resources.proofs.union.grow.Goals as goal

pub returns-then-begins_past : goal.returns-then-begins_past
returns-then-begins_past c = closes c.args.before c.args.block c.requires
    (c.begins_past.ensures.0 c.if-begins_past.true)

pub returns-then-before-block : goal.returns-then-before-block
returns-then-before-block c =
    let not : suc c.args.before.high < c.args.block.low → ⊥ = iff_false c.begins_past.ensures c.if-begins_past.false in
    grows c.args.before c.args.block c.args.block.high c.requires (omega (arith, not))
    (omega (arith, c.if-before-block.true)) (omega arith) (inr refl)

pub returns-else-before-block : goal.returns-else-before-block
returns-else-before-block c =
    let not : suc c.args.before.high < c.args.block.low → ⊥ = iff_false c.begins_past.ensures c.if-begins_past.false in
    grows c.args.before c.args.block c.args.before.high c.requires (omega (arith, not)) (omega arith)
    (omega (arith, c.if-before-block.false)) (inl refl)
