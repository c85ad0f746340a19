use Rattle.std.proofs.Common.{refl}
use Rattle.std.proofs.lemmas.Bool.{iff_false}
use Rattle.rpki_der.proofs.TriedLaws.{tried-refused}
use Rattle.rpki_resources.specs.Listed.{SpellsNext, IsNextFault}
use Rattle.rpki_resources.proofs.FollowLaws.{next-accepted, next-refused, next-out}
use Rattle.rpki_resources.proofs.block_list.take_next.Goals as goal

pub returns-in_err-block : goal.returns-in_err-block
returns-in_err-block c =
    let e = c.in_err-block.field-0.0 in
    tried-refused (λ b. b) (SpellsNext c.args.kind c.args.last) (IsNextFault c.args.kind c.args.last) _ _ e _
    c.from_residual.ensures
    (next-refused c.args.kind c.args.last _ _ _ e refl c.in_err-block.ensures)

pub returns-then-not-follows : goal.returns-then-not-follows
returns-then-not-follows c =
    rw c.content.ensures (next-out c.args.kind c.args.last _ c.in_ok-block.block _ _ _ refl c.in_ok-block.ensures
    (iff_false c.follows.ensures c.if-not-follows.true))

pub returns : goal.returns
returns c = next-accepted c.args.kind c.args.last _ c.in_ok-block.block _ c.in_ok-block.ensures
    (c.follows.ensures.0 c.if-not-follows.false)
