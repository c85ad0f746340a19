use Rattle.rpki_resources.proofs.UnreadLaws.{if-some, within-none, within-list}
use Rattle.rpki_resources.proofs.compared.is_within.Goals as goal

pub returns-then-are_blocks-clause-some : goal.returns-then-are_blocks-clause-some
returns-then-are_blocks-clause-some c = within-none c.args.kind c.args.inner c.args.outer c.in-Listed.part
    c.in-Listed.is c.in-Missing.is (c.are_blocks.ensures.0 c.if-are_blocks.true)

pub returns-in-Listed-outer-clause-some : goal.returns-in-Listed-outer-clause-some
returns-in-Listed-outer-clause-some c =
    if-some c.is_part.result
    (within-list c.args.kind c.args.inner c.args.outer c.in-Listed.part c.in-Listed.is c.in-Listed-outer.whole
    c.in-Listed-outer.is)
    c.is_part.ensures.some
