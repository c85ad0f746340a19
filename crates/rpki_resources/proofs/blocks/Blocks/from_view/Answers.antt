use Rattle.std.proofs.Common.{refl, Some, None}
use Rattle.rpki_resources.proofs.KeptLaws.{one-kept, all-kept, held-only, kept-canonical}
use Rattle.rpki_resources.proofs.blocks.Blocks.from_view.Goals as goal

pub each-init : goal.each-init
each-init c = λ bs h. (bs, c.blocks-rest.ensures.blocks bs h, rw c.in_ok-items.ensures.items refl)

pub each-preserved : goal.each-preserved
each-preserved c =
    rw c.in_ok-push.ensures.items
    (one-kept c.args.view.now c.each.items.items c.each.rest c.each.invariant (Some c.in-Some.block)
    c.next_block.new.self c.in-Some.ensures.given c.in-Some.block refl)

pub shared-requires : goal.shared-requires
shared-requires c =
    let all = all-kept c.args.view.now c.each.items.items c.each.rest c.each.invariant None c.next_block.new.self
    c.in_default.ensures.given refl in
    kept-canonical c.args.view.now c.each.items.items
    (held-only c.args.view.now c.each.items.items c.blocks-rest.ensures.held all)

pub returns : goal.returns
returns c =
    let all = all-kept c.args.view.now c.each.items.items c.each.rest c.each.invariant None c.next_block.new.self
    c.in_default.ensures.given refl in
    rw c.in_ok-set.ensures.same (held-only c.args.view.now c.each.items.items c.blocks-rest.ensures.held all)
