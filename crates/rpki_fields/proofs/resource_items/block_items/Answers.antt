use Rattle.std.proofs.lemmas.Result.{IfOk-weaker}
use Rattle.rpki_resources.proofs.WritableLaws.{all-fit}
use Rattle.rpki_fields.proofs.resource_items.block_items.Goals as goal

-- what was read in place has numbers of its kind
pub items_of-requires : goal.items_of-requires
items_of-requires c =
    let list = c.args.list.now in
    rw (c.kind.ensures, c.as_slice.ensures.blocks)
    (all-fit list.kind c.in_ok-blocks.blocks list.octets c.in_ok-blocks.ensures.0.blocks.each)

pub returns : goal.returns
returns c =
    IfOk-weaker c.items_of.result _ _ (λ items e. (
      c.in_ok-blocks.blocks,
      c.in_ok-blocks.ensures,
      rw (c.kind.ensures, c.as_slice.ensures.blocks) at e,
    )) c.items_of.ensures
