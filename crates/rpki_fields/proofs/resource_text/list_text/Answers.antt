use Rattle.rpki_resources.proofs.WritableLaws.{all-fit}
use Rattle.rpki_fields.proofs.resource_text.list_text.Goals as goal

-- what was read in place has numbers of its kind
pub unreachable-requires : goal.unreachable-requires
unreachable-requires c =
    let list = c.args.list.now in
    c.in-None.ensures.none (rw c.kind.ensures
    (all-fit list.kind c.in_ok-blocks.blocks list.octets c.in_ok-blocks.ensures.0.blocks.each))
