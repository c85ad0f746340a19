use Rattle.std.proofs.Common.{arith}
use Rattle.rpki_resources.proofs.BlockWritingLaws.{block-short}
use Rattle.rpki_resources.proofs.encode.blocks.block_len.Goals as goal

pub encoded_len-requires : goal.encoded_len-requires
encoded_len-requires c =
    let few = (block-short c.args.kind c.args.block c.requires).few in
    (c.encode_block.ensures.short, rw c.encode_block.ensures.octets (omega (arith, few)))
