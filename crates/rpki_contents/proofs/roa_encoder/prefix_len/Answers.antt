use Rattle.std.proofs.Common.{arith}
use Rattle.rpki_contents.proofs.RoaWritingLaws.{prefix-few}
use Rattle.rpki_contents.proofs.roa_encoder.prefix_len.Goals as goal

pub encoded_len-requires : goal.encoded_len-requires
encoded_len-requires c =
    let few = prefix-few c.args.address c.requires in
    (c.encode_prefix.ensures.short, rw c.encode_prefix.ensures.octets (omega (arith, few)))
