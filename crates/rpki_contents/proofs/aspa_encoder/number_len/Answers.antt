use Rattle.std.proofs.Common.{arith}
use Rattle.rpki_contents.proofs.AspaWritingLaws.{contents-few, number-few}
use Rattle.rpki_contents.proofs.aspa_encoder.number_len.Goals as goal

pub encoded_len-requires : goal.encoded_len-requires
encoded_len-requires c =
    let few = number-few c.args.number in
    (c.encode.ensures.short.1 (contents-few c.args.number), rw c.encode.ensures.encoded (omega (arith, few)))
