use Rattle.std.proofs.Common.{arith}
use Rattle.rpki_contents.proofs.WritingLaws.{name-few}
use Rattle.rpki_contents.proofs.encode.name_len.Goals as goal

pub encoded_len-requires : goal.encoded_len-requires
encoded_len-requires c =
    let few = name-few c.args.file.now c.requires in
    (c.encode_name.ensures.short, rw c.encode_name.ensures.octets (omega (arith, few)))
