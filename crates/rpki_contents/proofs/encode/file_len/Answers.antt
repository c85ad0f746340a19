use Rattle.std.proofs.Common.{arith}
use Rattle.rpki_contents.proofs.WritingLaws.{few-octets}
use Rattle.rpki_contents.proofs.encode.file_len.Goals as goal

pub encoded_len-requires : goal.encoded_len-requires
encoded_len-requires c =
    let few = few-octets c.args.file.now c.requires in
    (c.encode_file.ensures.short, rw c.encode_file.ensures.octets (omega (arith, few)))
