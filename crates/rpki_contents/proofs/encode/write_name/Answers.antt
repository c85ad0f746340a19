use Rattle.std.proofs.Common.{arith}
use Rattle.rpki_contents.proofs.WritingLaws.{name-few}
use Rattle.rpki_contents.proofs.encode.write_name.Goals as goal

pub write_encoded-requires : goal.write_encoded-requires
write_encoded-requires g c =
    let few = name-few c.args.file.now c.requires in
    (c.encode_name.ensures.short, rw c.encode_name.ensures.octets (omega (arith, few)))
