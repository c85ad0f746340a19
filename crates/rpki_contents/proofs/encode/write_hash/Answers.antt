use Rattle.std.proofs.Common.{arith}
use Rattle.rpki_contents.proofs.WritingLaws.{hash-few}
use Rattle.rpki_contents.proofs.encode.write_hash.Goals as goal

pub write_encoded-requires : goal.write_encoded-requires
write_encoded-requires g c =
    let few = hash-few c.args.file.now c.requires in
    (c.encode_bits.ensures.short, rw (c.encode_bits.ensures.encoded, c.hash.ensures) (omega (arith, few)))
