use Rattle.std.proofs.Common.{arith}
use Rattle.rpki_contents.proofs.RoaWritingLaws.{prefix-short}
use Rattle.rpki_contents.proofs.roa_encoder.encode_prefix.Goals as goal

pub returns-clause-short : goal.returns-clause-short
returns-clause-short c =
    let few = prefix-short c.args.address c.requires in
    rw c.new.ensures (
      (c.encode.ensures.short, c.encode_max_length.ensures.short),
      rw (c.encode.ensures.octets, c.encode_max_length.ensures.octets) (omega (arith, few)),
    )
