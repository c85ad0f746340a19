use Rattle.std.proofs.Common.{arith}
use Rattle.rpki_contents.proofs.WritingLaws.{few-contents, parts-values}
use Rattle.rpki_contents.proofs.encode.encode_file.Goals as goal

pub returns-clause-short : goal.returns-clause-short
returns-clause-short c =
    rw c.new.ensures
    ((2, parts-values c.args.file.now c.requires), omega (arith, few-contents c.args.file.now c.requires))
