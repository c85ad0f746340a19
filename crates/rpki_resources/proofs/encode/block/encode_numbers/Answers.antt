use Rattle.std.proofs.Common.{arith}
use Rattle.rpki_resources.proofs.BlockWritingLaws.{as-few, as-pair-short}
use Rattle.rpki_resources.proofs.encode.block.encode_numbers.Goals as goal

pub returns-then-block-clause-short : goal.returns-then-block-clause-short
returns-then-block-clause-short c = omega (arith, as-few c.encode.result.content.0)

pub returns-clause-short : goal.returns-clause-short
returns-clause-short c = as-pair-short _ _ c.new.result.0.content.0 c.new.result.1.content.0
