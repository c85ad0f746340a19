use Rattle.std.proofs.Common.{arith}
use Rattle.rpki_contents.proofs.encode.encode_name.Goals as goal

pub returns-clause-short : goal.returns-clause-short
returns-clause-short c = c.encode.ensures.short.1 (omega (arith, c.requires.name))
