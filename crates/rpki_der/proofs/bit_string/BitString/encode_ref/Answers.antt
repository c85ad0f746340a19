use Rattle.std.proofs.Common.{arith}
use Rattle.rpki_der.proofs.LeafWritingLaws.{bits-apart}
use Rattle.rpki_der.proofs.bit_string.BitString.encode_ref.Goals as goal

pub returns-clause-same : goal.returns-clause-same
returns-clause-same c = λ other short. bits-apart c.args.self.now other (omega (arith, short))
