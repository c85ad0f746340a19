use Rattle.std.proofs.Common.{arith}
use Rattle.rpki_time.proofs.HashLaws.{serials-hashed}
use Rattle.rpki_time.proofs.laws.serials_are_hashed_by_value.Goals as goal

pub returns : goal.returns
returns c = λ m n h l. serials-hashed m n (omega (arith, h)) (omega (arith, l))
