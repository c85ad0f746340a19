use Rattle.std.proofs.Common.{arith}
use Rattle.rpki_der.proofs.HeaderSizeLaws.{tag-1, tag-2, tag-3, tag-4, tag-5}
use Rattle.rpki_der.proofs.kind.identifier_len.Goals as goal

pub returns-then-number-lt31-clause-size : goal.returns-then-number-lt31-clause-size
returns-then-number-lt31-clause-size c = λ t f is. tag-1 t f (omega (arith, is))

pub returns-then-number-clause-size : goal.returns-then-number-clause-size
returns-then-number-clause-size c = λ t f is. tag-2 t f (omega (arith, is)) (omega (arith, is))

pub returns-then-number-2-clause-size : goal.returns-then-number-2-clause-size
returns-then-number-2-clause-size c = λ t f is. tag-3 t f (omega (arith, is)) (omega (arith, is))

pub returns-then-number-3-clause-size : goal.returns-then-number-3-clause-size
returns-then-number-3-clause-size c = λ t f is. tag-4 t f (omega (arith, is)) (omega (arith, is))

pub returns-else-number-3-clause-size : goal.returns-else-number-3-clause-size
returns-else-number-3-clause-size c = λ t f is. tag-5 t f (omega (arith, is)) (omega (arith, is))
