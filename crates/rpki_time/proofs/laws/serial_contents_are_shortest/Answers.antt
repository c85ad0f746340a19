use Rattle.rpki_der.proofs.IntegerLaws.{contents-short}
use Rattle.rpki_time.proofs.SerialLaws.{serial-short, short-below}
use Rattle.rpki_time.proofs.WritingLaws.{serial_contents-are}
use Rattle.rpki_time.proofs.laws.serial_contents_are_shortest.Goals as goal

pub returns-clause-written : goal.returns-clause-written
returns-clause-written c = λ n small. serial-short n _ (serial_contents-are n small) small

pub returns-clause-bound : goal.returns-clause-bound
returns-clause-bound c = λ n d h. (λ small. contents-short n d h small, λ short. short-below n d h short)
