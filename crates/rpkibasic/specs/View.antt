-- What clauses see of a result that the program holds.
use Rattle.std.specs.Prelude.{ℕ, List, Result, Ok, Err, Vec}
use Rattle.std.specs.Borrow.{Bor}
use Rattle.rpkibasic.specs.declared.fault.Fault.{Fault}
use Rattle.rpkibasic.specs.Run.{Answer}

-- a text that is owned
abbrev pub answer_of : {Z : Type 0} → Result (Vec ℕ Z) Fault → Answer
answer_of (Ok text) = Ok text.items
answer_of (Err fault) = Err fault
