-- What clauses see of results that the program holds.
use Rattle.std.specs.Prelude.{ℕ, List, Result, Ok, Err, Vec}
use Rattle.rpkicert.specs.declared.fault.Fault.{Fault}

-- octets that are owned
abbrev pub read_of : {Z : Type 0} → Result (Vec ℕ Z) Fault → Result (List ℕ) Fault
read_of (Ok octets) = Ok octets.items
read_of (Err fault) = Err fault
