-- What clauses see of an object that was found.
use Rattle.std.specs.Prelude.{ℕ, List, Some, Result, Ok, Err}
use Rattle.rpki_fields.specs.declared.object.Object.{Object}
use Rattle.rpkicert.specs.declared.fault.Fault.TheVariants.{OutOfMemory}
use Rattle.rpkicert.specs.declared.outcome.Outcome.{Outcome}
use Rattle.rpkicert.specs.declared.fault.Fault.{Fault}
use Rattle.rpkicert.specs.Outcome.{OutcomeParts, found_parts, Finding}

abbrev pub found_of : Outcome → OutcomeParts
found_of found = found_parts found.octets.items found.object.value found.fault

abbrev pub finding_of : Result Outcome Fault → Finding
finding_of (Ok found) = Ok (found_of found)
finding_of (Err fault) = Err fault

-- an object that doesn't hold for this fault; allocation failed where that is the fault
abbrev pub wrong_finding : List ℕ → Object → Fault → Finding
wrong_finding octets x OutOfMemory = Err OutOfMemory
wrong_finding octets x fault = Ok (found_parts octets x (Some fault))
