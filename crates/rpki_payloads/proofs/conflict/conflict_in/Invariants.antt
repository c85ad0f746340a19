use Rattle.rpki_payloads.proofs.ConflictLaws.{NoConflictBelow}
use Rattle.rpki_payloads.proofs.conflict.conflict_in.Given as goal

abbrev pub invariant-files : goal.invariant-files
invariant-files l = NoConflictBelow l.files l.second
