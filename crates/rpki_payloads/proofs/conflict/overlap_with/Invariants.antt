use Rattle.rpki_payloads.proofs.ConflictLaws.{NoneBelow}
use Rattle.rpki_payloads.proofs.conflict.overlap_with.Given as goal

abbrev pub invariant-files : goal.invariant-files
invariant-files l = NoneBelow l.files l.other l.at
