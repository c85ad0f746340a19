use Rattle.rpki_records.proofs.TextsLaws.{NextDiffer}
use Rattle.rpki_records.proofs.entries.differ.Given as goal

-- no two neighbours so far are the same
abbrev pub invariant-texts : goal.invariant-texts
invariant-texts l = NextDiffer l.i l.texts
