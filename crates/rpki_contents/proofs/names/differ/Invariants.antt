use Rattle.rpki_contents.proofs.NamesLaws.{NextDiffer}
use Rattle.rpki_contents.proofs.names.differ.Given as goal

-- no two neighbours so far are the same
abbrev pub invariant-names : goal.invariant-names
invariant-names l = NextDiffer l.i l.names
