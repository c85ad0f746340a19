use Rattle.rpki_issue.proofs.DoubledLaws.{NextDiffer}
use Rattle.rpki_issue.proofs.doubled.differ.Given as goal

-- no two neighbours so far are the same
abbrev pub invariant-numbers : goal.invariant-numbers
invariant-numbers l = NextDiffer l.i l.numbers
