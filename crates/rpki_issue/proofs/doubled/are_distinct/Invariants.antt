use Rattle.std.proofs.Common.{take}
use Rattle.rpki_issue.proofs.DoubledLaws.{AreNumbersOf}
use Rattle.rpki_issue.proofs.doubled.are_distinct.Given as goal

-- the numbers so far
abbrev pub invariant-entries : goal.invariant-entries
invariant-entries l = AreNumbersOf l.numbers.items (take l.entry-index l.entries)
