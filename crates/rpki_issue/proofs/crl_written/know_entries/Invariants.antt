use Rattle.std.proofs.Common.{length}
use Rattle.rpki_der.specs.Listed.{EachHas}
use Rattle.rpki_issue.proofs.ListLaws.{IsKnown}
use Rattle.rpki_issue.proofs.crl_written.know_entries.Given as goal

-- where the remaining entries are known, all are
abbrev pub invariant-each : goal.invariant-each
invariant-each l = record { all : EachHas IsKnown l.rest → EachHas IsKnown l.entries }

abbrev pub decreases-each : goal.decreases-each
decreases-each l = length l.rest
