use Rattle.std.proofs.Common.{length}
use Rattle.rpki_payloads.proofs.AskedLaws.{AreAdded}
use Rattle.rpki_payloads.proofs.key_filters.push_numbers.Given as goal

abbrev pub invariant-rest : goal.invariant-rest
invariant-rest l = AreAdded l.initial.rest l.initial.numbers.items l.rest l.numbers.items

abbrev pub decreases-rest : goal.decreases-rest
decreases-rest l = length l.rest
