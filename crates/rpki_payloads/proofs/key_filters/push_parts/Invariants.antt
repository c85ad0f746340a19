use Rattle.std.proofs.Common.{length}
use Rattle.rpki_payloads.specs.Asked.{key_from}
use Rattle.rpki_payloads.proofs.PartLaws.{IsRest}
use Rattle.rpki_payloads.proofs.key_filters.push_parts.Given as goal

abbrev pub invariant-numbers : goal.invariant-numbers
invariant-numbers l = IsRest l.initial.keys.items l.numbers l.key l.keys.items l.rest (key_from l.first l.key)

abbrev pub decreases-numbers : goal.decreases-numbers
decreases-numbers l = length l.rest
