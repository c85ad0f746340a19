use Rattle.std.proofs.Common.{◌↔◌, length}
use Rattle.rpki_contents.specs.Aspa.{IsNoneOf}
use Rattle.rpki_contents.proofs.aspa.is_none_of.Given as goal

-- the number is none of all where it is none of the rest
abbrev pub invariant-each : goal.invariant-each
invariant-each l = IsNoneOf l.number l.numbers ↔ IsNoneOf l.number l.rest

abbrev pub decreases-each : goal.decreases-each
decreases-each l = length l.rest
