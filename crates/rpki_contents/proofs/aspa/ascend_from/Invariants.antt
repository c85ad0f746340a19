use Rattle.std.proofs.Common.{◌↔◌, length}
use Rattle.rpki_contents.specs.Aspa.{AscendFrom}
use Rattle.rpki_contents.proofs.aspa.ascend_from.Given as goal

-- all ascend where the rest do
abbrev pub invariant-each : goal.invariant-each
invariant-each l = AscendFrom l.last l.numbers ↔ AscendFrom l.high l.rest

abbrev pub decreases-each : goal.decreases-each
decreases-each l = length l.rest
