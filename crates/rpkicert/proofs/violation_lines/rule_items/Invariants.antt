use Rattle.std.proofs.Common.{◌≡◌, take, map}
use Rattle.rpkicert.specs.Output.{rule_item}
use Rattle.rpkicert.proofs.violation_lines.rule_items.Given as goal

abbrev pub invariant-rules : goal.invariant-rules
invariant-rules l = l.items.items ≡ map rule_item (take l.violation-index l.all)
