use Rattle.std.proofs.Common.{◌≡◌, take}
use Rattle.std.specs.List.{flat_map}
use Rattle.rpkicert.specs.Output.{rule_line}
use Rattle.rpkicert.proofs.violation_lines.rule_lines.Given as goal

abbrev pub invariant-rules : goal.invariant-rules
invariant-rules l = l.text.items ≡ flat_map (rule_line l.name) (take l.violation-index l.all)
