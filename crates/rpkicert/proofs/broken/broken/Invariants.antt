use Rattle.std.proofs.Common.{take}
use Rattle.rpkicert.specs.Broken.{AreBroken}
use Rattle.rpkicert.proofs.broken.broken.Given as goal

abbrev pub invariant-rules : goal.invariant-rules
invariant-rules l = AreBroken l.strict l.tbs (take l.rule-index l.rules) l.all.items
