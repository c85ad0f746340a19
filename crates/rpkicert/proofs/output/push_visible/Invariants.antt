use Rattle.std.proofs.Common.{◌≡◌, ◌++◌, take}
use Rattle.rpkicert.specs.Output.{visible}
use Rattle.rpkicert.proofs.output.push_visible.Given as goal

abbrev pub invariant-octets : goal.invariant-octets
invariant-octets l = l.text.items ≡ l.initial.text.items ++ visible (take l.octet-index l.name)
