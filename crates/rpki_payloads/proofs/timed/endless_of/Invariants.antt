use Rattle.std.proofs.Common.{◌≡◌, map, take}
use Rattle.rpki_payloads.specs.Timed.{endless}
use Rattle.rpki_payloads.proofs.timed.endless_of.Given as goal

abbrev pub invariant-vrps : goal.invariant-vrps
invariant-vrps l = l.all.items ≡ map endless (take l.vrp-index l.vrps)
