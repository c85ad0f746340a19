use Rattle.std.proofs.Common.{◌≡◌, ◌++◌, take}
use Rattle.rpki_payloads.specs.Conflict.{added_prefixes}
use Rattle.rpki_payloads.proofs.conflict.push_added_prefixes.Given as goal

abbrev pub invariant-vrps : goal.invariant-vrps
invariant-vrps l = l.all.items ≡ l.initial.all.items ++ added_prefixes (take l.vrp-index l.vrps)
