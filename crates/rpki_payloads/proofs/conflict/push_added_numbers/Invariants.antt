use Rattle.std.proofs.Common.{◌≡◌, ◌++◌, take}
use Rattle.rpki_payloads.specs.Conflict.{added_numbers}
use Rattle.rpki_payloads.proofs.conflict.push_added_numbers.Given as goal

abbrev pub invariant-keys : goal.invariant-keys
invariant-keys l = l.all.items ≡ l.initial.all.items ++ added_numbers (take l.key-index l.keys)
