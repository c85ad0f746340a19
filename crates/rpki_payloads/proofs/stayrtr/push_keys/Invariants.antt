use Rattle.std.proofs.Common.{◌≡◌, ◌++◌, take}
use Rattle.std.specs.List.{flat_map}
use Rattle.rpki_payloads.specs.StayRtr.{stay_numbers}
use Rattle.rpki_payloads.proofs.stayrtr.push_keys.Given as goal

abbrev pub invariant-keys : goal.invariant-keys
invariant-keys l = l.text.items ≡ l.initial.text.items ++ flat_map (stay_numbers l.name) (take l.key-index l.keys)
