use Rattle.std.proofs.Common.{◌≡◌, ◌++◌, take}
use Rattle.std.specs.List.{flat_map}
use Rattle.rpki_payloads.specs.Json.{json_key}
use Rattle.rpki_payloads.proofs.json_keys.push_keys.Given as goal

abbrev pub invariant-keys : goal.invariant-keys
invariant-keys l = l.text.items ≡ l.initial.text.items ++ flat_map (json_key l.name) (take l.key-index l.keys)
