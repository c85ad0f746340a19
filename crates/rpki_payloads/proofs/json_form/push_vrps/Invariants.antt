use Rattle.std.proofs.Common.{◌≡◌, ◌++◌, take}
use Rattle.std.specs.List.{flat_map}
use Rattle.rpki_payloads.specs.Json.{json_vrp}
use Rattle.rpki_payloads.proofs.json_form.push_vrps.Given as goal

abbrev pub invariant-vrps : goal.invariant-vrps
invariant-vrps l = l.text.items ≡ l.initial.text.items ++ flat_map (json_vrp l.name) (take l.vrp-index l.vrps)
