use Rattle.std.proofs.Common.{◌≡◌, ◌++◌, take}
use Rattle.std.specs.List.{flat_map}
use Rattle.rpki_payloads.specs.Metrics.{escaped}
use Rattle.rpki_payloads.proofs.metrics.push_value.Given as goal

abbrev pub invariant-octets : goal.invariant-octets
invariant-octets l = l.text.items ≡ l.initial.text.items ++ flat_map escaped (take l.octet-index l.value)
