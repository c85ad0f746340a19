use Rattle.std.proofs.Common.{◌≡◌, take}
use Rattle.std.specs.List.{flat_map}
use Rattle.rpki_payloads.specs.Json.{json_vap}
use Rattle.rpki_payloads.proofs.json_vaps.vap_objects.Given as goal

abbrev pub invariant-vaps : goal.invariant-vaps
invariant-vaps l = l.text.items ≡ flat_map json_vap (take l.vap-index l.vaps)
