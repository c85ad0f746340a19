use Rattle.std.proofs.Common.{◌≡◌, take}
use Rattle.std.specs.List.{flat_map}
use Rattle.rpki_payloads.specs.StayRtr.{stay_vap}
use Rattle.rpki_payloads.proofs.stayrtr.vap_objects.Given as goal

abbrev pub invariant-vaps : goal.invariant-vaps
invariant-vaps l = l.text.items ≡ flat_map stay_vap (take l.vap-index l.vaps)
