use Rattle.std.proofs.Common.{◌≡◌, take}
use Rattle.std.specs.List.{flat_map}
use Rattle.rpki_payloads.specs.StayRtr.{stay_origins}
use Rattle.rpki_payloads.proofs.stayrtr.origin_objects.Given as goal

abbrev pub invariant-all : goal.invariant-all
invariant-all l = l.text.items ≡ flat_map stay_origins (take l.one-index l.all)
