use Rattle.std.proofs.Common.{◌≡◌, ◌++◌, take}
use Rattle.std.specs.List.{flat_map}
use Rattle.rpki_payloads.specs.StayRtr.{stay_origin}
use Rattle.rpki_payloads.proofs.stayrtr.push_origins.Given as goal

abbrev pub invariant-all : goal.invariant-all
invariant-all l = l.text.items ≡ l.initial.text.items ++ flat_map (stay_origin l.name) (take l.timed-index l.all)
