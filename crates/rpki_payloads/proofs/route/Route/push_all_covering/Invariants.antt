use Rattle.std.proofs.Common.{◌≡◌, ◌++◌, take}
use Rattle.std.specs.List.{flat_map}
use Rattle.rpki_payloads.specs.Route.{covering_line}
use Rattle.rpki_payloads.proofs.route.Route.push_all_covering.Given as goal

abbrev pub invariant-vrps : goal.invariant-vrps
invariant-vrps l = l.text.items ≡ l.initial.text.items ++ flat_map (covering_line l.self) (take l.vrp-index l.vrps)
