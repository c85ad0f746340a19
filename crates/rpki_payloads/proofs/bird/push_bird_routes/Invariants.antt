use Rattle.std.proofs.Common.{◌≡◌, ◌++◌, take}
use Rattle.rpki_payloads.specs.Lines.{bird_routes}
use Rattle.rpki_payloads.proofs.bird.push_bird_routes.Given as goal

abbrev pub invariant-vrps : goal.invariant-vrps
invariant-vrps l = l.text.items ≡ l.initial.text.items ++ bird_routes l.is_v4 (take l.vrp-index l.vrps)
