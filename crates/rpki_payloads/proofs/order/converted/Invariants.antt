use Rattle.std.proofs.Common.{◌≡◌, map, take}
use Rattle.rpki_payloads.specs.Vrp.{vrp_of}
use Rattle.rpki_payloads.proofs.order.converted.Given as goal

abbrev pub invariant-origins : goal.invariant-origins
invariant-origins l = l.vrps.items ≡ map vrp_of (take l.origin-index l.origins)
