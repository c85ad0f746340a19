use Rattle.std.proofs.Common.{◌≡◌, length, take}
use Rattle.std.specs.List.{flat_map}
use Rattle.rpki_payloads.specs.Payloads.{PayloadParts}
use Rattle.rpki_payloads.proofs.made.vrp_count.Given as goal

abbrev pub invariant-all : goal.invariant-all
invariant-all l = l.count ≡ length (flat_map (λ (p : PayloadParts). p.vrps) (take l.one-index l.all))
