use Rattle.std.proofs.Common.{◌≡◌, take}
use Rattle.std.specs.List.{flat_map}
use Rattle.rpki_payloads.proofs.order.joined.Given as goal

abbrev pub invariant-all : goal.invariant-all
invariant-all l = l.vrps.items ≡ flat_map (λ p. p.vrps) (take l.one-index l.all)
