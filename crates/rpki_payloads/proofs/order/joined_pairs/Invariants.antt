use Rattle.std.proofs.Common.{◌≡◌, take}
use Rattle.std.specs.List.{flat_map}
use Rattle.rpki_payloads.proofs.order.joined_pairs.Given as goal

abbrev pub invariant-all : goal.invariant-all
invariant-all l = l.pairs.items ≡ flat_map (λ p. p.pairs) (take l.one-index l.all)
