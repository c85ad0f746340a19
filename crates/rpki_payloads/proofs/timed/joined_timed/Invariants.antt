use Rattle.std.proofs.Common.{◌≡◌, take}
use Rattle.std.specs.List.{flat_map}
use Rattle.rpki_payloads.proofs.timed.joined_timed.Given as goal

abbrev pub invariant-all : goal.invariant-all
invariant-all l = l.timed.items ≡ flat_map (λ p. p.timed) (take l.one-index l.all)
