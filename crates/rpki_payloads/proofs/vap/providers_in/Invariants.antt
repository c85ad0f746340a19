use Rattle.std.proofs.Common.{◌≡◌, map, take}
use Rattle.rpki_payloads.proofs.vap.providers_in.Given as goal

abbrev pub invariant-pairs : goal.invariant-pairs
invariant-pairs l = l.providers.items ≡ map (λ v. v.provider) (take l.pair-index l.pairs)
