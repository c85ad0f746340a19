use Rattle.std.proofs.Common.{◌≡◌, ◌++◌, map, take}
use Rattle.rpki_payloads.specs.Vap.{pair_of}
use Rattle.rpki_payloads.proofs.vap.push_pairs.Given as goal

abbrev pub invariant-providers : goal.invariant-providers
invariant-providers l =
    l.pairs.items ≡ l.initial.pairs.items ++ map (pair_of l.customer) (take l.provider-index l.attestation.providers)
