use Rattle.std.proofs.Common.{◌≡◌, take}
use Rattle.std.specs.List.{flat_map}
use Rattle.rpki_payloads.specs.Vap.{pairs_of}
use Rattle.rpkivalid.proofs.gathered.pairs_in.Given as goal

abbrev pub invariant-each : goal.invariant-each
invariant-each l = l.pairs.items ≡ flat_map (λ p. pairs_of p.value.content) (take l.attestation-index l.attestations)
