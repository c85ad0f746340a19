use Rattle.rpki_contents.proofs.AspaFoundLaws.{attestation_found}
use Rattle.rpki_contents.proofs.laws.attestations_in_place_are_spelled.Goals as goal

pub returns : goal.returns
returns c = λ x e. attestation_found _ (λ k. (c.type_inv.octets k).fits) x e
