use Rattle.rpki_contents.proofs.RoaFoundLaws.{origin_found}
use Rattle.rpki_contents.proofs.laws.route_origins_in_place_are_spelled.Goals as goal

pub returns : goal.returns
returns c = λ strict x e. origin_found strict _ (λ k. (c.type_inv.octets k).fits) x e
