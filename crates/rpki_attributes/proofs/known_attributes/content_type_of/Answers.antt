use Rattle.rpki_der.specs.Prelude.{any_oid}
use Rattle.rpki_attributes.proofs.SoughtLaws.{once-one}
use Rattle.rpki_attributes.proofs.known_attributes.content_type_of.Goals as goal

pub returns-in-Some-Some : goal.returns-in-Some-Some
returns-in-Some-Some c =
    let one = rw c.in-Some-Some.field-0-is at c.in-Some-Some.ensures in
    once-one any_oid _ _ one (λ o. o.0.now) _ c.oid_in.ensures
