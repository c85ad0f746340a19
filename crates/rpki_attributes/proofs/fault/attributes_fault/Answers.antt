use Rattle.std.proofs.Common.{refl}
use Rattle.rpki_attributes.proofs.AttributesFaultLaws.{tag-fault, member-fault, others-fault}
use Rattle.rpki_attributes.proofs.fault.attributes_fault.Goals as goal

pub returns-in-Err : goal.returns-in-Err
returns-in-Err c = tag-fault c.args.strict _ _ _ (rw c.new.ensures at c.in-Err.ensures)

pub returns-in-Some : goal.returns-in-Some
returns-in-Some c =
    let a = rw c.new.ensures at c.in-Ok.ensures in
    member-fault c.args.strict _ _ _ a _ c.in-Some.ensures.nothing c.in-Some.ensures.some

pub returns-in-None : goal.returns-in-None
returns-in-None c =
    let a = rw c.new.ensures at c.in-Ok.ensures in
    others-fault c.args.strict _ _ _ a c.requires c.in-None.ensures.none _
    (rw c.content.ensures (λ z. absurd (cc))) (rw c.content.ensures refl)
