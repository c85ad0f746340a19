use Rattle.std.proofs.Common.{rules}
use Rattle.rpki_der.proofs.InsideLaws.{read-whole}
use Rattle.rpki_objects.specs.SignedObject.{object_fields_of, signed_object}
use Rattle.rpki_objects.proofs.signed_object.SignedObject.decode.Goals as goal

pub returns : goal.returns
returns c =
    let format = signed_object c.args.strict in
    read-whole object_fields_of format.spells format.fault _ (λ b a x h. search rules) _ _
    (rw c.new.ensures at c.whole_with.ensures)
