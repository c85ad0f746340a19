use Rattle.std.proofs.Common.{rules}
use Rattle.rpki_der.proofs.FormatLaws.{takes-around-one}
use Rattle.rpki_objects.specs.SignedObject.{zero_tag, object_of, data_fields_of, signed_data}
use Rattle.rpki_objects.proofs.signed_object.take_data.Goals as goal

pub returns : goal.returns
returns g c =
    takes-around-one (λ x. data_fields_of (object_of x)) zero_tag (signed_data c.args.strict) _
    (λ b a x h. search rules) _ _ _
    (rw c.new.ensures at c.in_constructed_with.ensures)
