use Rattle.rpki_der.specs.TagName.{sequence}
use Rattle.rpki_der.proofs.FormatLaws.{takes-around}
use Rattle.rpki_objects.specs.SignedObject.{object_of, data_fields_of, data_fields}
use Rattle.rpki_objects.proofs.signed_data.SignedData.take_from.Goals as goal

pub returns : goal.returns
returns g c = takes-around (λ x. data_fields_of (object_of x)) sequence (data_fields c.args.strict) _
    (λ b a x h. rw (h.shows, h.leaves) at h.met) _ _ _ c.in_sequence_with.ensures
