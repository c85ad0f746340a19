use Rattle.rpki_der.specs.TagName.{sequence}
use Rattle.rpki_der.proofs.FormatLaws.{takes-around}
use Rattle.rpki_objects.specs.SignedObject.{object_fields_of, object_fields}
use Rattle.rpki_objects.proofs.signed_object.SignedObject.take_from.Goals as goal

pub returns : goal.returns
returns g c = takes-around object_fields_of sequence (object_fields c.args.strict) _
    (λ b a x h. rw (h.shows, h.leaves) at h.met) _ _ _ c.in_sequence_with.ensures
