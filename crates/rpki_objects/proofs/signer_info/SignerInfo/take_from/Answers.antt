use Rattle.rpki_der.specs.TagName.{sequence}
use Rattle.rpki_der.proofs.FormatLaws.{takes-around}
use Rattle.rpki_objects.specs.SignedObject.{signer_of, signer_fields_of, signer_fields}
use Rattle.rpki_objects.proofs.signer_info.SignerInfo.take_from.Goals as goal

pub returns : goal.returns
returns g c =
    takes-around (λ x. signer_fields_of (signer_of x)) sequence (signer_fields c.args.strict) _
    (λ b a x h. rw (h.shows, h.leaves) at h.met) _ _ _ c.in_sequence_with.ensures
