use Rattle.std.proofs.Common.{rules}
use Rattle.rpki_der.specs.TagName.{sequence}
use Rattle.rpki_der.proofs.FormatLaws.{takes-around}
use Rattle.rpki_objects.specs.SignedObject.{content_of, content_fields_of, content_fields}
use Rattle.rpki_objects.proofs.encapsulated.EncapsulatedContent.take_from.Goals as goal

pub returns : goal.returns
returns g c = takes-around (λ x. content_fields_of (content_of x)) sequence content_fields _ (λ b a x h. search rules) _
    _ _ c.in_sequence_with.ensures
