use Rattle.rpki_der.proofs.FormatLaws.{tried, given, first, last, after, all, and}
use Rattle.rpki_objects.specs.SignedObject.{content_of, content_fields_of, content_fields}
use Rattle.rpki_objects.proofs.encapsulated.fn.EncapsulatedContent.take_from.in_sequence_with.Goals as goal

pub returns-in_err-content_type : goal.returns-in_err-content_type
returns-in_err-content_type g c =
    tried (λ x. content_fields_of (content_of x)) content_fields _ _ c.from_residual.ensures
    (first c.in_err-content_type.ensures)

pub returns-in_err-content : goal.returns-in_err-content
returns-in_err-content g c =
    tried (λ x. content_fields_of (content_of x)) content_fields _ _ c.from_residual-in_err-content.ensures
    (after c.in_ok-content_type.ensures (last c.in_err-content.ensures))

pub returns : goal.returns
returns g c = given (and c.in_ok-content_type.ensures (all c.in_ok-content.ensures))
