use Rattle.rpki_der.proofs.FormatLaws.{tried, given, first, last, after, all, and}
use Rattle.rpki_objects.specs.SignedObject.{object_fields_of, object_fields}
use Rattle.rpki_objects.proofs.signed_object.fn.SignedObject.take_from.in_sequence_with.Goals as goal

pub returns-in_err-skip_oid_if : goal.returns-in_err-skip_oid_if
returns-in_err-skip_oid_if g c =
    tried object_fields_of (object_fields c.captures.strict) _ _ c.from_residual.ensures
    (first c.in_err-skip_oid_if.ensures)

pub returns-in_err-data : goal.returns-in_err-data
returns-in_err-data g c =
    tried object_fields_of (object_fields c.captures.strict) _ _ c.from_residual-in_err-data.ensures
    (after c.in_ok-skip_oid_if.ensures (last c.in_err-data.ensures))

pub returns : goal.returns
returns g c = given (and c.in_ok-skip_oid_if.ensures (all c.in_ok-data.ensures))
