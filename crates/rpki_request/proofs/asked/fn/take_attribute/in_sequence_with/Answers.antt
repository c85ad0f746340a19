use Rattle.rpki_der.proofs.FormatLaws.{tried, failed, given, first, last, after, all, and}
use Rattle.rpki_der.proofs.KeepLaws.{held-after}
use Rattle.rpki_request.specs.Request.{asked_of, attribute_parts}
use Rattle.rpki_request.proofs.asked.fn.take_attribute.in_sequence_with.Goals as goal

pub returns-in_err-skip_primitive : goal.returns-in_err-skip_primitive
returns-in_err-skip_primitive g c =
    tried (λ x. (tt, asked_of x)) attribute_parts _ _ c.from_residual.ensures (first c.in_err-skip_primitive.ensures)

pub returns-in-Err : goal.returns-in-Err
returns-in-Err g c = failed (after c.in_ok-skip_primitive.ensures (last c.in-Err.ensures))

pub returns : goal.returns
returns g c = given (and c.in_ok-skip_primitive.ensures (all c.in-Ok.ensures))

pub take_values-requires : goal.take_values-requires
take_values-requires g c =
    held-after g.K.Keep.holds g.met.K.Keep.rest_held c.args.keep c.in_ok-skip_primitive.ensures c.requires
