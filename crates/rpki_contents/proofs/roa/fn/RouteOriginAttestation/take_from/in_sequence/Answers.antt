use Rattle.rpki_der.proofs.FormatLaws.{tried, given, first, last, after, all, and}
use Rattle.rpki_contents.specs.Roa.{both_of, fields_of, fields}
use Rattle.rpki_contents.proofs.RoaLaws.{is-attestation}
use Rattle.rpki_contents.proofs.roa.fn.RouteOriginAttestation.take_from.in_sequence.Goals as goal

pub returns-in_err-as_id : goal.returns-in_err-as_id
returns-in_err-as_id c =
    tried fields_of (fields c.captures.strict) _ _ c.from_residual.ensures (first c.in_err-as_id.ensures)

pub returns-in_err-found : goal.returns-in_err-found
returns-in_err-found c =
    tried fields_of (fields c.captures.strict) _ _ c.from_residual-in_err-found.ensures
    (after c.in_ok-as_id.ensures (last c.in_err-found.ensures))

pub invariant_of-result : goal.invariant_of-result
invariant_of-result c =
    let a = c.in_ok-found.ensures.spells in
    is-attestation c.captures.strict c.in_ok-as_id.as_id (both_of c.in_ok-found.found) a.front a.spelled

pub returns : goal.returns
returns c = given (and c.in_ok-as_id.ensures (all c.in_ok-found.ensures))
