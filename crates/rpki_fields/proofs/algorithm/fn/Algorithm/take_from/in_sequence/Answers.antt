use Rattle.rpki_der.specs.Cursor.{left}
use Rattle.rpki_der.proofs.FormatLaws.{tried, given, first, after, and}
use Rattle.rpki_fields.specs.OtherCert.{algorithm_of, algorithm_fields, if_any, any_octets}
use Rattle.rpki_fields.specs.OtherView.{octets_if}
use Rattle.rpki_fields.proofs.OtherCertLaws.{rest-bad, rest-read}
use Rattle.rpki_fields.proofs.algorithm.fn.Algorithm.take_from.in_sequence.Goals as goal

pub returns-in_err-identifier : goal.returns-in_err-identifier
returns-in_err-identifier c =
    tried algorithm_of algorithm_fields _ _ c.from_residual.ensures (first c.in_err-identifier.ensures)

pub returns-in_err-parameters : goal.returns-in_err-parameters
returns-in_err-parameters c =
    tried algorithm_of algorithm_fields _ _ c.from_residual-in_err-parameters.ensures
    (after c.in_ok-identifier.ensures
    (rest-bad octets_if (if_any any_octets) (left c.args.contents.now) c.in_err-parameters.ensures))

pub returns : goal.returns
returns c =
    given (and c.in_ok-identifier.ensures (rest-read octets_if (if_any any_octets) c.in_ok-parameters.ensures))
