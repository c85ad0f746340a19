use Rattle.rpki_der.proofs.FormatLaws.{tried, given, first, last, after, all, and}
use Rattle.rpki_fields.specs.OtherCert.{cert_fields_of, other_cert_fields}
use Rattle.rpki_fields.proofs.other_cert.fn.OtherCert.take_from.in_sequence.Goals as goal

pub returns-in_err-tbs : goal.returns-in_err-tbs
returns-in_err-tbs c = tried cert_fields_of other_cert_fields _ _ c.from_residual.ensures (first c.in_err-tbs.ensures)

pub returns-in_err-algorithm : goal.returns-in_err-algorithm
returns-in_err-algorithm c =
    tried cert_fields_of other_cert_fields _ _ c.from_residual-in_err-algorithm.ensures
    (after c.in_ok-tbs.ensures (first c.in_err-algorithm.ensures))

pub returns-in_err-signature : goal.returns-in_err-signature
returns-in_err-signature c =
    tried cert_fields_of other_cert_fields _ _ c.from_residual-in_err-signature.ensures
    (after c.in_ok-tbs.ensures (after c.in_ok-algorithm.ensures (last c.in_err-signature.ensures)))

pub returns : goal.returns
returns c = given (and c.in_ok-tbs.ensures (and c.in_ok-algorithm.ensures (all c.in_ok-signature.ensures)))
