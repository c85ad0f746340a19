use Rattle.rpki_der.proofs.FormatLaws.{tried, given, first, last, after, all, and}
use Rattle.rpki_fields.specs.OtherCert.{key_of, key_fields}
use Rattle.rpki_fields.proofs.algorithm.fn.OtherKey.take_from.in_sequence.Goals as goal

pub returns-in_err-algorithm : goal.returns-in_err-algorithm
returns-in_err-algorithm c = tried key_of key_fields _ _ c.from_residual.ensures (first c.in_err-algorithm.ensures)

pub returns-in_err-bits : goal.returns-in_err-bits
returns-in_err-bits c =
    tried key_of key_fields _ _ c.from_residual-in_err-bits.ensures
    (after c.in_ok-algorithm.ensures (last c.in_err-bits.ensures))

pub returns : goal.returns
returns c = given (and c.in_ok-algorithm.ensures (all c.in_ok-bits.ensures))
