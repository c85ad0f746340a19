use Rattle.std.proofs.Common.{Ok}
use Rattle.rpki_der.specs.Format.{then, only}
use Rattle.rpki.specs.KeyFault.{shared_bits}
use Rattle.rpki_der.proofs.FormatLaws.{tried, given, first, last, after, all, and}
use Rattle.rpki.specs.AlgorithmFault.{key_format}
use Rattle.rpki.proofs.PublicKeyLaws.{key_pair, key-said}
use Rattle.rpki.proofs.crypto.keys.public_key.fn.PublicKey.take_from.in_sequence_with.Goals as goal

pub returns-in_err-algorithm : goal.returns-in_err-algorithm
returns-in_err-algorithm g c =
    key-said shared_bits _ _ _ (tried key_pair (then key_format (only shared_bits)) _ _ c.from_residual.ensures
    (first c.in_err-algorithm.ensures.reads))

pub returns-in_err-bits : goal.returns-in_err-bits
returns-in_err-bits g c =
    key-said shared_bits _ _ _ (tried key_pair (then key_format (only shared_bits)) _ _
    c.from_residual-in_err-bits.ensures
    (after c.in_ok-algorithm.ensures.reads (last c.in_err-bits.ensures)))

pub returns : goal.returns
returns g c =
    key-said shared_bits _ _ (Ok _) (given (and c.in_ok-algorithm.ensures.reads (all c.in_ok-bits.ensures)))
