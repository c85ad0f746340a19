use Rattle.rpki_der.proofs.FormatLaws.{tried, given, first, last, after, all, and}
use Rattle.rpki.specs.RsaPublicKey.{numbers_of, rsa_numbers}
use Rattle.rpki.proofs.crypto.keys.rsa_public_key.fn.RsaPublicKey.take_from.in_sequence.Goals as goal

pub returns-in_err-modulus : goal.returns-in_err-modulus
returns-in_err-modulus c = tried numbers_of rsa_numbers _ _ c.from_residual.ensures (first c.in_err-modulus.ensures)

pub returns-in_err-exponent : goal.returns-in_err-exponent
returns-in_err-exponent c =
    tried numbers_of rsa_numbers _ _ c.from_residual-in_err-exponent.ensures
    (after c.in_ok-modulus.ensures (last c.in_err-exponent.ensures))

pub returns : goal.returns
returns c = given (and c.in_ok-modulus.ensures (all c.in_ok-exponent.ensures))
