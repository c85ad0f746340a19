use Rattle.std.proofs.Common.{rules}
use Rattle.rpki_der.specs.TagName.{sequence}
use Rattle.rpki_der.proofs.FormatLaws.{takes-around}
use Rattle.rpki.specs.RsaPublicKey.{numbers_of, rsa_numbers}
use Rattle.rpki.proofs.crypto.keys.rsa_public_key.RsaPublicKey.take_from.Goals as goal

pub returns : goal.returns
returns c = takes-around numbers_of sequence rsa_numbers _ (λ b a x h. search rules) _ _ _ c.in_sequence.ensures
