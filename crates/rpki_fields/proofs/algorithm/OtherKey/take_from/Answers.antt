use Rattle.std.proofs.Common.{rules}
use Rattle.rpki_der.specs.TagName.{sequence}
use Rattle.rpki_der.proofs.FormatLaws.{takes-around}
use Rattle.rpki_fields.specs.OtherCert.{key_of, key_fields}
use Rattle.rpki_fields.proofs.algorithm.OtherKey.take_from.Goals as goal

pub returns : goal.returns
returns c = takes-around key_of sequence key_fields _ (λ b a x h. search rules) _ _ _ c.in_sequence.ensures
