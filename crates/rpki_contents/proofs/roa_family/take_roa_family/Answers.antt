use Rattle.std.proofs.Common.{rules}
use Rattle.rpki_der.specs.TagName.{sequence}
use Rattle.rpki_der.proofs.FormatLaws.{takes-around}
use Rattle.rpki_contents.specs.RoaAddress.{family_of, family_parts}
use Rattle.rpki_contents.proofs.roa_family.take_roa_family.Goals as goal

pub returns : goal.returns
returns c = takes-around family_of sequence family_parts _ (λ b a x h. search rules) _ _ _ c.in_sequence.ensures
