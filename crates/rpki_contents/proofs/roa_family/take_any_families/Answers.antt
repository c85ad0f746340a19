use Rattle.std.proofs.Common.{rules}
use Rattle.rpki_der.specs.TagName.{sequence}
use Rattle.rpki_der.proofs.FormatLaws.{takes-around}
use Rattle.rpki_contents.specs.Roa.{families_of, each_family}
use Rattle.rpki_contents.proofs.roa_family.take_any_families.Goals as goal

pub returns : goal.returns
returns c = takes-around families_of sequence each_family _ (λ b a x h. search rules) _ _ _ c.in_sequence.ensures
