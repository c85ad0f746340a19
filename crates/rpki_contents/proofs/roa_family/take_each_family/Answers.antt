use Rattle.std.proofs.Common.{rules}
use Rattle.rpki_der.specs.TagName.{sequence}
use Rattle.rpki_der.proofs.FormatLaws.{takes-each-around}
use Rattle.rpki_contents.specs.RoaAddress.{family_of, family_parts}
use Rattle.rpki_contents.proofs.roa_family.take_each_family.Goals as goal

pub returns : goal.returns
returns c =
    takes-each-around family_of sequence family_parts _ (λ b a x h. search rules) (λ v. v.items) _ _ _
    c.take_each.ensures
