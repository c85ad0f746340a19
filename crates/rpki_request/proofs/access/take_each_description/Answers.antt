use Rattle.std.proofs.Common.{rules}
use Rattle.rpki_der.specs.TagName.{sequence}
use Rattle.rpki_der.proofs.FormatLaws.{takes-each-around}
use Rattle.rpki_cert.specs.AccessDescription.{description_of, description_parts}
use Rattle.rpki_request.proofs.access.take_each_description.Goals as goal

pub returns : goal.returns
returns c =
    takes-each-around description_of sequence description_parts _ (λ b a x h. search rules) (λ v. v.items) _ _ _
    c.take_each.ensures
