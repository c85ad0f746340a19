use Rattle.std.proofs.Common.{rules}
use Rattle.rpki_der.specs.TagName.{sequence}
use Rattle.rpki_der.proofs.FormatLaws.{takes-around}
use Rattle.rpki_cert.specs.AccessDescription.{description_of, description_parts}
use Rattle.rpki_cert.proofs.extension.access_description.AccessDescription.take_from.Goals as goal

pub returns : goal.returns
returns c = takes-around description_of sequence description_parts _ (λ b a x h. search rules) _ _ _
    c.in_sequence.ensures
