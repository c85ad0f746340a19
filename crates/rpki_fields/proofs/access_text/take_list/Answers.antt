use Rattle.std.proofs.Common.{rules, map}
use Rattle.rpki_der.specs.TagName.{sequence}
use Rattle.rpki_der.proofs.FormatLaws.{takes-around}
use Rattle.rpki_cert.specs.AccessDescription.{description_of}
use Rattle.rpki_fields.specs.AccessText.{each_description}
use Rattle.rpki_fields.proofs.access_text.take_list.Goals as goal

pub returns : goal.returns
returns c =
    takes-around (λ v. map description_of v.items) sequence each_description _ (λ b a x h. search rules) _ _ _
    c.in_sequence.ensures
