use Rattle.std.proofs.Common.{rules}
use Rattle.rpki_der.specs.Cursor.{left}
use Rattle.rpki_der.specs.TagName.{sequence}
use Rattle.rpki_der.proofs.FormatLaws.{takes-around-one}
use Rattle.rpki_cert.specs.AccessDescription.{full_name}
use Rattle.rpki_cert.proofs.extension.access_description.take_point.Goals as goal

pub returns : goal.returns
returns c = takes-around-one left sequence full_name _ (λ b a x h. search rules) _ _ _ c.in_sequence.ensures
