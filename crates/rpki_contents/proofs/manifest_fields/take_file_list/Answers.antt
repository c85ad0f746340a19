use Rattle.std.proofs.Common.{rules}
use Rattle.rpki_der.specs.TagName.{sequence}
use Rattle.rpki_der.proofs.FormatLaws.{takes-around}
use Rattle.rpki_contents.specs.Manifest.{each_file}
use Rattle.rpki_contents.proofs.manifest_fields.take_file_list.Goals as goal

pub returns : goal.returns
returns g c =
    takes-around (λ v. v.items) sequence each_file _ (λ b a x h. search rules) _ _ _ c.in_sequence_with.ensures
