use Rattle.std.proofs.Common.{rules}
use Rattle.rpki_der.specs.TagName.{sequence}
use Rattle.rpki_der.proofs.FormatLaws.{takes-around}
use Rattle.rpki_contents.specs.ListedFile.{file_parts}
use Rattle.rpki_contents.specs.ManifestView.{file_in}
use Rattle.rpki_contents.proofs.file_view.FileView.take_from.Goals as goal

pub returns : goal.returns
returns c = takes-around file_in sequence file_parts _ (λ b a x h. search rules) _ _ _ c.in_sequence.ensures
