use Rattle.std.proofs.Common.{rules}
use Rattle.rpki_der.specs.TagName.{sequence}
use Rattle.rpki_der.proofs.FormatLaws.{takes-around}
use Rattle.rpki_contents.specs.ListedFile.{kept_parts}
use Rattle.rpki_contents.proofs.file_and_hash.FileAndHash.take_from.Goals as goal

pub returns : goal.returns
returns g c = takes-around (λ x. x) sequence kept_parts _ (λ b a x h. search rules) _ _ _ c.in_sequence_with.ensures
