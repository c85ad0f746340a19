use Rattle.rpki_der.proofs.FormatLaws.{tried, failed, given, first, last, after, all, and}
use Rattle.rpki_contents.specs.ListedFile.{kept_parts}
use Rattle.rpki_contents.proofs.file_and_hash.fn.FileAndHash.take_from.in_sequence_with.Goals as goal

pub returns-in_err-file : goal.returns-in_err-file
returns-in_err-file g c = tried (λ x. x) kept_parts _ _ c.from_residual.ensures (first c.in_err-file.ensures)

pub returns-in-Err : goal.returns-in-Err
returns-in-Err g c = failed (after c.in_ok-file.ensures (last c.in-Err.ensures))

pub returns : goal.returns
returns g c = given (and c.in_ok-file.ensures (all c.in-Ok.ensures))
