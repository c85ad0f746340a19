use Rattle.rpki_contents.specs.ManifestView.{file_in}
use Rattle.rpki_contents.proofs.FilesLaws.{no-file}
use Rattle.rpki_contents.proofs.files.after_any_file.Goals as goal

pub returns-in-Ok-clause-ok : goal.returns-in-Ok-clause-ok
returns-in-Ok-clause-ok c =
    let h = rw c.from_slice-rest.ensures at c.in-Ok.ensures in rw c.rest.ensures (file_in c.in-Ok.field-0, h)

pub returns-in-Err-clause-err : goal.returns-in-Err-clause-err
returns-in-Err-clause-err c =
    let h = rw c.from_slice-rest.ensures at c.in-Err.ensures in (no-file _ _ c.in-Err.e h, h.kind)
