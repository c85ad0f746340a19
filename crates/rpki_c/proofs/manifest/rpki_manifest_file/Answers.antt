use Rattle.std.proofs.Common.{inr, refl}
use Rattle.rpki_contents.specs.ListedFile.{file}
use Rattle.rpki_contents.proofs.FilesLaws.{file-no-memory}
use Rattle.rpki_c.proofs.StatusLaws.{front-refused}
use Rattle.rpki_c.proofs.manifest.rpki_manifest_file.Goals as goal

pub returns-in-Err : goal.returns-in-Err
returns-in-Err c =
    let h = rw c.from_slice-cursor.ensures at c.in-Err.ensures in
    inr (front-refused file (file-no-memory _) h c.number.ensures, refl, refl)
