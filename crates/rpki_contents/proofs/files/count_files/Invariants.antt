use Rattle.std.proofs.Common.{◌≡◌, ◌≤◌, ◌+◌, List, length}
use Rattle.rpki_contents.specs.ListedFile.{ListedFile}
use Rattle.rpki_contents.proofs.FilesLaws.{Behind}
use Rattle.rpki_contents.proofs.files.count_files.Given as goal

-- files were read, as many as were counted, and the others remain
abbrev pub invariant-files : goal.invariant-files
invariant-files l = record {
  read : (xs : List ListedFile) × Behind l.octets xs l.rest × (length xs ≡ l.count);
  few : l.count + length l.rest ≤ length l.octets;
}

abbrev pub decreases-files : goal.decreases-files
decreases-files l = length l.rest
