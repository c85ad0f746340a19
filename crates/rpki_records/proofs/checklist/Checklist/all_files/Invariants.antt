use Rattle.std.proofs.Common.{◌≡◌, map}
use Rattle.rpki_der.specs.Cursor.{left}
use Rattle.rpki_records.specs.Checklist.{file_of, given_file_at}
use Rattle.rpki_records.specs.ChecklistEntries.{entries}
use Rattle.rpki_records.proofs.FirstsLaws.{rest_after}
use Rattle.rpki_records.proofs.checklist.Checklist.all_files.Given as goal

-- the files so far, and what follows them
abbrev pub invariant-files : goal.invariant-files
invariant-files l =
    (map file_of l.files.items ≡ entries l.number l.self.files.now)
    × (left l.cursor.rest ≡ rest_after given_file_at l.number l.self.files.now)
