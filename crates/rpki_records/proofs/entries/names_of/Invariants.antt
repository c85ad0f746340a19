use Rattle.std.proofs.Common.{◌≡◌, take, map}
use Rattle.std.specs.List.{flat_map}
use Rattle.rpki_records.specs.Checklist.{file_of}
use Rattle.rpki_records.specs.ChecklistEntries.{name_in}
use Rattle.rpki_records.proofs.TextsLaws.{octets_of}
use Rattle.rpki_records.proofs.entries.names_of.Given as goal

-- those of the files so far
abbrev pub invariant-files : goal.invariant-files
invariant-files l = map octets_of l.names.items ≡ flat_map name_in (map file_of (take l.file-index l.files))
