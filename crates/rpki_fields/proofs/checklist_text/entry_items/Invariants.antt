use Rattle.std.proofs.Common.{◌≡◌, map, take}
use Rattle.rpki_records.specs.Checklist.{file_of}
use Rattle.rpki_fields.specs.RecordText.{entry_item}
use Rattle.rpki_fields.proofs.checklist_text.entry_items.Given as goal

abbrev pub invariant-files : goal.invariant-files
invariant-files l = l.items.items ≡ map entry_item (map file_of (take l.file-index l.files))
