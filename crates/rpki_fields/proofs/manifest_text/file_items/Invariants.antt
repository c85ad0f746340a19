use Rattle.std.proofs.Common.{◌≡◌, take, map}
use Rattle.rpki_fields.specs.ContentText.{file_item}
use Rattle.rpki_fields.proofs.manifest_text.file_items.Given as goal

abbrev pub invariant-files : goal.invariant-files
invariant-files l = l.items.items ≡ map file_item (take l.file-index l.files)
