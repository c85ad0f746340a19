use Rattle.std.proofs.Common.{take}
use Rattle.rpki_contents.proofs.NamesLaws.{AreNamesOf}
use Rattle.rpki_contents.proofs.names.are_distinct.Given as goal

-- the names so far
abbrev pub invariant-files : goal.invariant-files
invariant-files l = AreNamesOf l.names.items (take l.file-index l.files)
