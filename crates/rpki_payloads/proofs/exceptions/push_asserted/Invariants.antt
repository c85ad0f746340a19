use Rattle.std.proofs.Common.{take}
use Rattle.rpki_payloads.specs.Exceptions.{AreAdded}
use Rattle.rpki_payloads.proofs.exceptions.push_asserted.Given as goal

abbrev pub invariant-files : goal.invariant-files
invariant-files l = AreAdded (take l.file-index l.files) l.initial.all.items l.all.items
