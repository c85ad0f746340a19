use Rattle.std.proofs.Common.{◌≡◌, take}
use Rattle.rpki_payloads.specs.Exceptions.{prefix_filters_of}
use Rattle.rpki_payloads.proofs.exceptions.prefix_filters_of.Given as goal

abbrev pub invariant-files : goal.invariant-files
invariant-files l = l.all.items ≡ prefix_filters_of (take l.file-index l.files)
