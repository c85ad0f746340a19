use Rattle.std.proofs.Common.{◌≡◌, drop}
use Rattle.rpki_cert.specs.Known.{are_understood}
use Rattle.rpki_cert.proofs.extension.source.are_understood.Given as goal

abbrev pub invariant-extensions : goal.invariant-extensions
invariant-extensions l = are_understood l.all ≡ are_understood (drop l.extension-index l.all)
