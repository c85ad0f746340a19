use Rattle.std.proofs.Common.{◌≡◌, take}
use Rattle.rpkibasic.specs.Run.{written_extensions}
use Rattle.rpkibasic.proofs.extensions.written.Given as goal

abbrev pub invariant-extensions : goal.invariant-extensions
invariant-extensions l = l.text.items ≡ written_extensions (take l.extension-index l.extensions)
