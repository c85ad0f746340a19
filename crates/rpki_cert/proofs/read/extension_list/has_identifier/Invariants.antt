use Rattle.std.proofs.Common.{length}
use Rattle.rpki_der.specs.Cursor.{left}
use Rattle.rpki_cert.proofs.ListedLaws.{Has}
use Rattle.rpki_cert.proofs.read.extension_list.has_identifier.Given as goal

abbrev pub invariant-extensions : goal.invariant-extensions
invariant-extensions l = Has l.id.0.now (left l.fn.list) (left l.rest)

abbrev pub decreases-extensions : goal.decreases-extensions
decreases-extensions l = length (left l.rest)
