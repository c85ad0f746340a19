use Rattle.std.proofs.Common.{length}
use Rattle.rpki_der.specs.Cursor.{left}
use Rattle.rpki_cert.proofs.ListedLaws.{KeepsFault}
use Rattle.rpki_cert.proofs.TableLaws.{Passing}
use Rattle.rpki_cert.proofs.extension.table.pass.Given as goal

abbrev pub invariant-extensions : goal.invariant-extensions
invariant-extensions l =
    Passing (left l.fn.list) (left l.rest) l.contents l.critical l.understood l.count l.apart
    × KeepsFault (left l.fn.list) (left l.rest)

abbrev pub decreases-extensions : goal.decreases-extensions
decreases-extensions l = length (left l.rest)
