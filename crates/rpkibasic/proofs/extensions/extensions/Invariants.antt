use Rattle.std.proofs.Common.{length}
use Rattle.rpki_der.specs.Cursor.{left}
use Rattle.rpki_der.specs.Sharing.{CanShare}
use Rattle.rpkibasic.proofs.ReadingLaws.{HaveRead}
use Rattle.rpkibasic.proofs.extensions.extensions.Given as goal

abbrev pub invariant-extensions : goal.invariant-extensions
invariant-extensions l = HaveRead l.fn.input.items l.all.items (left l.rest) × CanShare l.keep (left l.rest)

abbrev pub decreases-extensions : goal.decreases-extensions
decreases-extensions l = length (left l.rest)
