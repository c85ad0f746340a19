use Rattle.std.proofs.Common.{◌≡◌, ℕ, List, ◌++◌, length}
use Rattle.rpki_der.specs.Cursor.{left}
use Rattle.rpki_der.specs.Headed.{AreHeaded}
use Rattle.rpki_der.proofs.nested.tile.Given as goal

abbrev pub invariant-values : goal.invariant-values
invariant-values l = (front : List ℕ) × (left l.fn.contents ≡ front ++ left l.rest) × AreHeaded front

abbrev pub decreases-values : goal.decreases-values
decreases-values l = length (left l.rest)
