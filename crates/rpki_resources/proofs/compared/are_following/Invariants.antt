use Rattle.std.proofs.Common.{◌↔◌, length}
use Rattle.rpki_der.specs.Cursor.{left}
use Rattle.rpki_resources.proofs.ComparedLaws.{Followings}
use Rattle.rpki_resources.proofs.compared.are_following.Given as goal

-- all are blocks where the rest are
abbrev pub invariant-each : goal.invariant-each
invariant-each l = Followings l.kind l.last (left l.octets) ↔ Followings l.kind l.high (left l.rest)

abbrev pub decreases-each : goal.decreases-each
decreases-each l = length (left l.rest)
