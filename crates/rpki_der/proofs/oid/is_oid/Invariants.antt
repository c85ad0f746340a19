use Rattle.std.proofs.Common.{◌≡◌}
use Rattle.rpki_der.proofs.OidLaws.{begins_at, IsFine}
use Rattle.rpki_der.proofs.oid.is_oid.Given as goal

abbrev pub invariant-loop-octet : goal.invariant-loop-octet
invariant-loop-octet l = record {
  start : l.at_start ≡ begins_at l.contents l.octet-index;
  fine : IsFine l.contents l.octet-index;
}
