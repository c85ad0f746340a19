use Rattle.std.proofs.Common.{◌≡◌, length}
use Rattle.rpki_payloads.specs.Listed.{is_object}
use Rattle.rpki_payloads.proofs.payload_list.is_object.Given as goal

abbrev pub invariant-octets : goal.invariant-octets
invariant-octets l = is_object l.text ≡ is_object l.rest

abbrev pub decreases-octets : goal.decreases-octets
decreases-octets l = length l.rest
