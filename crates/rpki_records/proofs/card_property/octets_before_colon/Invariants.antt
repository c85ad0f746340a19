use Rattle.std.proofs.Common.{◌≡◌, ◌+◌, drop, false}
use Rattle.rpki_records.specs.Card.{octets_before_colon}
use Rattle.rpki_records.proofs.card_property.octets_before_colon.Given as goal

-- no colon so far
abbrev pub invariant-octets : goal.invariant-octets
invariant-octets l =
    octets_before_colon false l.octets ≡ l.index + octets_before_colon l.is_quoted (drop l.index l.octets)
