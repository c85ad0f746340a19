use Rattle.std.proofs.Common.{◌≡◌, ◌≤◌, length}
use Rattle.rpki_records.specs.Card.{after_run}
use Rattle.rpki_records.proofs.card_octets.after_run.Given as goal

-- octets of the class and folds alone so far
abbrev pub invariant-octets : goal.invariant-octets
invariant-octets l = record {
  same : after_run l.class l.octets ≡ after_run l.class l.rest;
  less : length l.rest ≤ length l.octets;
}

abbrev pub decreases-octets : goal.decreases-octets
decreases-octets l = length l.rest
