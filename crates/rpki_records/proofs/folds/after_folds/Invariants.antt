use Rattle.std.proofs.Common.{◌≡◌, ◌≤◌, length}
use Rattle.rpki_records.specs.Folds.{after_folds}
use Rattle.rpki_records.proofs.folds.after_folds.Given as goal

-- folds alone so far
abbrev pub invariant-octets : goal.invariant-octets
invariant-octets l = record {
  same : after_folds l.octets ≡ after_folds l.rest;
  less : length l.rest ≤ length l.octets;
}

abbrev pub decreases-octets : goal.decreases-octets
decreases-octets l = length l.rest
