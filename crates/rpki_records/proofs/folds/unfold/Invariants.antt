use Rattle.std.proofs.Common.{◌≡◌, ◌++◌, length}
use Rattle.rpki_records.specs.Folds.{unfolded}
use Rattle.rpki_records.proofs.folds.unfold.Given as goal

-- the text so far, and that of the rest
abbrev pub invariant-octets : goal.invariant-octets
invariant-octets l = unfolded l.octets ≡ l.text.items ++ unfolded l.rest

abbrev pub decreases-octets : goal.decreases-octets
decreases-octets l = length l.rest
