use Rattle.std.proofs.Common.{◌≡◌, length}
use Rattle.rpki_c.specs.Settling.{are_as_untold}
use Rattle.rpki_c.proofs.held.are_as_untold.Given as goal

-- those that were seen say nothing of an issuer
abbrev pub invariant-each : goal.invariant-each
invariant-each l = are_as_untold l.entries ≡ are_as_untold l.rest

abbrev pub decreases-each : goal.decreases-each
decreases-each l = length l.rest
