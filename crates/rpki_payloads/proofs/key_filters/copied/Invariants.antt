use Rattle.std.proofs.Common.{◌≡◌, ◌++◌, length}
use Rattle.rpki_payloads.proofs.key_filters.copied.Given as goal

abbrev pub invariant-each : goal.invariant-each
invariant-each l = l.keys ≡ l.copies.items ++ l.rest

abbrev pub decreases-each : goal.decreases-each
decreases-each l = length l.rest
