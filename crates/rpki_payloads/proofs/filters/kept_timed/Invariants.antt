use Rattle.std.proofs.Common.{length}
use Rattle.rpki_payloads.specs.FilterKeys.{AskFor}
use Rattle.rpki_payloads.proofs.AmongLaws.{IsKeptOf}
use Rattle.rpki_payloads.proofs.filters.kept_timed.Given as goal

abbrev pub invariant-all : goal.invariant-all
invariant-all l = IsKeptOf (λ t. AskFor l.filters t.vrp) l.all l.rest l.kept.items

abbrev pub decreases-all : goal.decreases-all
decreases-all l = length l.rest
