use Rattle.std.proofs.Common.{length}
use Rattle.rpki_payloads.specs.FilterKeys.{AskFor}
use Rattle.rpki_payloads.proofs.AmongLaws.{IsKeptOf}
use Rattle.rpki_payloads.proofs.filters.kept.Given as goal

abbrev pub invariant-vrps : goal.invariant-vrps
invariant-vrps l = IsKeptOf (AskFor l.filters) l.vrps l.rest l.kept.items

abbrev pub decreases-vrps : goal.decreases-vrps
decreases-vrps l = length l.rest
