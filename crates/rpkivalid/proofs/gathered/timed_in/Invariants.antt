use Rattle.std.proofs.Common.{take}
use Rattle.rpki_payloads.specs.Exceptions.{AreEach}
use Rattle.rpkivalid.specs.Ends.{IsTimed}
use Rattle.rpkivalid.proofs.gathered.timed_in.Given as goal

abbrev pub invariant-each : goal.invariant-each
invariant-each l = AreEach IsTimed (take l.origin-index l.origins) l.all.items
