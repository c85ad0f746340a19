use Rattle.std.proofs.Common.{◌≡◌, take}
use Rattle.rpki_validation.specs.Holding.{values}
use Rattle.rpkivalid.proofs.gathered.origins_in.Given as goal

abbrev pub invariant-each : goal.invariant-each
invariant-each l = l.all.items ≡ values (take l.origin-index l.origins)
