use Rattle.std.proofs.Common.{length}
use Rattle.std.specs.List.{Contains}
use Rattle.rpki_payloads.proofs.ConflictLaws.{IsSought}
use Rattle.rpki_payloads.proofs.conflict.in_both.Given as goal

abbrev pub invariant-numbers : goal.invariant-numbers
invariant-numbers l = IsSought (Contains l.others) l.numbers l.rest

abbrev pub decreases-numbers : goal.decreases-numbers
decreases-numbers l = length l.rest
