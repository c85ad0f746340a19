use Rattle.std.proofs.Common.{length}
use Rattle.rpki_payloads.specs.Shared.{HasAddress}
use Rattle.rpki_payloads.proofs.ConflictLaws.{IsSought}
use Rattle.rpki_payloads.proofs.shared.with_address.Given as goal

abbrev pub invariant-prefixes : goal.invariant-prefixes
invariant-prefixes l = IsSought (λ p. HasAddress l.width p l.number) l.prefixes l.rest

abbrev pub decreases-prefixes : goal.decreases-prefixes
decreases-prefixes l = length l.rest
