use Rattle.std.proofs.Common.{length}
use Rattle.rpki_payloads.specs.FilterKeys.{HasFirst}
use Rattle.rpki_payloads.proofs.AmongLaws.{IsLeft}
use Rattle.rpki_payloads.proofs.filter_keys.FilterKeys.has_cover.Given as goal

abbrev pub invariant-lengths : goal.invariant-lengths
invariant-lengths l = IsLeft l.self.lengths.items l.rest (λ n. HasFirst l.self l.asn l.prefix n)

abbrev pub decreases-lengths : goal.decreases-lengths
decreases-lengths l = length l.rest
