use Rattle.std.proofs.Common.{◌≡◌, true}
use Rattle.rpki_payloads.specs.FilterKeys.{HasFirst}
use Rattle.rpki_payloads.proofs.AmongLaws.{not-first}
use Rattle.rpki_payloads.proofs.filter_keys.FilterKeys.has_cover.Goals as goal

pub lengths-preserved : goal.lengths-preserved
lengths-preserved c =
    not-first c.args.self.now.lengths.items c.lengths.rest.now c.in-Some.following.now c.in-Some.len.now
    (λ n. HasFirst c.args.self.now c.args.asn c.args.prefix n) c.lengths.invariant c.in-Some.ensures.cases.0
    (λ h. let t : c.has_first.result ≡ true = c.has_first.ensures.1 h in absurd (cc c.if-has_first.false))
