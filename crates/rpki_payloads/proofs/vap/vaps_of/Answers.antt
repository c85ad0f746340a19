use Rattle.std.proofs.Common.{arith}
use Rattle.rpki_payloads.proofs.VapLaws.{next-run, run-short}
use Rattle.rpki_payloads.proofs.vap.vaps_of.Goals as goal

pub split_at-requires : goal.split_at-requires
split_at-requires c = omega (arith, c.run_length.ensures, run-short c.in-Some.first.now.customer c.pairs.rest.now)

pub pairs-preserved : goal.pairs-preserved
pairs-preserved c =
    rw c.in_ok-push.ensures.items
    (next-run c.args.pairs.now c.pairs.all.items c.pairs.rest.now c.in-Some.field-0-1.now c.in-Some.first.now
    c.run_length.result c.split_at.result.0.now c.split_at.result.1.now c.in_ok-providers.providers.items
    c.pairs.invariant c.in-Some.ensures.cases.0 c.run_length.ensures c.split_at.ensures.front c.split_at.ensures.back
    c.in_ok-providers.ensures)
