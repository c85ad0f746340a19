use Rattle.rpki_contents.proofs.WithinLaws.{second-decides, first-decides}
use Rattle.rpki_contents.proofs.roa.RouteOriginAttestation.is_within.Goals as goal

pub returns-then-is_v4 : goal.returns-then-is_v4
returns-then-is_v4 c =
    let v4 = rw c.v4_addrs.ensures.prefixes at c.in_ok-is_v4.ensures.answer in
    let v6 = rw c.v6_addrs.ensures.prefixes at c.in_ok-is_v6.ensures.answer in
    second-decides c.args.self.now c.args.v4.now c.args.v6.now _ _ v4 v6 c.if-is_v4.true

pub returns-else-is_v4 : goal.returns-else-is_v4
returns-else-is_v4 c =
    let v4 = rw c.v4_addrs.ensures.prefixes at c.in_ok-is_v4.ensures.answer in
    first-decides c.args.self.now c.args.v4.now c.args.v6.now _ v4 c.if-is_v4.false
