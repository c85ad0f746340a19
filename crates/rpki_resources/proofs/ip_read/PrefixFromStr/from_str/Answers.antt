use Rattle.std.proofs.Common.{arith, subst}
use Rattle.rpki_resources.proofs.IpReadLaws.{HasNo, last-parts, some-there, no-prefix}
use Rattle.rpki_resources.proofs.ip_read.PrefixFromStr.from_str.Goals as goal

pub returns-in-None-prefix_of : goal.returns-in-None-prefix_of
returns-in-None-prefix_of c =
    let parts = rw c.in-Some.is at (last-parts 47 c.args.s.now c.rsplit_once.result c.rsplit_once.ensures.cases
    (omega arith)) in
    no-prefix c.args.s.now c.in-Some.address.now c.in-Some.size.now parts.0 parts.1 c.in-None-prefix_of.ensures.none

pub returns-in-None : goal.returns-in-None
returns-in-None c = λ p h.
    let none = rw c.in-None.is at (last-parts 47 c.args.s.now c.rsplit_once.result c.rsplit_once.ensures.cases
    (omega arith)) in
    some-there 47 h.0 h.1 (subst (HasNo 47) h.2 none)
