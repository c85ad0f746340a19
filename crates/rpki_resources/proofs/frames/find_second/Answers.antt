use Rattle.rpki_der.specs.Cursor.{left}
use Rattle.rpki_resources.specs.declared.family.AddressFamily.TheVariants.{Ipv6}
use Rattle.rpki_resources.proofs.UnreadLaws.{second-v6, second-v4, no-second-named}
use Rattle.rpki_resources.proofs.frames.find_second.Goals as goal

pub returns-in-Ipv6-clause-some : goal.returns-in-Ipv6-clause-some
returns-in-Ipv6-clause-some c = second-v6 (left c.args.octets) (left c.in-Some.contents) c.in-Some.ensures.some
    c.in-Some-find_named.family c.in-Some-find_named.choice c.in-Some-find_named.ensures.some c.in-Ipv6.is

pub returns-in-Ipv4-clause-none : goal.returns-in-Ipv4-clause-none
returns-in-Ipv4-clause-none c = second-v4 (left c.args.octets) (left c.in-Some.contents) c.in-Some.ensures.some
    c.in-Some-find_named.family c.in-Some-find_named.choice c.in-Some-find_named.ensures.some c.in-Ipv4.is

pub returns-in-None-clause-none : goal.returns-in-None-clause-none
returns-in-None-clause-none c = no-second-named (left c.args.octets) (left c.in-Some.contents) c.in-Some.ensures.some
    c.in-None.ensures.none Ipv6
