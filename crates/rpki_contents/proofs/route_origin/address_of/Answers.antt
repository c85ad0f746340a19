use Rattle.rpki_resources.specs.declared.family.AddressFamily.TheVariants.{Ipv4, Ipv6}
use Rattle.rpki_contents.proofs.OriginLaws.{v4-of, v6-of, of-family}
use Rattle.rpki_contents.proofs.route_origin.address_of.Goals as goal

pub returns-in-Ipv4 : goal.returns-in-Ipv4
returns-in-Ipv4 c =
    of-family c.args.family Ipv4 c.args.number _ c.in-Ipv4.is
    (v4-of c.from_bits.result c.args.number c.from_bits.ensures)

pub returns-in-Ipv6 : goal.returns-in-Ipv6
returns-in-Ipv6 c =
    of-family c.args.family Ipv6 c.args.number _ c.in-Ipv6.is
    (v6-of c.from_bits-in-Ipv6.result c.args.number c.from_bits-in-Ipv6.ensures)
