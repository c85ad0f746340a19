use Rattle.rpki_contents.proofs.RoaWritingLaws.{families-short}
use Rattle.rpki_contents.proofs.roa.RouteOriginAttestation.encode_families.Goals as goal

pub returns-clause-short : goal.returns-clause-short
returns-clause-short c =
    let one = c.encode_family-v4.ensures in
    let two = c.encode_family-v6.ensures in
    let v4 = rw c.v4_addrs.ensures.prefixes at one.short in
    let v6 = rw c.v6_addrs.ensures.prefixes at two.short in
    rw (c.new.ensures, one.octets, two.octets, c.v4_addrs.ensures.prefixes, c.v6_addrs.ensures.prefixes)
    (families-short c.args.self.now v4 v6)
