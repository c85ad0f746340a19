use Rattle.rpkivalid.proofs.ComparedLaws.{listed-at}
use Rattle.rpkivalid.proofs.compared.listed_in.Goals as goal

pub returns-in-Ok-clause-lists : goal.returns-in-Ok-clause-lists
returns-in-Ok-clause-lists g c =
    listed-at (g.S.Sources.holds c.args.sources.now) c.args.file.now c.in-Some.octets c.read_large.result _
    c.in-Ok.vrps.items c.read_large.ensures c.in_ok-octets.was c.in-Some.is
    (rw c.as_slice.ensures at c.in-Ok.ensures.ok)
