use Rattle.rpki_der.proofs.WritingLaws.{writes_of_cut}
use Rattle.rpki_resources.proofs.NumberOctetsLaws.{last-octets}
use Rattle.rpki_resources.proofs.encode.number.write_octets.Goals as goal

pub returns : goal.returns
returns g c =
    let whole = last-octets c.args.count c.args.number c.to_be_bytes-octets.result c.requires
    c.to_be_bytes-octets.ensures in
    let wrote = rw (c.from.ensures, whole) at c.write_whole.ensures in
    writes_of_cut _ _ _ _ wrote
