use Rattle.rpki_der.proofs.HeaderWritingLaws.{identifier-few}
use Rattle.rpki_der.proofs.encode.header.HeaderOctets.of_header.Goals as goal

pub push_length-requires : goal.push_length-requires
push_length-requires c =
    let few = (identifier-few c.args.tag c.args.constructed).few in
    rw (c.push_identifier.ensures, c.new-octets.ensures) few
