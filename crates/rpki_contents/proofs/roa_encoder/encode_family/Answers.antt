use Rattle.std.proofs.lemmas.Bool.{iff_false}
use Rattle.rpki_resources.specs.Address.{width}
use Rattle.rpki_resources.proofs.AddressLaws.{width-most}
use Rattle.rpki_contents.proofs.RoaWritingLaws.{family-none, family-some, none-short, some-short, in-widest, family-few}
use Rattle.rpki_contents.proofs.roa_encoder.encode_family.Goals as goal

pub returns-then-are_none-clause-octets : goal.returns-then-are_none-clause-octets
returns-then-are_none-clause-octets c =
    family-none c.args.family c.args.addresses.now (c.are_none.ensures.0 c.if-are_none.true)

pub returns-then-are_none-clause-short : goal.returns-then-are_none-clause-short
returns-then-are_none-clause-short c =
    none-short c.args.family c.args.addresses.now (c.are_none.ensures.0 c.if-are_none.true)

pub encode_prefixes-requires : goal.encode_prefixes-requires
encode_prefixes-requires c =
    in-widest (width c.args.family) c.args.addresses.now (width-most c.args.family) c.requires

pub returns-clause-octets : goal.returns-clause-octets
returns-clause-octets c =
    let some = iff_false c.are_none.ensures c.if-are_none.false in
    rw
    (c.new.ensures, c.encode.ensures.encoded, c.name_of.ensures, c.new-listed.ensures, c.encode_prefixes.ensures.octets)
    (family-some c.args.family c.args.addresses.now some)

pub returns-clause-short : goal.returns-clause-short
returns-clause-short c =
    let xs = c.args.addresses.now in
    let some = iff_false c.are_none.ensures c.if-are_none.false in
    let widest = in-widest (width c.args.family) xs (width-most c.args.family) c.requires in
    let name = c.encode.ensures.short.1 (rw c.name_of.ensures (family-few c.args.family)) in
    rw
    (c.new.ensures, c.encode.ensures.encoded, c.name_of.ensures, c.new-listed.ensures, c.encode_prefixes.ensures.octets)
    (some-short c.args.family xs widest some name)
