use Rattle.std.proofs.Common.{arith}
use Rattle.rpki_der.proofs.IntegerLaws.{octets-fit}
use Rattle.rpki_text.proofs.HexLaws.{length-hex_text}
use Rattle.rpki.proofs.crypto.keys.key_identifier.hex_of.Goals as goal

pub copy_from_slice-requires : goal.copy_from_slice-requires
copy_from_slice-requires c =
    rw (c.as_bytes.ensures.value, c.encode.ensures.digits, length-hex_text) (omega (arith, c.requires))

pub returns-clause-octets : goal.returns-clause-octets
returns-clause-octets c = octets-fit c.args.identifier.now c.type_inv.identifier
