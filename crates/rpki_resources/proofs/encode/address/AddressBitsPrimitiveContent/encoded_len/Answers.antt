use Rattle.std.proofs.Common.{arith}
use Rattle.rpki_resources.proofs.NumberOctetsLaws.{octets-length}
use Rattle.rpki_resources.proofs.encode.address.AddressBitsPrimitiveContent.encoded_len.Goals as goal

pub returns : goal.returns
returns c = rw octets-length (omega (arith, c.from.ensures, c.octet_count_of.ensures))
