use Rattle.std.proofs.Common.{arith}
use Rattle.rpki_resources.proofs.AddressWritingLaws.{address-few}
use Rattle.rpki_resources.proofs.address.Address.encode.Goals as goal

pub returns-clause-short : goal.returns-clause-short
returns-clause-short c = c.encode.ensures.short.1 (omega (arith, address-few c.args.self c.requires.size))
