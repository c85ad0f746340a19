use Rattle.std.proofs.Common.{List}
use Rattle.rpki_der.specs.Prelude.{Format, only}
use Rattle.rpki_der.proofs.FormatLaws.{tried, given, last, all}
use Rattle.rpki_resources.specs.declared.family.AddressFamily.{AddressFamily}
use Rattle.rpki_resources.specs.Address.{width}
use Rattle.rpki_contents.specs.declared.roa_address.RoaIpAddress.{RoaIpAddress}
use Rattle.rpki_contents.specs.RoaAddress.{family, addresses, family_of, family_parts}
use Rattle.rpki_resources.proofs.ThenByLaws.{first-by, after-by, and-by}
use Rattle.rpki_contents.proofs.roa_family.take_family_parts.Goals as goal

abbrev behind : AddressFamily → Format (List RoaIpAddress)
behind named = only (addresses (width named))

pub returns-in_err-family : goal.returns-in_err-family
returns-in_err-family c =
    tried family_of family_parts _ _ c.from_residual.ensures (first-by family behind c.in_err-family.ensures)

pub returns-in_err-addresses : goal.returns-in_err-addresses
returns-in_err-addresses c =
    tried family_of family_parts _ _ c.from_residual-in_err-addresses.ensures
    (after-by family behind c.in_ok-family.ensures (last c.in_err-addresses.ensures))

pub returns : goal.returns
returns c = given (and-by family behind c.in_ok-family.ensures (all c.in_ok-addresses.ensures))
