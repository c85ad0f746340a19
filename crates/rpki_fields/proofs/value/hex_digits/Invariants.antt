use Rattle.std.proofs.Common.{◌≡◌, take}
use Rattle.rpki_fields.specs.ValueText.{hex_digits}
use Rattle.rpki_fields.proofs.value.hex_digits.Given as goal

abbrev pub invariant-octets : goal.invariant-octets
invariant-octets l = l.text.items ≡ hex_digits (take l.octet-index l.octets)
