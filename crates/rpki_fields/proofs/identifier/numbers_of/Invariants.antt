use Rattle.std.proofs.Common.{◌≡◌, ◌++◌, drop}
use Rattle.std.specs.Prelude.{option_map}
use Rattle.rpki_fields.specs.IdentifierText.{numbers_from}
use Rattle.rpki_fields.proofs.identifier.numbers_of.Given as goal

-- what has been read, and what is yet to be read, are the subidentifiers
abbrev pub invariant-octets : goal.invariant-octets
invariant-octets l = option_map (λ ns. l.numbers.items ++ ns) (numbers_from l.number (drop l.octet-index l.octets))
    ≡ numbers_from 0 l.octets
