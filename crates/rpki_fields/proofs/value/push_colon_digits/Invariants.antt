use Rattle.std.proofs.Common.{◌≡◌, ◌∷◌, ◌++◌, take}
use Rattle.std.specs.List.{flat_map}
use Rattle.rpki_fields.specs.ValueText.{hex_pair}
use Rattle.rpki_fields.proofs.value.push_colon_digits.Given as goal

abbrev pub invariant-octets : goal.invariant-octets
invariant-octets l = l.text.items ≡ l.initial.text.items
    ++ flat_map (λ each. 58 ∷ hex_pair each) (take l.octet-index l.octets)
