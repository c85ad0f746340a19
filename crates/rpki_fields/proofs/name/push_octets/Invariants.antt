use Rattle.std.proofs.Common.{◌≡◌, ◌++◌, take}
use Rattle.std.specs.List.{flat_map}
use Rattle.rpki_fields.specs.NameText.{octet_text}
use Rattle.rpki_fields.proofs.name.push_octets.Given as goal

abbrev pub invariant-octets : goal.invariant-octets
invariant-octets l = l.text.items ≡ l.initial.text.items ++ flat_map (octet_text l.edge) (take l.octet-index l.octets)
