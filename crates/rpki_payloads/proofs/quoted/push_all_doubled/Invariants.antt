use Rattle.std.proofs.Common.{◌≡◌, ◌++◌, take}
use Rattle.std.specs.List.{flat_map}
use Rattle.rpki_payloads.specs.Quoted.{doubled}
use Rattle.rpki_payloads.proofs.quoted.push_all_doubled.Given as goal

abbrev pub invariant-octets : goal.invariant-octets
invariant-octets l = l.text.items ≡ l.initial.text.items ++ flat_map doubled (take l.octet-index l.field)
