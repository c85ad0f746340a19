use Rattle.std.proofs.Common.{◌≡◌, take}
use Rattle.std.specs.List.{flat_map}
use Rattle.rpki_fields.specs.AccessText.{uri_octet}
use Rattle.rpki_fields.proofs.access_text.uri_text.Given as goal

abbrev pub invariant-octets : goal.invariant-octets
invariant-octets l = l.text.items ≡ flat_map uri_octet (take l.octet-index l.octets)
