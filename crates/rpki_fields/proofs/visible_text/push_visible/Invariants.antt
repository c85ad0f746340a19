use Rattle.std.proofs.Common.{◌≡◌, ◌++◌, take}
use Rattle.rpki_fields.specs.RecordText.{visible}
use Rattle.rpki_fields.proofs.visible_text.push_visible.Given as goal

abbrev pub invariant-octets : goal.invariant-octets
invariant-octets l = l.text.items ≡ l.initial.text.items ++ visible (take l.octet-index l.octets)
