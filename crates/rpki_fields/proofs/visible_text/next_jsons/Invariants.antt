use Rattle.std.proofs.Common.{◌≡◌, map, take}
use Rattle.std.specs.List.{flat_map}
use Rattle.rpki_fields.specs.RecordText.{next_json}
use Rattle.rpki_fields.proofs.visible_text.next_jsons.Given as goal

abbrev pub invariant-all : goal.invariant-all
invariant-all l = l.text.items ≡ flat_map next_json (map (λ each. each.now) (take l.each-index l.all))
