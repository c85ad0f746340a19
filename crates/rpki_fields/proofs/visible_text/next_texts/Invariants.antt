use Rattle.std.proofs.Common.{◌≡◌, map, take}
use Rattle.std.specs.List.{flat_map}
use Rattle.rpki_fields.specs.RecordText.{next_text}
use Rattle.rpki_fields.proofs.visible_text.next_texts.Given as goal

abbrev pub invariant-all : goal.invariant-all
invariant-all l = l.text.items ≡ flat_map next_text (map (λ each. each.now) (take l.each-index l.all))
