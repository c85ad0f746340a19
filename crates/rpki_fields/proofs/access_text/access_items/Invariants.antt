use Rattle.std.proofs.Common.{◌≡◌, take, map}
use Rattle.rpki_cert.specs.AccessDescription.{description_of}
use Rattle.rpki_fields.specs.AccessText.{access_item}
use Rattle.rpki_fields.proofs.access_text.access_items.Given as goal

abbrev pub invariant-descriptions : goal.invariant-descriptions
invariant-descriptions l = l.items.items ≡ map access_item (map description_of (take l.description-index l.all))
