use Rattle.std.proofs.Common.{◌≡◌, map, take}
use Rattle.rpki_fields.proofs.card_text.octets_of.Given as goal

abbrev pub invariant-texts : goal.invariant-texts
invariant-texts l = map (λ octets. octets.now) l.all.items ≡ map (λ text. text.items) (take l.text-index l.texts)
