use Rattle.std.proofs.Common.{◌≡◌, map, take}
use Rattle.rpki_fields.proofs.anchor_keys_text.uri_texts.Given as goal

abbrev pub invariant-uris : goal.invariant-uris
invariant-uris l = map (λ text. text.now) l.all.items ≡ take l.uri-index l.uris
