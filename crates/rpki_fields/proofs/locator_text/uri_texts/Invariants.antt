use Rattle.std.proofs.Common.{◌≡◌, map, take}
use Rattle.rpki_locator.specs.Locator.{uri_text}
use Rattle.rpki_fields.proofs.locator_text.uri_texts.Given as goal

abbrev pub invariant-uris : goal.invariant-uris
invariant-uris l = map (λ text. text.now) l.all.items ≡ map uri_text (take l.uri-index l.uris)
