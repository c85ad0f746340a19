use Rattle.std.proofs.Common.{◌++◌, take, ap, ◌∙◌}
use Rattle.std.specs.Char.{to_ascii_lowercase}
use Rattle.std.proofs.lemmas.List.{map-append}
use Rattle.rpki_text.specs.UriText.{lowercase}
use Rattle.rpki_text.specs.HttpsText.{https_authority}
use Rattle.rpki_text.proofs.HttpsPartLaws.{https-halves}
use Rattle.rpki_text.proofs.uri.https.Https.site.Goals as goal

pub split_at-requires : goal.split_at-requires
split_at-requires c = let h = https-halves _ _ c.self.invariant in rw c.as_slice.ensures h.fits

pub returns : goal.returns
returns c =
    let h = https-halves _ _ c.self.invariant in
    rw (c.split_at.ensures.front, c.as_slice.ensures, ← c.self.view_is)
    (ap lowercase h.front ∙ map-append to_ascii_lowercase (take 8 c.self.inside.bytes)
    (https_authority c.self.inside.bytes) ∙ ap (λ s. s ++ lowercase (https_authority c.self.inside.bytes))
    h.form.scheme)
