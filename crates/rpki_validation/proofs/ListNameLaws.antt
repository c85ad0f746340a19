-- The certificate of a manifest names the list that is on the manifest, or not.
use Rattle.std.proofs.Common.{◌≡◌, ◌∙◌, ℕ, Bool, true, List, Option, Some, None, ap, sym}
use Rattle.std.specs.Prelude.{◌↔◌, IsTrue}
use Rattle.rpki_text.specs.RsyncText.{uri_of}
use Rattle.rpki_validation.specs.Met.{IsPlace}
use Rattle.rpki_validation.specs.Point.{IsListUri, NamesItsList, NamesList}
use Rattle.rpki_validation.specs.Publication.{PublicationParts}
use Rattle.rpki_validation.proofs.NamedLaws.{some-is}

module _ (p : PublicationParts) where
  module _ (place : Option (List ℕ)) (at : IsPlace (IsListUri p) place) where
    pub unlisted-names : place ≡ None → NamesItsList p → ⊥
    unlisted-names e h = none-some h.uri (sym e ∙ (at h.uri).0 h.list) where
      none-some : (uri : List ℕ) → None ≡ Some uri → ⊥
      none-some uri k = cc

    module _ (named : Option (List ℕ)) (is : IsPlace (NamesList p.manifest.object.cert.tbs) named) where
      pub names-none : named ≡ None → NamesItsList p → ⊥
      names-none e h = none-some h.other (sym e ∙ (is h.other).0 h.names) where
        none-some : (uri : List ℕ) → None ≡ Some uri → ⊥
        none-some uri k = cc

      pub names-at : (uri other : List ℕ) → place ≡ Some uri → named ≡ Some other → (b : Bool)
          → (b ≡ true → uri_of other ≡ uri_of uri) → (uri_of other ≡ uri_of uri → b ≡ true)
          → IsTrue b ↔ NamesItsList p
      names-at uri other l n b to from = (
        λ e. record { uri = uri; list = (at uri).1 l; other = other; names = (is other).1 n; same = to e },
        λ h. from (ap uri_of (some-is named other h.other n ((is h.other).0 h.names)) ∙ h.same
            ∙ ap uri_of (some-is place h.uri uri ((at h.uri).0 h.list) l)),
      )
