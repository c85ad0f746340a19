-- The authorities that a walk from the trust anchor of a locator reaches (RFC 8630 3, RFC 6487 7.2).
use Rattle.std.specs.Prelude.{◌≡◌, ◌⊎◌, ℕ, List, [], ◌∷◌, Some, None, codes}
use Rattle.rpki_locator.specs.declared.anchor_uri.AnchorUri.{AnchorUri}
use Rattle.rpki_locator.specs.Locator.{uri_text}
use Rattle.rpki_cert.specs.CertFault.{IsDecodedPart}
use Rattle.rpki_cert.specs.declared.profile.Profile.TheVariants.{Ca}
use Rattle.rpki_cert.specs.Cert.{CertParts, SpellsCert}
use Rattle.rpki_valid.specs.Verified.{Holder, IsRefusedRoot, IsRoot}
use Rattle.rpki_validation.specs.declared.reason.Reason.{Reason}
use Rattle.rpki_validation.specs.declared.reason.Reason.TheVariants.{MissingAnchor}
use Rattle.rpki_validation.specs.Basis.{Basis}
use Rattle.rpki_validation.specs.Finding.{IsCertReason}
use Rattle.rpki_validation.specs.Issued.{IsCertIn}
use Rattle.rpki_validation.specs.Levels.{Reached}
use Rattle.rpki_validation.specs.Point.{IsFile, IsPoint}
use Rattle.rpki_validation.specs.Publication.{PublicationParts}
use Rattle.rpki_validation.specs.Snapshot.{Published}

-- ---- the trust anchor

-- octets that are a trust anchor, with the key of the locator (RFC 8630 3)
pub record IsAnchorIn (basis : Basis) (octets : List ℕ) (x : Holder) : Type 0 where
  pub spells : SpellsCert x.cert octets
  pub root : IsRoot basis.terms basis.by basis.at x

-- octets that aren't one: no certificate, with the error of that; or one that is no such trust anchor
abbrev pub IsNoAnchorIn : Basis → List ℕ → Reason → Type 0
IsNoAnchorIn basis octets =
    IsCertReason (IsDecodedPart octets)
    (λ e. (x : CertParts) × SpellsCert x octets × IsRefusedRoot basis.terms basis.by basis.at x e)

-- a trust anchor was fetched from this URI of the locator
pub record IsAnchorAt (published : Published) (basis : Basis) (uri : AnchorUri) (x : Holder) : Type 0 where
  pub octets : List ℕ
  pub fetched : published.anchors (uri_text uri) ≡ Some octets
  pub anchor : IsAnchorIn basis octets x

-- nothing was fetched from it; or octets that aren't one
abbrev pub IsNoAnchorAt : Published → Basis → AnchorUri → Reason → Type 0
IsNoAnchorAt published basis uri reason =
    ((published.anchors (uri_text uri) ≡ None) × (reason ≡ MissingAnchor))
    ⊎ ((octets : List ℕ) × (published.anchors (uri_text uri) ≡ Some octets) × IsNoAnchorIn basis octets reason)

-- of the URIs of the locator, in their order, the trust anchor of the first from which one was fetched
pub data IsFirstAnchor (published : Published) (basis : Basis) : List AnchorUri → Holder → Type 0 where
  Here : (uri : AnchorUri) (uris : List AnchorUri) (x : Holder) → IsAnchorAt published basis uri x
      → IsFirstAnchor published basis (uri ∷ uris) x
  Later : (uri : AnchorUri) (uris : List AnchorUri) (x : Holder) → ((y : Holder) → IsAnchorAt published basis uri y → ⊥)
      → IsFirstAnchor published basis uris x → IsFirstAnchor published basis (uri ∷ uris) x

-- why there is none: the reason of the last of them; or there are no URIs
abbrev pub IsNoAnchor : Published → Basis → List AnchorUri → Reason → Type 0
IsNoAnchor published basis [] reason = reason ≡ MissingAnchor
IsNoAnchor published basis (uri ∷ []) reason = IsNoAnchorAt published basis uri reason
IsNoAnchor published basis (uri ∷ next ∷ uris) reason = IsNoAnchor published basis (next ∷ uris) reason

-- ---- authorities below it

-- The one authority has a point, of which a file is the certificate of the other, which it has issued, and which is not
-- on its list (RFC 6487 7.2). Which list a certificate names isn't asked: that of the point is.
pub record IsBelow (published : Published) (basis : Basis) (issuer x : Holder) : Type 0 where
  pub point : PublicationParts
  pub published_there : IsPoint published basis issuer point
  pub octets : List ℕ
  pub file : IsFile published basis point (codes ".cer") octets
  pub cert : IsCertIn Ca basis issuer point.list octets x

-- so many steps lead down from the trust anchor of the locator with these URIs
abbrev pub IsReached : Published → Basis → List AnchorUri → ℕ → Holder → Type 0
IsReached published basis uris = Reached (IsFirstAnchor published basis uris) (IsBelow published basis)
