-- The trust anchor of a locator: of its URIs, in their order, that of the first from which one was fetched.
use Rattle.std.proofs.Common.{◌≡◌, ◌∙◌, inl, inr, ℕ, List, [], ◌∷◌, Option, Some, None, length, refl, sym, subst, arith}
use Rattle.std.specs.Prelude.{◌↔◌, Result, Ok, Err}
use Rattle.rpki_der.proofs.ReadingLaws.{UnlessMemory-weaker}
use Rattle.rpki_der.specs.Prelude.{SpellsNothing, UnlessMemory}
use Rattle.rpki.specs.declared.repository.error.ValidationError.{ValidationError}
use Rattle.rpki_cert.specs.declared.read.cert_error.CertError.{CertError}
use Rattle.rpki_cert.specs.Cert.{CertParts, SpellsCert}
use Rattle.rpki_cert.specs.CertFault.{IsDecodedPart}
use Rattle.rpki_locator.specs.declared.anchor_uri.AnchorUri.{AnchorUri}
use Rattle.rpki_locator.specs.Locator.{uri_text}
use Rattle.rpki_cert.proofs.KnownLaws.{unless-weaker}
use Rattle.rpki_valid.specs.declared.resource.set.ResourceSet.{ResourceSet}
use Rattle.rpki_valid.specs.ResourceSet.{HasOwnResources}
use Rattle.rpki_valid.specs.Verified.{Authority, Holder, IsRefusedRoot, IsRootWith, holder}
use Rattle.rpki_validation.specs.declared.reason.Reason.{Reason}
use Rattle.rpki_validation.specs.declared.reason.Reason.TheVariants.{MissingAnchor}
use Rattle.rpki_validation.specs.declared.stop.Stop.{Stop}
use Rattle.rpki_validation.specs.declared.stop.Stop.TheVariants.{Rejected, OutOfMemory}
use Rattle.rpki_validation.specs.Basis.{Basis, holder_of}
use Rattle.rpki_validation.specs.Finding.{Finds, IsSole, StopsAt, cert_stop_of, invalid_stop_of}
use Rattle.rpki_validation.specs.Reached.{IsAnchorAt, IsAnchorIn, IsFirstAnchor, IsNoAnchor, IsNoAnchorAt, IsNoAnchorIn}
use Rattle.rpki_validation.specs.Reached.IsFirstAnchor.{Here, Later}
use Rattle.rpki_validation.specs.Snapshot.{Published}
use Rattle.rpki_validation.proofs.FindingLaws.{stops-invalid, stops-malformed-cert}
use Rattle.rpki_validation.proofs.OneHolderLaws.{one-own-held}

-- ---- octets

module _ (basis : Basis) (octets : List ℕ) where
  abbrev Anchor : Holder → Type 0
  Anchor = IsAnchorIn basis octets

  abbrev Why : Reason → Type 0
  Why = IsNoAnchorIn basis octets

  pub anchor-malformed : (q : CertError) → UnlessMemory q.error (SpellsNothing SpellsCert octets)
      → IsDecodedPart octets q → StopsAt Anchor Why (cert_stop_of q)
  anchor-malformed q none part =
      stops-malformed-cert Anchor Why q (UnlessMemory-weaker q.error (λ no x k. no x.cert k.spells) none) part

  module _ (x : CertParts) (read : SpellsCert x octets × ((w : CertParts) → SpellsCert w octets → w ≡ x)) where
    pub anchor-refused : (e : ValidationError) → IsRefusedRoot basis.terms basis.by basis.at x e
        → StopsAt Anchor Why (invalid_stop_of e)
    anchor-refused e h =
        stops-invalid Anchor Why e
        (unless-weaker e (λ none y k. none y.resources
        (subst (λ (z : CertParts). IsRootWith basis.terms basis.by basis.at z y.resources) (read.1 y.cert k.spells)
        k.root)) h.0)
        (x, read.0, h)

    pub anchor-found : (held : ResourceSet) → IsRootWith basis.terms basis.by basis.at x held
        → IsSole Anchor (holder x held)
    anchor-found held h = record { holds = record { spells = read.0; root = h }; sole = same } where
      same : (w : Holder) → Anchor w → w ≡ holder x held
      same w k =
          let cert = read.1 w.cert k.spells in
          let own = subst (λ (z : CertParts). HasOwnResources z.tbs.extensions w.resources) cert k.root.resources in
          let resources = one-own-held x.tbs.extensions w.resources held own h.resources in
          λ i. holder (cert i) (resources i)

-- ---- a URI

module _ (published : Published) (basis : Basis) (uri : AnchorUri) where
  abbrev At : Holder → Type 0
  At = IsAnchorAt published basis uri

  same-octets : (a b : List ℕ) (o : Option (List ℕ)) → o ≡ Some a → o ≡ Some b → a ≡ b
  same-octets a b o e d = let s : ◌≡◌ {A = Option (List ℕ)} (Some a) (Some b) = sym e ∙ d in cc

  module _ (octets : List ℕ) (fetched : published.anchors (uri_text uri) ≡ Some octets) where
    in-of-at : (x : Holder) → At x → IsAnchorIn basis octets x
    in-of-at x k = subst (λ (o : List ℕ). IsAnchorIn basis o x)
        (same-octets k.octets octets (published.anchors (uri_text uri)) k.fetched fetched) k.anchor

    stop-at : (s : Stop) → StopsAt (IsAnchorIn basis octets) (IsNoAnchorIn basis octets) s
        → StopsAt At (IsNoAnchorAt published basis uri) s
    stop-at (Rejected reason) h = (λ x k. h.0 x (in-of-at x k), inr (octets, fetched, h.1))
    stop-at OutOfMemory h = tt

    pub fetched-there : {X : Type 0} (r : Result (Authority X) Stop)
        → Finds holder_of (IsAnchorIn basis octets) (IsNoAnchorIn basis octets) r
        → Finds holder_of At (IsNoAnchorAt published basis uri) r
    fetched-there (Ok a) h = record {
      holds = record { octets = octets; fetched = fetched; anchor = h.holds };
      sole = λ w k. h.sole w (in-of-at w k);
    }
    fetched-there (Err s) h = stop-at s h

  pub fetched-none : published.anchors (uri_text uri) ≡ None
      → StopsAt At (IsNoAnchorAt published basis uri) (Rejected MissingAnchor)
  fetched-none none = (
    λ x k. let e : ◌≡◌ {A = Option (List ℕ)} (Some k.octets) None = sym k.fetched ∙ none in absurd (cc),
    inl (none, refl),
  )

-- ---- URIs, in sequence

-- why there is none among all: what the last reason is where none remains, else the reason for the rest
abbrev pub IsWhyAfter : Published → Basis → List AnchorUri → List AnchorUri → Reason → Type 0
IsWhyAfter published basis uris [] last = IsNoAnchor published basis uris last
IsWhyAfter published basis uris (uri ∷ following) last =
    (reason : Reason) → IsNoAnchor published basis (uri ∷ following) reason → IsNoAnchor published basis uris reason

-- what is first among all is first among the rest; and why there is none
pub record IsAfter (published : Published) (basis : Basis) (uris rest : List AnchorUri) (last : Reason) : Type 0 where
  pub same : (x : Holder) → IsFirstAnchor published basis uris x ↔ IsFirstAnchor published basis rest x
  pub why : IsWhyAfter published basis uris rest last

module _ (published : Published) (basis : Basis) where
  abbrev First : List AnchorUri → Holder → Type 0
  First = IsFirstAnchor published basis

  why-start : (uris : List AnchorUri) → IsWhyAfter published basis uris uris MissingAnchor
  why-start [] = refl
  why-start (uri ∷ following) = λ reason h. h

  pub uris-start : (uris : List AnchorUri) → IsAfter published basis uris uris MissingAnchor
  uris-start uris = record { same = λ x. (λ h. h, λ h. h); why = why-start uris }

  module _ (uris rest : List AnchorUri) (uri : AnchorUri) (following : List AnchorUri) (last : Reason)
      (is : rest ≡ uri ∷ following) (so-far : IsAfter published basis uris rest last) where
    before : IsAfter published basis uris (uri ∷ following) last
    before = subst (λ (r : List AnchorUri). IsAfter published basis uris r last) is so-far

    pub uris-found : (x : Holder) → IsSole (IsAnchorAt published basis uri) x → IsSole (First uris) x
    uris-found x h = record {
      holds = (before.same x).1 (Here uri following x h.holds);
      sole = λ w k. first w ((before.same w).0 k);
    } where
      first : (w : Holder) → First (uri ∷ following) w → w ≡ x
      first _ (Here u us w k) = h.sole w k
      first _ (Later u us w none k) = absurd (none x h.holds)

    pub uris-step : (reason : Reason)
        → StopsAt (IsAnchorAt published basis uri) (IsNoAnchorAt published basis uri) (Rejected reason)
        → IsAfter published basis uris following reason
    uris-step reason h = record {
      same = λ x. (λ k. later x ((before.same x).0 k), λ k. (before.same x).1 (Later uri following x h.0 k));
      why = why following before.why;
    } where
      later : (x : Holder) → First (uri ∷ following) x → First following x
      later _ (Here u us x k) = absurd (h.0 x k)
      later _ (Later u us x none k) = k

      why : (us : List AnchorUri) → IsWhyAfter published basis uris (uri ∷ us) last
          → IsWhyAfter published basis uris us reason
      why [] known = known reason h.1
      why (next ∷ us) known = known

  pub uris-end : (uris rest : List AnchorUri) (last : Reason) → length rest ≡ 0 → IsAfter published basis uris rest last
      → StopsAt (First uris) (IsNoAnchor published basis uris) (Rejected last)
  uris-end uris [] last none so-far = (λ x k. nothing x ((so-far.same x).0 k), so-far.why) where
    nothing : (x : Holder) → First [] x → ⊥
    nothing x h = elim h [ ]
  uris-end uris (uri ∷ following) last none so-far = absurd (omega arith)
