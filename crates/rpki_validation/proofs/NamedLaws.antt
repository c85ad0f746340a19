-- Whether an authority is named: by the one manifest of its certificate, and by the one certificate at a URI.
use Rattle.std.proofs.Common.{◌≡◌, ◌∙◌, ℕ, Bool, true, false, List, Option, Some, None, Result, Ok, Err, ap, subst}
use Rattle.std.proofs.Common.{sym}
use Rattle.std.specs.Prelude.{◌↔◌, IfOk, IsTrue}
use Rattle.rpki_cert.specs.Cert.{CertParts, SpellsCert, TbsParts}
use Rattle.rpki_contents.specs.Manifest.{ManifestParts}
use Rattle.rpki_objects.specs.TypedObject.{TypedParts, manifest_object}
use Rattle.rpki_text.specs.RsyncText.{uri_of}
use Rattle.rpki_validation.specs.declared.reason.Reason.{Reason}
use Rattle.rpki_validation.specs.declared.stop.Stop.{Stop}
use Rattle.rpki_validation.specs.Finding.{IsNone, IsSole, StopsAt}
use Rattle.rpki_validation.specs.Met.{IsPlace}
use Rattle.rpki_validation.specs.Named.{FollowsPlace, IsCertAt, IsManifestOf, IsNamedByManifest, NamesIssuer}
use Rattle.rpki_validation.specs.Named.{Stands}
use Rattle.rpki_validation.specs.Publication.{HasManifest, ValueAt}
use Rattle.rpki_validation.specs.Snapshot.{Published}
use Rattle.rpki_validation.proofs.FindingLaws.{stops-later}
use Rattle.rpki_validation.proofs.PlaceLaws.{place-none}

-- ---- answers

-- the answer is no where it isn't so
pub not-so : (A : Type 0) → (A → ⊥) → IsTrue false ↔ A
not-so A none = (λ e. let c : ◌≡◌ {A = Bool} false true = e in absurd (cc), λ a. absurd (none a))

pub ok-map : {R E : Type 0} (A B : R → Type 0) (r : Result R E) → ((x : R) → A x → B x) → IfOk r A → IfOk r B
ok-map A B (Ok x) f h = f x h
ok-map A B (Err e) f h = tt

pub some-is : {V : Type 0} (o : Option V) (a b : V) → o ≡ Some a → o ≡ Some b → a ≡ b
some-is {V} o a b e d = let s : ◌≡◌ {A = Option V} (Some a) (Some b) = sym e ∙ d in cc

none-some : {V : Type 0} (o : Option V) (a : V) → o ≡ None → o ≡ Some a → ⊥
none-some {V} o a e d = let s : ◌≡◌ {A = Option V} None (Some a) = sym e ∙ d in absurd (cc)

-- ---- the manifest

module _ (published : Published) (strict : Bool) (t : TbsParts) where
  abbrev Manifest' : Type 0
  Manifest' = TypedParts ManifestParts

  -- the certificate says no place
  pub no-place : (K : Reason → Type 0) (s : Stop) → StopsAt (HasManifest t) K s
      → StopsAt (IsManifestOf published strict t) (λ reason. Unit {0}) s
  no-place K s h =
      stops-later (IsManifestOf published strict t) (λ reason. Unit {0}) (HasManifest t) K s h
      (λ none m k. none k.place k.manifest_place) (λ reason k. tt)

  module _ (place : List ℕ) (sole : IsSole (HasManifest t) place) where
    abbrev There : Manifest' → Type 0
    There = ValueAt published (manifest_object strict) (uri_of place)

    there-of : (m : Manifest') → IsManifestOf published strict t m → There m
    there-of m k =
        subst (λ (p : List ℕ). ValueAt published (manifest_object strict) (uri_of p) m) (sole.sole k.place
        k.manifest_place)
        k.there

    -- none is there
    pub no-manifest : (K : Reason → Type 0) (s : Stop) → StopsAt There K s
        → StopsAt (IsManifestOf published strict t) (λ reason. Unit {0}) s
    no-manifest K s h =
        stops-later (IsManifestOf published strict t) (λ reason. Unit {0}) There K s h
        (λ none m k. none m (there-of m k)) (λ reason k. tt)

    pub the-manifest : (m : Manifest') → IsSole There m → IsSole (IsManifestOf published strict t) m
    the-manifest m h = record {
      holds = record { place = place; manifest_place = sole.holds; there = h.holds };
      sole = λ n k. h.sole n (there-of n k);
    }

  manifest-of : (uri : List ℕ) (k : IsNamedByManifest published strict t uri)
      → IsManifestOf published strict t k.manifest
  manifest-of uri k = record { place = k.place; manifest_place = k.manifest_place; there = k.there }

  -- what it names is what its one manifest names
  pub named-by : (m : Manifest') → IsSole (IsManifestOf published strict t) m → (place : Option (List ℕ))
      → IsPlace (NamesIssuer m.object.cert.tbs) place → IsPlace (IsNamedByManifest published strict t) place
  named-by m sole place h uri = (
    λ k. (h uri).0 (subst (λ (n : Manifest'). NamesIssuer n.object.cert.tbs uri)
        (sole.sole k.manifest (manifest-of uri k)) k.names),
    λ e. record {
      place = sole.holds.place;
      manifest_place = sole.holds.manifest_place;
      manifest = m;
      there = sole.holds.there;
      names = (h uri).1 e;
    },
  )

  pub named-by-none : IsNone (IsManifestOf published strict t) → IsPlace (IsNamedByManifest published strict t) None
  named-by-none none =
      place-none (IsNamedByManifest published strict t) (λ uri k. none k.manifest (manifest-of uri k))

-- ---- the certificate at a URI

module _ (published : Published) (x : CertParts) (uri : List ℕ) (found : Option (List ℕ))
    (there : found ≡ published.objects (uri_of uri)) where
  pub none-at : found ≡ None → IsCertAt published x uri → ⊥
  none-at e h = none-some (published.objects (uri_of uri)) h.octets (sym there ∙ e) h.stands

  module _ (octets : List ℕ) (is : found ≡ Some octets) where
    same-octets : (h : IsCertAt published x uri) → h.octets ≡ octets
    same-octets h = some-is (published.objects (uri_of uri)) h.octets octets h.stands (sym there ∙ is)

    spelled : (h : IsCertAt published x uri) → SpellsCert h.cert octets
    spelled h = subst (λ (o : List ℕ). SpellsCert h.cert o) (same-octets h) h.spells

    pub other-at : IsNone (λ (c : CertParts). SpellsCert c octets) → IsCertAt published x uri → ⊥
    other-at none h = none h.cert (spelled h)

    pub cert-at : (c : CertParts) → IsSole (λ (d : CertParts). SpellsCert d octets) c → (b : Bool)
        → (b ≡ true → c.signed.signed ≡ x.signed.signed) → (c.signed.signed ≡ x.signed.signed → b ≡ true)
        → IsTrue b ↔ IsCertAt published x uri
    cert-at c sole b to from = (
      λ e. record {
        octets = octets;
        stands = sym there ∙ is;
        cert = c;
        spells = sole.holds;
        same = to e;
      },
      λ h. from (ap (λ (d : CertParts). d.signed.signed) (sym (sole.sole h.cert (spelled h))) ∙ h.same),
    )

-- ---- whether it is where its manifest says

module _ (published : Published) (strict : Bool) (x : CertParts) (place : Option (List ℕ))
    (is : IsPlace (IsNamedByManifest published strict x.tbs) place) where
  pub stands-none : place ≡ None → Stands published strict x → ⊥
  stands-none e h = none-some place h.uri e ((is h.uri).0 h.named)

  pub stands-at : (uri : List ℕ) → place ≡ Some uri → (b : Bool) → IsTrue b ↔ IsCertAt published x uri
      → IsTrue b ↔ Stands published strict x
  stands-at uri e b h = (
    λ t. record { uri = uri; named = (is uri).1 e; cert = h.0 t },
    λ s. h.1 (subst (λ (u : List ℕ). IsCertAt published x u)
        (some-is place s.uri uri ((is s.uri).0 s.named) e) s.cert),
  )

-- ---- whether it follows

module _ (place : Option (List ℕ)) (t : TbsParts) (named : Option (List ℕ)) (is : IsPlace (NamesIssuer t) named) where
  pub follows-none : named ≡ None → FollowsPlace place t → ⊥
  follows-none e h = none-some named h.other e ((is h.other).0 h.names)

  pub follows-at : (uri other : List ℕ) → place ≡ Some uri → named ≡ Some other → (b : Bool)
      → (b ≡ true → uri_of other ≡ uri_of uri) → (uri_of other ≡ uri_of uri → b ≡ true)
      → IsTrue b ↔ FollowsPlace place t
  follows-at uri other p n b to from = (
    λ e. record { uri = uri; place_is = p; other = other; names = (is other).1 n; same = to e },
    λ h. from (ap uri_of (some-is named other h.other n ((is h.other).0 h.names)) ∙ h.same
        ∙ ap uri_of (some-is place h.uri uri h.place_is p)),
  )

pub follows-no : (t : TbsParts) → FollowsPlace None t → ⊥
follows-no t h = let e : ◌≡◌ {A = Option (List ℕ)} None (Some h.uri) = h.place_is in absurd (cc)
