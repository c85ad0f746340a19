-- Steps of validation: what they find, and why they stop, by what the layer below says.
use Rattle.std.proofs.Common.{◌≡◌, ◌<◌, inl, inr, ℕ, List, Some, subst}
use Rattle.jiff.specs.Types.{DateTime}
use Rattle.rpki_der.proofs.ReadingLaws.{UnlessMemory-weaker}
use Rattle.rpki_der.specs.declared.error.DecodeError.{DecodeError}
use Rattle.rpki_der.specs.Prelude.{Format, IsWholeFault, SpellsNothing, UnlessMemory}
use Rattle.rpki.specs.declared.repository.error.ValidationError.{ValidationError}
use Rattle.rpki_time.specs.Validity.{HoldsAt}
use Rattle.rpki_cert.specs.declared.profile.Profile.{Profile}
use Rattle.rpki_cert.specs.declared.profile.Profile.TheVariants.{Ca, Ee}
use Rattle.rpki_cert.specs.Cert.{CertParts}
use Rattle.rpki_cert.specs.Known.{UnlessNoMemory}
use Rattle.rpki_cert.proofs.KnownLaws.{unless-from, unless-weaker}
use Rattle.rpki_crl.specs.Crl.{CrlParts}
use Rattle.rpki_objects.specs.SignedObject.{ObjectParts}
use Rattle.rpki_objects.specs.TypedObject.{TypedParts}
use Rattle.rpki_valid.specs.declared.resource.set.ResourceSet.{ResourceSet}
use Rattle.rpki_valid.specs.ObjectVerified.{IsValidObject, IsInvalidObject}
use Rattle.rpki_valid.specs.declared.staleness.Staleness.TheVariants.{Refused}
use Rattle.rpki_valid.specs.CrlIssued.{IsIssuedBy, IsNotIssued, IsRefusedList}
use Rattle.rpki_valid.specs.Processed.{IsProcessed, IsUnprocessed, KeepsManifestRules, BreaksManifestRules}
use Rattle.rpki_valid.specs.Valid.{HasReason}
use Rattle.rpki_valid.specs.Verified.{Verified, IsOffPath, IsRefusedAuthority, IsRefusedLink, IsUnverified}
use Rattle.rpki_valid.specs.Verified.{IsVerifiedBy}
use Rattle.rpki_valid.specs.Verified.{holder}
use Rattle.rpki_validation.specs.declared.reason.Reason.{Reason}
use Rattle.rpki_validation.specs.declared.reason.Reason.TheVariants as reason
use Rattle.rpki_validation.specs.declared.stop.Stop.TheVariants.{Rejected}
use Rattle.rpki_validation.specs.Basis.{Basis}
use Rattle.rpki_validation.specs.Finding.{IsSole, IsNone, StopsAt, IsCertReason, stop_of, invalid_stop_of}
use Rattle.rpki_validation.specs.Issued.{IsObjectIn, IsNoAuthorityIn, IsNoObjectIn, IsIssuedCert}
use Rattle.rpki_validation.proofs.FindingLaws.{stops-invalid, stops-malformed}
use Rattle.rpki_validation.specs.Point.{HoldsAtMoment, HoldsManifest, IsNoMoment, NamesItsList, other_list_text}
use Rattle.rpki_validation.specs.Publication.{PublicationParts}
use Rattle.rpki_validation.proofs.IssuedLaws.{manifest-broken, one-cert, one-object, unprocessed-none}
use Rattle.rpki_validation.proofs.MomentLaws.{basis_under, now, moment-holds, cert-now, cert-then, list-now, list-then}
use Rattle.rpki_validation.proofs.MomentLaws.{object-now, object-then}

module _ (v : Verified) (at : DateTime) (period : HoldsAt v.period at) (list : CrlParts)
  where
    abbrev Basis' : Basis
    Basis' = basis_under v at

    -- ---- the errors, at the moment

    off-now : (x : CertParts) (e : ValidationError) → IsOffPath (Some list) v at x e
        → IsOffPath (Some list) (now v at) at x e
    off-now x e (inl h) = absurd (h.0 period)
    off-now x e (inr h) = inr (moment-holds v at, h.1)

    unverified-now : (profile : Profile) (x : CertParts) (e : ValidationError)
        → IsUnverified profile (Some list) v at x e
        → IsUnverified profile (Some list) (now v at) at x e
    unverified-now profile x e (inl h) = inl h
    unverified-now profile x e (inr h) = inr (h.0, off-now x e h.1)

    invalid-now : (x : ObjectParts) (e : ValidationError) → IsInvalidObject (Some list) v at x e
        → IsInvalidObject (Some list) (now v at) at x e
    invalid-now x e (inl h) = inl h
    invalid-now x e (inr h) = inr (h.0, unverified-now Ee x.cert e h.1)

    abbrev Valid : ObjectParts → ResourceSet → Type 0
    Valid x = IsValidObject (Some list) v at x

    abbrev ValidNow : ObjectParts → ResourceSet → Type 0
    ValidNow x = IsValidObject (Some list) (now v at) at x

    abbrev InvalidNow : ObjectParts → ValidationError → Type 0
    InvalidNow x = IsInvalidObject (Some list) (now v at) at x

    abbrev Invalid : ObjectParts → ValidationError → Type 0
    Invalid x = IsInvalidObject (Some list) v at x

    pub unprocessed-now : (x : ObjectParts) (Wrong : ResourceSet → ValidationError → Type 0) (e : ValidationError)
        → IsUnprocessed (Valid x) (Invalid x) Wrong e → IsUnprocessed (ValidNow x) (InvalidNow x) Wrong e
    unprocessed-now x Wrong e (inl h) =
        inl (
          unless-weaker e
              (λ none held k. none held (object-then v at period (Some list) x held k)) h.0,
          invalid-now x e h.1,
        )
    unprocessed-now x Wrong e (inr (held, valid, wrong)) =
        inr (held, object-now v at (Some list) x held valid, wrong)

    pub processed-now : (x : ObjectParts) (Rules : ResourceSet → Type 0) (held : ResourceSet)
        → IsProcessed (Valid x) Rules held → IsProcessed (ValidNow x) Rules held
    processed-now x Rules held h =
        record { object = object-now v at (Some list) x held h.object; rules = h.rules }

    -- ---- signed objects

    module _ {C : Type 0} (F : Format (TypedParts C)) (Rules : TypedParts C → ResourceSet → Type 0)
        (Wrong : TypedParts C → ResourceSet → ValidationError → Type 0)
        (broken : (x : TypedParts C) (held : ResourceSet) (e : ValidationError) → Wrong x held e
        → UnlessNoMemory e (Rules x held → ⊥))
        (octets : List ℕ) where
      abbrev Sought : TypedParts C → Type 0
      Sought = IsObjectIn F Rules Basis' (holder v.cert v.resources) list octets

      abbrev Why : Reason → Type 0
      Why = IsNoObjectIn F Wrong Basis' (holder v.cert v.resources) list octets

      pub object-malformed : (e : DecodeError)
          → UnlessMemory e (SpellsNothing F.spells octets) × IsWholeFault F.spells F.fault octets e
          → StopsAt Sought Why (stop_of e)
      object-malformed e h = stops-malformed Sought Why e (UnlessMemory-weaker e (λ none x k. none x k.spells) h.0) h.1

      module _ (x : TypedParts C) (read : F.spells x octets × ((w : TypedParts C) → F.spells w octets → w ≡ x)) where
        pub object-found : (held : ResourceSet) → IsProcessed (Valid x.object) (Rules x) held → IsSole Sought x
        object-found held h = record {
          holds = record { spells = read.0; held = held; valid = processed-now x.object (Rules x) held h };
          sole = λ w k. read.1 w k.spells;
        }

        none-valid : (e : ValidationError) → IsUnprocessed (ValidNow x.object) (InvalidNow x.object) (Wrong x) e
            → UnlessNoMemory e (IsNone Sought)
        none-valid e h =
            unless-weaker e (λ none y k. none k.held
            (subst (λ (z : TypedParts C). IsProcessed (ValidNow z.object) (Rules z) k.held) (read.1 y k.spells)
            k.valid))
            (unprocessed-none (ValidNow x.object) (Rules x) (InvalidNow x.object) (Wrong x)
            (one-object (Some list) (now v at) at x.object) (broken x) e h)

        pub object-invalid : (e : ValidationError) → IsUnprocessed (Valid x.object) (Invalid x.object) (Wrong x) e
            → StopsAt Sought Why (invalid_stop_of e)
        object-invalid e h =
            let k = unprocessed-now x.object (Wrong x) e h in
            stops-invalid Sought Why e (none-valid e k) (x, read.0, k)

    -- ---- certificates

    module _ (x : CertParts) where
      abbrev Issued : Profile → ResourceSet → Type 0
      Issued profile = IsIssuedCert profile Basis' (holder v.cert v.resources) list x

      pub cert-found : (profile : Profile) (held : ResourceSet) → IsVerifiedBy profile (Some list) v at x held
          → IsSole (Issued profile) held
      cert-found profile held h = record {
        holds = cert-now v at profile (Some list) x held h;
        sole = λ other k. one-cert profile (Some list) (now v at) at x other held k
            (cert-now v at profile (Some list) x held h);
      }

      none-issued : (profile : Profile) (e : ValidationError) → IsRefusedLink profile (Some list) v at x e
          → UnlessNoMemory e (IsNone (Issued profile))
      none-issued profile e h =
          unless-weaker e (λ none held k. none held (cert-then v at period profile (Some list) x held k)) h.0

      link-now : (profile : Profile) (e : ValidationError) → IsRefusedLink profile (Some list) v at x e
          → IsRefusedLink profile (Some list) (now v at) at x e
      link-now profile e h = (none-issued profile e h, unverified-now profile x e h.1)

      pub cert-refused : (profile : Profile) (e : ValidationError) → IsRefusedLink profile (Some list) v at x e
          → StopsAt (Issued profile) (IsCertReason (λ q. ⊥) (IsRefusedLink profile (Some list) (now v at) at x))
          (invalid_stop_of e)
      cert-refused profile e h = stops-invalid (Issued profile) _ e (none-issued profile e h) (link-now profile e h)

      -- an authority, which is no deeper than its path may be
      abbrev Below : ResourceSet → Type 0
      Below r = (v.depth < v.terms.deepest) × Issued Ca r

      none-below : (e : ValidationError) → IsRefusedAuthority (Some list) v at x e → UnlessNoMemory e (IsNone Below)
      none-below e (inl h) = unless-from e (λ held k. h.0 k.0)
      none-below e (inr h) = unless-weaker e (λ none held k. none held k.1) (none-issued Ca e h.1)

      abbrev NoAuthority : ValidationError → Type 0
      NoAuthority = IsNoAuthorityIn v.depth Basis' (holder v.cert v.resources) list x

      authority-now : (e : ValidationError) → IsRefusedAuthority (Some list) v at x e → NoAuthority e
      authority-now e (inl h) = inl h
      authority-now e (inr h) = inr (h.0, link-now Ca e h.1)

      pub authority-refused : (e : ValidationError) → IsRefusedAuthority (Some list) v at x e
          → StopsAt Below (IsCertReason (λ q. ⊥) NoAuthority) (invalid_stop_of e)
      authority-refused e h = stops-invalid Below _ e (none-below e h) (authority-now e h)

-- ---- the list and the manifest of a publication

module _ (v : Verified) (at : DateTime) (period : HoldsAt v.period at) (p : PublicationParts)
  where
    abbrev Holds : Type 0
    Holds = HoldsAtMoment (basis_under v at) (holder v.cert v.resources) p

    abbrev Both : Unit {0} → Type 0
    Both u = Holds

    abbrev WhyNot : Reason → Type 0
    WhyNot = IsNoMoment (basis_under v at) (holder v.cert v.resources) p

    not-issued-now : (e : ValidationError) → IsNotIssued v at p.list e → IsNotIssued (now v at) at p.list e
    not-issued-now e (inl h) = absurd (h.0 period)
    not-issued-now e (inr h) = inr (moment-holds v at, h.1)

    pub list-refused : (e : ValidationError) → IsRefusedList Refused v at p.list e
        → StopsAt Both WhyNot (invalid_stop_of e)
    list-refused e h =
        stops-invalid Both WhyNot e (unless-from e (λ u k. h.0 (list-then v at period Refused p.list k.list)))
        (inl (λ k. h.0 (list-then v at period Refused p.list k), not-issued-now e h.1))

    abbrev Manifest : ResourceSet → Type 0
    Manifest = IsValidObject (Some p.list) v at p.manifest.object

    abbrev NoManifest : ValidationError → Type 0
    NoManifest = IsInvalidObject (Some p.list) v at p.manifest.object

    pub manifest-refused : IsIssuedBy Refused v at p.list → (e : ValidationError)
        → IsUnprocessed Manifest NoManifest (λ r. BreaksManifestRules at p.manifest) e
        → StopsAt Both WhyNot (invalid_stop_of e)
    manifest-refused issued e h =
        let n = now v at in
        let k =
        unprocessed-now v at period p.list p.manifest.object (λ r. BreaksManifestRules at p.manifest) e h in
        stops-invalid Both WhyNot e
        (unless-weaker e (λ none u j. none j.held j.manifest)
        (unprocessed-none (IsValidObject (Some p.list) n at p.manifest.object)
        (λ r. KeepsManifestRules at p.manifest) (IsInvalidObject (Some p.list) n at p.manifest.object)
        (λ r. BreaksManifestRules at p.manifest) (one-object (Some p.list) n at p.manifest.object)
        (λ r d. manifest-broken at p.manifest d) e k))
        (inr (list-now v at Refused p.list issued, inl k))

    abbrev Processed : ResourceSet → Type 0
    Processed = IsProcessed Manifest (λ r. KeepsManifestRules at p.manifest)

    held-now : (held : ResourceSet) → Processed held
        → HoldsManifest (basis_under v at) (holder v.cert v.resources) p held
    held-now = processed-now v at period p.list p.manifest.object (λ r. KeepsManifestRules at p.manifest)

    pub other-list : IsIssuedBy Refused v at p.list → (held : ResourceSet) → Processed held → (NamesItsList p → ⊥)
        → (e : ValidationError) → HasReason other_list_text e → StopsAt Both WhyNot (Rejected (reason.Invalid e))
    other-list issued held h none e text =
        (λ u k. none k.named, inr (list-now v at Refused p.list issued, inr ((held, held-now held h), none, text)))

    pub publication-holds : IsIssuedBy Refused v at p.list → (held : ResourceSet) → Processed held → NamesItsList p
        → Holds
    publication-holds issued held h named = record {
      list = list-now v at Refused p.list issued;
      held = held;
      manifest = held-now held h;
      named = named;
    }
