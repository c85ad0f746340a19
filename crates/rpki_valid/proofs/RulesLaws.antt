-- The rules of objects of one type: all but the last hold, and so the last decides.
use Rattle.std.proofs.Common.{◌≡◌, List, Result, Ok, Err, inl, inr, refl, subst}
use Rattle.std.specs.Prelude.{◌⊎◌, None}
use Rattle.jiff.specs.Types.{DateTime}
use Rattle.rpki.specs.declared.repository.error.ValidationError.{ValidationError}
use Rattle.rpki_resources.specs.Blocks.{IsAmong}
use Rattle.rpki_contents.specs.Aspa.{AspaParts}
use Rattle.rpki_contents.specs.Manifest.{ManifestParts}
use Rattle.rpki_contents.specs.Roa.{AttestationParts}
use Rattle.rpki_contents.specs.Within.{AreWithin}
use Rattle.rpki.specs.ExtensionValue.{ExtensionParts}
use Rattle.rpki_valid.specs.declared.resource.set.ResourceSet.{ResourceSet}
use Rattle.rpki_cert.specs.ResourceExtensions.{AreWellFormed, AreOwn}
use Rattle.rpki_valid.specs.ResourceSet.{HasOwnResources, IsOut}
use Rattle.rpki_cert.specs.RuleError.{ChecksBy}
use Rattle.rpki_valid.specs.Valid.{HasReason}
use Rattle.rpki_objects.specs.TypedObject.{TypedParts}
use Rattle.rpki_valid.specs.ObjectResources.{AreInherited, HasAddresses, HasNumbers, HasNoAddresses, HasNoNumbers}
use Rattle.rpki_valid.specs.ObjectResources.{AreOwnAddresses, AreOwnNumbers}
use Rattle.rpki_valid.specs.Processed.{ChecksRules, IsManifestOut, IsManifestCurrent, IsOriginOutside}
use Rattle.rpki_valid.specs.Processed.{KeepsManifestRules, BreaksManifestRules, KeepsOriginRules, BreaksOriginRules}
use Rattle.rpki_valid.specs.Processed.{KeepsAspaRules, BreaksAspaRules, ChecksOwnRules, KeepsOwnOriginRules}
use Rattle.rpki_valid.specs.Processed.{IsOwnOriginError, KeepsOwnAspaRules, IsOwnAspaError}
use Rattle.rpki_valid.specs.ErrorTexts.{stale_manifest_text, customer_outside_text}

module _ (at : DateTime) (x : TypedParts ManifestParts) (inherited : AreInherited x.object.cert.tbs.extensions)
    (out : IsManifestOut at x.content) where
  pub manifest-rules : (r : Result (Unit {0}) ValidationError)
      → ChecksBy (IsManifestCurrent at x.content) (HasReason stale_manifest_text) r
      → ChecksRules (KeepsManifestRules at x) (BreaksManifestRules at x) r
  manifest-rules (Ok u) h = record { inherited = inherited; out = out; current = h }
  manifest-rules (Err e) h = inr (inherited, inr (out, h))

module _ (x : TypedParts AttestationParts) (held : ResourceSet) (addresses : HasAddresses x.object.cert.tbs.extensions)
    (own : AreOwnAddresses x.object.cert.tbs.extensions) (numbers : HasNoNumbers x.object.cert.tbs.extensions) where
  pub origin-rules : (r : Result (Unit {0}) ValidationError)
      → ChecksRules (AreWithin x.content held.ipv4 held.ipv6) (IsOriginOutside x held) r
      → ChecksRules (KeepsOriginRules x held) (BreaksOriginRules x held) r
  origin-rules (Ok u) h =
      record { addresses = addresses; own = own; numbers = numbers; within = h }
  origin-rules (Err e) h = inr (addresses, inr (own, inr (numbers, h)))

module _ (x : TypedParts AspaParts) (held : ResourceSet) (numbers : HasNumbers x.object.cert.tbs.extensions)
    (own : AreOwnNumbers x.object.cert.tbs.extensions) (addresses : HasNoAddresses x.object.cert.tbs.extensions) where
  pub aspa-rules : (r : Result (Unit {0}) ValidationError)
      → ChecksBy (IsAmong x.content.customer held.asn) (HasReason customer_outside_text) r
      → ChecksRules (KeepsAspaRules x held) (BreaksAspaRules x held) r
  aspa-rules (Ok u) h =
      record { numbers = numbers; own = own; addresses = addresses; within = h }
  aspa-rules (Err e) h = inr (numbers, inr (own, inr (addresses, h)))

-- ---- by the certificate alone

-- no addresses, or no numbers, are in canonical form, and nobody's
pub no-numbers : (xs : List ExtensionParts) → AreOwnAddresses xs → HasNoNumbers xs → AreWellFormed xs × AreOwn xs
no-numbers xs own none = (
  record { addresses = (own.0, own.1); numbers = (None, none) },
  record { addresses = own; numbers = (None, none, refl) },
)

pub no-addresses : (xs : List ExtensionParts) → AreOwnNumbers xs → HasNoAddresses xs → AreWellFormed xs × AreOwn xs
no-addresses xs own none = (
  record { addresses = (None, none); numbers = (own.0, own.1) },
  record { addresses = (None, none, refl); numbers = own },
)

module _ (x : TypedParts AttestationParts) (held : ResourceSet)
    (has : HasOwnResources x.object.cert.tbs.extensions held)
    (only : (w : ResourceSet) → HasOwnResources x.object.cert.tbs.extensions w → w ≡ held)
    (addresses : HasAddresses x.object.cert.tbs.extensions)
    (own : AreOwnAddresses x.object.cert.tbs.extensions) (numbers : HasNoNumbers x.object.cert.tbs.extensions) where
  outside : (e : ValidationError) → IsOriginOutside x held e
      → IsOut e ⊎ ((KeepsOwnOriginRules x → ⊥) × IsOwnOriginError x e)
  outside e (inl out) = inl out
  outside e (inr broken) = inr (
    λ k. broken.0 (subst (λ (w : ResourceSet). AreWithin x.content w.ipv4 w.ipv6) (only k.0 k.1) k.2.within),
    inr (addresses, inr (own, inr (numbers, broken.1))),
  )

  pub own-origin-rules : (r : Result (Unit {0}) ValidationError)
      → ChecksRules (AreWithin x.content held.ipv4 held.ipv6) (IsOriginOutside x held) r
      → ChecksOwnRules (KeepsOwnOriginRules x) (IsOwnOriginError x) r
  own-origin-rules (Ok u) h = (
    held,
    has,
    record { addresses = addresses; own = own; numbers = numbers; within = h },
  )
  own-origin-rules (Err e) h = outside e h

module _ (x : TypedParts AspaParts) (held : ResourceSet) (has : HasOwnResources x.object.cert.tbs.extensions held)
    (only : (w : ResourceSet) → HasOwnResources x.object.cert.tbs.extensions w → w ≡ held)
    (numbers : HasNumbers x.object.cert.tbs.extensions) (own : AreOwnNumbers x.object.cert.tbs.extensions)
    (addresses : HasNoAddresses x.object.cert.tbs.extensions) where
  pub own-aspa-rules : (r : Result (Unit {0}) ValidationError)
      → ChecksBy (IsAmong x.content.customer held.asn) (HasReason customer_outside_text) r
      → ChecksOwnRules (KeepsOwnAspaRules x) (IsOwnAspaError x) r
  own-aspa-rules (Ok u) h = (
    held,
    has,
    record { numbers = numbers; own = own; addresses = addresses; within = h },
  )
  own-aspa-rules (Err e) h = inr (
    λ k. h.0 (subst (λ (w : ResourceSet). IsAmong x.content.customer w.asn) (only k.0 k.1) k.2.within),
    inr (numbers, inr (own, inr (addresses, h.1))),
  )
