-- What an authority has issued, with the resources that it has, is one thing; and where it isn't valid, nothing of it
-- is.
use Rattle.std.proofs.Common.{◌≡◌, inl, inr, Option, subst}
use Rattle.jiff.specs.Types.{DateTime}
use Rattle.rpki.specs.declared.repository.error.ValidationError.{ValidationError}
use Rattle.rpki_cert.specs.declared.profile.Profile.{Profile}
use Rattle.rpki_cert.specs.declared.profile.Profile.TheVariants.{Ee}
use Rattle.rpki_cert.specs.Cert.{CertParts}
use Rattle.rpki_cert.specs.Known.{UnlessNoMemory}
use Rattle.rpki_contents.specs.Aspa.{AspaParts}
use Rattle.rpki_contents.specs.Manifest.{ManifestParts}
use Rattle.rpki_contents.specs.Roa.{AttestationParts}
use Rattle.rpki_crl.specs.Crl.{CrlParts}
use Rattle.rpki_cert.proofs.KnownLaws.{unless-from, unless-weaker}
use Rattle.rpki_objects.specs.SignedObject.{ObjectParts}
use Rattle.rpki_objects.specs.TypedObject.{TypedParts}
use Rattle.rpki_valid.specs.declared.resource.set.ResourceSet.{ResourceSet}
use Rattle.rpki_valid.specs.ObjectVerified.{IsValidObject}
use Rattle.rpki_valid.specs.Processed.{IsProcessed, IsUnprocessed, KeepsManifestRules, BreaksManifestRules}
use Rattle.rpki_valid.specs.Processed.{KeepsOriginRules, BreaksOriginRules, KeepsAspaRules, BreaksAspaRules}
use Rattle.rpki_valid.specs.Verified.{Verified, IsVerifiedBy}
use Rattle.rpki_valid.proofs.ResourceSetLaws.{out-unless}
use Rattle.rpki_validation.proofs.OneHolderLaws.{one-held}

-- a certificate has one set of resources
pub one-cert : (profile : Profile) (list : Option CrlParts) (v : Verified) (at : DateTime) (x : CertParts)
    (a b : ResourceSet) → IsVerifiedBy profile list v at x a → IsVerifiedBy profile list v at x b → a ≡ b
one-cert profile list v at x a b h k =
    one-held x.tbs.extensions v.resources a b h.path.resources k.path.resources

-- so has an object
pub one-object : (list : Option CrlParts) (v : Verified) (at : DateTime) (x : ObjectParts)
    (a b : ResourceSet) → IsValidObject list v at x a → IsValidObject list v at x b → a ≡ b
one-object list v at x a b h k = one-cert Ee list v at x.cert a b h.cert k.cert

-- ---- rules that are broken don't hold

pub origin-broken : (x : TypedParts AttestationParts) (held : ResourceSet) (e : ValidationError)
    → BreaksOriginRules x held e → UnlessNoMemory e (KeepsOriginRules x held → ⊥)
origin-broken x held e (inl h) = unless-from e (λ k. h.0 k.addresses)
origin-broken x held e (inr (_, inl h)) = unless-from e (λ k. h.0 k.own)
origin-broken x held e (inr (_, inr (_, inl h))) = unless-from e (λ k. h.0 k.numbers)
origin-broken x held e (inr (_, inr (_, inr (_, inl out)))) = out-unless e _ out
origin-broken x held e (inr (_, inr (_, inr (_, inr h)))) = unless-from e (λ k. h.0 k.within)

pub aspa-broken : (x : TypedParts AspaParts) (held : ResourceSet) (e : ValidationError)
    → BreaksAspaRules x held e → UnlessNoMemory e (KeepsAspaRules x held → ⊥)
aspa-broken x held e (inl h) = unless-from e (λ k. h.0 k.numbers)
aspa-broken x held e (inr (_, inl h)) = unless-from e (λ k. h.0 k.own)
aspa-broken x held e (inr (_, inr (_, inl h))) = unless-from e (λ k. h.0 k.addresses)
aspa-broken x held e (inr (_, inr (_, inr h))) = unless-from e (λ k. h.1.0 k.within)

pub manifest-broken : (at : DateTime) (x : TypedParts ManifestParts) (e : ValidationError) → BreaksManifestRules at x e
    → UnlessNoMemory e (KeepsManifestRules at x → ⊥)
manifest-broken at x e (inl h) = unless-from e (λ k. h.0 k.inherited)
manifest-broken at x e (inr (_, inl h)) = unless-from e (λ k. h.0 k.out)
manifest-broken at x e (inr (_, inr h)) = unless-from e (λ k. h.1.0 k.current)

-- ---- an object that isn't processed has no resources with which it is

module _ (Valid Rules : ResourceSet → Type 0) (Invalid : ValidationError → Type 0)
    (Wrong : ResourceSet → ValidationError → Type 0)
    (one : (a b : ResourceSet) → Valid a → Valid b → a ≡ b)
    (broken : (held : ResourceSet) (e : ValidationError) → Wrong held e → UnlessNoMemory e (Rules held → ⊥)) where
  pub unprocessed-none : (e : ValidationError) → IsUnprocessed Valid Invalid Wrong e
      → UnlessNoMemory e ((held : ResourceSet) → IsProcessed Valid Rules held → ⊥)
  unprocessed-none e (inl h) = unless-weaker e (λ none held k. none held k.object) h.0
  unprocessed-none e (inr (a, valid, wrong)) =
      unless-weaker e (λ no held k. no (subst Rules (one held a k.object valid) k.rules)) (broken a e wrong)
