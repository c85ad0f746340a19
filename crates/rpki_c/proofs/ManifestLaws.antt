-- The manifest of an authority whose certificate doesn't name its list.
use Rattle.std.proofs.Common.{◌≡◌, ◌⊎◌, ℕ, List, inl, inr, sym, arith}
use Rattle.rpki_cert.specs.declared.extension.known_view.KnownView.{KnownView}
use Rattle.rpki_cert.specs.declared.read.cert_part.CertPart.{CertPart}
use Rattle.rpki_cert.specs.View.{IsCertWrong}
use Rattle.rpki_objects.specs.SignedObject.{ObjectParts}
use Rattle.rpki_valid.specs.ObjectResources.{AreInherited}
use Rattle.rpki_c.specs.declared.authority.Authority.{Authority}
use Rattle.rpki_c.specs.AuthorityManifest.{IsManifestHeld, IsNoManifest, IsNotSignedBelow, IsSignedBelow}
use Rattle.rpki_c.specs.ListName.{NamesFile}
use Rattle.rpki_c.specs.Status.{no_issuer, other_list_uri}

-- the authority has no certificate that is read; or it has, and the certificate names another list
pub not-named : (by : Authority) (capacity : ℕ) (x : ObjectParts) (known : KnownView) (s : List ℕ)
    → IsSignedBelow by x known → AreInherited x.cert.tbs.extensions → (h : IsManifestHeld by x.content.content)
    → (status : ℕ) → ((status ≡ no_issuer) × (q : CertPart) × IsCertWrong by.certificate.octets.now q)
    ⊎ ((status ≡ other_list_uri) × (NamesFile by x.cert h.list.file.0 → ⊥))
    → IsNotSignedBelow by x s status
    ⊎ ((k : KnownView) × IsSignedBelow by x k × IsNoManifest by capacity x k status)
not-named by capacity x known s signed inherited h status (inl w) =
    inl (inr (
      (sym signed.signed.type, signed.signed.digest),
      inl (inr (
        known,
        signed.says,
        signed.below.profiled,
        λ zero. omega (arith, w.0, zero),
        inl w,
      )),
    ))
not-named by capacity x known s signed inherited h status (inr w) =
    inr (known, signed, inr (inherited, inr (h, w.0, w.1)))
