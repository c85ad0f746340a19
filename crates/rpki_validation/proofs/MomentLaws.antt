-- What an authority has issued depends on the period of its path only by whether it holds at the moment, and not on how
-- far down the path it is.
use Rattle.std.proofs.Common.{Option}
use Rattle.jiff.specs.Types.{DateTime}
use Rattle.jiff.specs.Words.{civil_nanos}
use lib.Signed.{≤ℤ_refl}
use Rattle.rpki_time.specs.Validity.{HoldsAt}
use Rattle.rpki_cert.specs.declared.profile.Profile.{Profile}
use Rattle.rpki_cert.specs.declared.profile.Profile.TheVariants.{Ee}
use Rattle.rpki_cert.specs.Cert.{CertParts}
use Rattle.rpki_crl.specs.Crl.{CrlParts}
use Rattle.rpki_objects.specs.SignedObject.{ObjectParts}
use Rattle.rpki_valid.specs.declared.resource.set.ResourceSet.{ResourceSet}
use Rattle.rpki_valid.specs.declared.staleness.Staleness.{Staleness}
use Rattle.rpki_valid.specs.CrlIssued.{IsIssuedBy}
use Rattle.rpki_valid.specs.ObjectVerified.{IsValidObject}
use Rattle.rpki_valid.specs.Verified.{Verified, IsVerifiedBy, holder}
use Rattle.rpki_validation.specs.Basis.{Basis, verified_at}

abbrev pub basis_under : Verified → DateTime → Basis
basis_under v at = record { terms = v.terms; by = v.by; at = at }

module _ (v : Verified) (at : DateTime) where
  abbrev pub now : Verified
  now = verified_at (basis_under v at) (holder v.cert v.resources)

  -- the moment itself is such a period
  pub moment-holds : HoldsAt now.period at
  moment-holds = (≤ℤ_refl (civil_nanos at), ≤ℤ_refl (civil_nanos at))

  pub list-now : (staleness : Staleness) (list : CrlParts) → IsIssuedBy staleness v at list
      → IsIssuedBy staleness now at list
  list-now staleness list h = record { period = moment-holds; list = h.list }

  pub cert-now : (profile : Profile) (list : Option CrlParts) (x : CertParts) (held : ResourceSet)
      → IsVerifiedBy profile list v at x held → IsVerifiedBy profile list now at x held
  cert-now profile list x held h = record {
    profiled = h.profiled;
    path = record {
      period = moment-holds;
      issued = h.path.issued;
      unrevoked = h.path.unrevoked;
      resources = h.path.resources;
    };
  }

  pub object-now : (list : Option CrlParts) (x : ObjectParts) (held : ResourceSet)
      → IsValidObject list v at x held → IsValidObject list now at x held
  object-now list x held h = record { signed = h.signed; cert = cert-now Ee list x.cert held h.cert }

  module _ (period : HoldsAt v.period at) where
    pub list-then : (staleness : Staleness) (list : CrlParts) → IsIssuedBy staleness now at list
        → IsIssuedBy staleness v at list
    list-then staleness list h = record { period = period; list = h.list }

    pub cert-then : (profile : Profile) (list : Option CrlParts) (x : CertParts) (held : ResourceSet)
        → IsVerifiedBy profile list now at x held → IsVerifiedBy profile list v at x held
    cert-then profile list x held h = record {
      profiled = h.profiled;
      path = record {
        period = period;
        issued = h.path.issued;
        unrevoked = h.path.unrevoked;
        resources = h.path.resources;
      };
    }

    pub object-then : (list : Option CrlParts) (x : ObjectParts) (held : ResourceSet)
        → IsValidObject list now at x held → IsValidObject list v at x held
    object-then list x held h = record { signed = h.signed; cert = cert-then Ee list x.cert held h.cert }
