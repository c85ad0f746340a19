-- Payloads are signed down from the key of the locator.
use Rattle.std.proofs.Common.{◌≡◌, List}
use Rattle.std.specs.List.{Contains}
use Rattle.rpki_cert.specs.declared.profile.Profile.{Profile}
use Rattle.rpki_cert.specs.declared.profile.Profile.TheVariants.{Ee, Router}
use Rattle.rpki_cert.specs.Cert.{CertParts}
use Rattle.rpki_contents.specs.declared.route_origin.RouteOrigin.{RouteOrigin}
use Rattle.rpki_contents.specs.Aspa.{AspaParts}
use Rattle.rpki_contents.specs.Roa.{AttestationParts}
use Rattle.rpki_contents.specs.RouteOrigin.{origins}
use Rattle.rpki_locator.specs.declared.anchor_uri.AnchorUri.{AnchorUri}
use Rattle.rpki_objects.specs.TypedObject.{TypedParts}
use Rattle.rpki_valid.specs.declared.resource.set.ResourceSet.{ResourceSet}
use Rattle.rpki_valid.specs.Processed.{KeepsOriginRules, KeepsAspaRules}
use Rattle.rpki_valid.specs.Verified.{Holder, holder}
use Rattle.rpki_validation.specs.Basis.{Basis}
use Rattle.rpki_validation.specs.Issued.{IsIssuedCert}
use Rattle.rpki_validation.specs.Payload.{AreProviders, IsOrigin, IsRouter}
use Rattle.rpki_validation.specs.Point.{IsPoint}
use Rattle.rpki_validation.specs.Publication.{PublicationParts}
use Rattle.rpki_validation.specs.Counts.{Counts}
use Rattle.rpki_validation.specs.SignedDown.{IsObjectSignedDown, IsSignedDown}
use Rattle.rpki_validation.specs.Snapshot.{Published}
use Rattle.rpki_validation.proofs.ReachedLaws.{counts-is-authority}

module _ (published : Published) (basis : Basis) (uris : List AnchorUri) where
  -- what an authority that counts has issued, by the list of its point
  issued-down : (profile : Profile) (issuer : Holder) (point : PublicationParts) (x : CertParts) (held : ResourceSet)
      → Counts published basis uris issuer → IsPoint published basis issuer point
      → IsIssuedCert profile basis issuer point.list x held → IsSignedDown profile basis (holder x held)
  issued-down profile issuer point x held counts there valid =
      let above = counts-is-authority published basis uris issuer counts in
      record {
        depth = above.0;
        issuer = issuer;
        authority = above.1;
        link = record {
          profiled = valid.profiled;
          issued = valid.path.issued;
          unrevoked = (point.list, there.valid.list.list, valid.path.unrevoked);
          resources = valid.path.resources;
        };
      }

  pub origin-down : (v : RouteOrigin) → IsOrigin published basis uris v
      → (x : TypedParts AttestationParts) × Contains (origins x.content) v
      × IsObjectSignedDown KeepsOriginRules basis x
  origin-down v h = (
    h.attestation,
    h.says,
    record {
      held = h.valid.held;
      signed = h.valid.valid.object.signed;
      path = issued-down Ee h.issuer h.point h.attestation.object.cert h.valid.held h.counted.counts
          h.counted.published_there h.valid.valid.object.cert;
      rules = h.valid.valid.rules;
    },
  )

  pub providers-down : (v : AspaParts) → AreProviders published basis uris v
      → (x : TypedParts AspaParts) × (x.content ≡ v) × IsObjectSignedDown KeepsAspaRules basis x
  providers-down v h = (
    h.attestation,
    h.says,
    record {
      held = h.valid.held;
      signed = h.valid.valid.object.signed;
      path = issued-down Ee h.issuer h.point h.attestation.object.cert h.valid.held h.counted.counts
          h.counted.published_there h.valid.valid.object.cert;
      rules = h.valid.valid.rules;
    },
  )

  pub router-down : (x : Holder) → IsRouter published basis uris x → IsSignedDown Router basis x
  router-down x h = issued-down Router h.issuer h.point x.cert x.resources h.counted.counts h.counted.published_there
      h.valid.valid
