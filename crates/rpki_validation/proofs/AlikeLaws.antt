-- Authorities that are alike have the same points: the same is said there, and the same is below them.
use Rattle.std.proofs.Common.{◌≡◌, ◌∙◌, List, ℕ, sym, subst}
use Rattle.std.specs.Prelude.{codes}
use Rattle.rpki.specs.PublicKey.{KeyParts}
use Rattle.rpki_contents.specs.declared.route_origin.RouteOrigin.{RouteOrigin}
use Rattle.rpki_contents.specs.Aspa.{AspaParts}
use Rattle.rpki_cert.specs.declared.profile.Profile.{Profile}
use Rattle.rpki_cert.specs.declared.profile.Profile.TheVariants.{Ca, Ee, Router}
use Rattle.rpki_cert.specs.Cert.{CertParts}
use Rattle.rpki_crl.specs.Crl.{CrlParts}
use Rattle.rpki_objects.specs.SignedObject.{ObjectParts}
use Rattle.rpki_objects.specs.TypedObject.{TypedParts, aspa_object, origin_object}
use Rattle.rpki_der.specs.Prelude.{Format}
use Rattle.rpki_valid.specs.declared.resource.set.ResourceSet.{ResourceSet}
use Rattle.rpki_valid.specs.declared.staleness.Staleness.TheVariants.{Refused}
use Rattle.rpki_valid.specs.CrlIssued.{IsIssuedBy}
use Rattle.rpki_valid.specs.Processed.{KeepsAspaRules, KeepsOriginRules}
use Rattle.rpki_valid.specs.ResourceSet.{HasResources}
use Rattle.rpki_valid.specs.Valid.{HasAuthority, IsIssued, IsSigned, IsSignedBy}
use Rattle.rpki_valid.specs.Verified.{Holder}
use Rattle.rpki_validation.specs.Alike.{AreAlike}
use Rattle.rpki_validation.specs.Basis.{Basis, verified_at}
use Rattle.rpki_validation.specs.Issued.{AreProvidersIn, IsCertIn, IsIssuedCert, IsIssuedObject, IsObjectIn}
use Rattle.rpki_validation.specs.Named.{IsNamedBelow}
use Rattle.rpki_validation.specs.Point.{HoldsAtMoment, IsPoint}
use Rattle.rpki_validation.specs.Publication.{PublicationParts}
use Rattle.rpki_validation.specs.Reached.{IsBelow}
use Rattle.rpki_validation.specs.Said.{IsSaid, SayOrigin, SaysOrigin, SaysProviders, SaysRouter}
use Rattle.rpki_validation.specs.Snapshot.{Published}

-- ---- likeness

pub alike-turned : (x y : Holder) → AreAlike x y → AreAlike y x
alike-turned x y h = record {
  subject = sym h.subject;
  key = sym h.key;
  resources = sym h.resources;
  folder = λ uri. ((h.folder uri).1, (h.folder uri).0);
  manifest = λ uri. ((h.manifest uri).1, (h.manifest uri).0);
}

pub alike-then : (x y z : Holder) → AreAlike x y → AreAlike y z → AreAlike x z
alike-then x y z h k = record {
  subject = h.subject ∙ k.subject;
  key = h.key ∙ k.key;
  resources = h.resources ∙ k.resources;
  folder = λ uri. (λ u. (k.folder uri).0 ((h.folder uri).0 u), λ u. (h.folder uri).1 ((k.folder uri).1 u));
  manifest = λ uri. (λ u. (k.manifest uri).0 ((h.manifest uri).0 u), λ u. (h.manifest uri).1 ((k.manifest uri).1 u));
}

-- ---- what they issue

module _ (published : Published) (basis : Basis) (x y : Holder) (same : AreAlike x y) where
  issued-alike : (c : CertParts) → IsIssued basis.by x.cert.tbs basis.at c
      → IsIssued basis.by y.cert.tbs basis.at c
  issued-alike c h = record {
    signed = subst (λ (s : List ℕ). IsSigned basis.by s y.cert.tbs.key basis.at c)
        same.subject
        (subst (λ (k : KeyParts). IsSigned basis.by x.cert.tbs.subject k basis.at c)
        same.key h.signed);
    authority = subst (λ (k : KeyParts). HasAuthority (basis.by.sha1 k.bits.octets) c.tbs) same.key h.authority;
  }

  cert-alike : (profile : Profile) (list : CrlParts) (c : CertParts) (held : ResourceSet)
      → IsIssuedCert profile basis x list c held → IsIssuedCert profile basis y list c held
  cert-alike profile list c held h = record {
    profiled = h.profiled;
    path = record {
      period = h.path.period;
      issued = issued-alike c h.path.issued;
      unrevoked = h.path.unrevoked;
      resources = subst (λ (r : ResourceSet). HasResources c.tbs.extensions r held) same.resources h.path.resources;
    };
  }

  object-alike : (list : CrlParts) (o : ObjectParts) (held : ResourceSet) → IsIssuedObject basis x list o held
      → IsIssuedObject basis y list o held
  object-alike list o held h = record { signed = h.signed; cert = cert-alike Ee list o.cert held h.cert }

  list-alike : (list : CrlParts) → IsIssuedBy Refused (verified_at basis x) basis.at list
      → IsIssuedBy Refused (verified_at basis y) basis.at list
  list-alike list h = record {
    period = h.period;
    list = record {
      signature = subst (λ (k : KeyParts). IsSignedBy basis.by k list.signed) same.key
          h.list.signature;
      name = h.list.name ∙ same.subject;
      authority = subst (λ (k : KeyParts). list.list.extensions.authority ≡ basis.by.sha1 k.bits.octets) same.key
          h.list.authority;
      out = h.list.out;
      fresh = h.list.fresh;
    };
  }

  moment-alike : (p : PublicationParts) → HoldsAtMoment basis x p → HoldsAtMoment basis y p
  moment-alike p h = record {
    list = list-alike p.list h.list;
    held = h.held;
    manifest = record {
      object = object-alike p.list p.manifest.object h.held h.manifest.object;
      rules = h.manifest.rules;
    };
    named = h.named;
  }

  pub point-alike : (p : PublicationParts) → IsPoint published basis x p → IsPoint published basis y p
  point-alike p h = record {
    there = record {
      repository = (same.folder p.folder).0 h.there.repository;
      place = h.there.place;
      named = (same.manifest h.there.place).0 h.there.named;
      manifest = h.there.manifest;
      list = h.there.list;
    };
    valid = moment-alike p h.valid;
    whole = h.whole;
  }

  in-alike : (profile : Profile) (list : CrlParts) (octets : List ℕ) (z : Holder)
      → IsCertIn profile basis x list octets z → IsCertIn profile basis y list octets z
  in-alike profile list octets z h =
      record { spells = h.spells; valid = cert-alike profile list z.cert z.resources h.valid }

  -- the same is below
  pub below-alike : (z : Holder) → IsBelow published basis x z → IsBelow published basis y z
  below-alike z h = record {
    point = h.point;
    published_there = point-alike h.point h.published_there;
    octets = h.octets;
    file = h.file;
    cert = in-alike Ca h.point.list h.octets z h.cert;
  }

  -- by name too
  pub named-alike : (z : Holder) → IsNamedBelow published basis x z → IsNamedBelow published basis y z
  named-alike z h = record {
    below = below-alike z h.below;
    follows = record {
      uri = h.follows.uri;
      named = record {
        place = h.follows.named.place;
        manifest_place = (same.manifest h.follows.named.place).0 h.follows.named.manifest_place;
        manifest = h.follows.named.manifest;
        there = h.follows.named.there;
        names = h.follows.named.names;
      };
      other = h.follows.other;
      names = h.follows.names;
      same = h.follows.same;
    };
    stands = h.stands;
  }

  -- ---- what is said

  said-alike : (end : List ℕ) (P Q : PublicationParts → List ℕ → Type 0)
      → ((p : PublicationParts) (octets : List ℕ) → P p octets → Q p octets)
      → IsSaid published basis end x P → IsSaid published basis end y Q
  said-alike end P Q to h = record {
    point = h.point;
    octets = h.octets;
    file = record { published_there = point-alike h.point h.file.published_there; file = h.file.file };
    says = to h.point h.octets h.says;
  }

  in-object : {C : Type 0} (F : Format (TypedParts C)) (Rules : TypedParts C → ResourceSet → Type 0)
      (list : CrlParts) (octets : List ℕ) (v : TypedParts C) → IsObjectIn F Rules basis x list octets v
      → IsObjectIn F Rules basis y list octets v
  in-object F Rules list octets v h = record {
    spells = h.spells;
    held = h.held;
    valid = record { object = object-alike list v.object h.held h.valid.object; rules = h.valid.rules };
  }

  pub origin-alike : (v : RouteOrigin) → SaysOrigin published basis x v → SaysOrigin published basis y v
  origin-alike v =
      said-alike (codes ".roa") (SayOrigin basis x v) (SayOrigin basis y v)
      (λ p octets h. (
        h.0,
        in-object (origin_object basis.terms.strictness) KeepsOriginRules p.list octets h.0 h.1,
        h.2,
      ))

  pub providers-alike : (v : TypedParts AspaParts) → SaysProviders published basis x v
      → SaysProviders published basis y v
  providers-alike v =
      said-alike (codes ".asa") (λ p octets. AreProvidersIn basis x p.list octets v)
      (λ p octets. AreProvidersIn basis y p.list octets v)
      (λ p octets h. in-object (aspa_object basis.terms.strictness.attributes) KeepsAspaRules p.list octets v h)

  pub router-alike : (v : Holder) → SaysRouter published basis x v → SaysRouter published basis y v
  router-alike v =
      said-alike (codes ".cer") (λ p octets. IsCertIn Router basis x p.list octets v)
      (λ p octets. IsCertIn Router basis y p.list octets v)
      (λ p octets h. in-alike Router p.list octets v h)
