-- What is elsewhere has no part in the payloads of an authority.
use Rattle.std.proofs.Common.{◌≡◌, ◌∙◌, inl, ℕ, Bool, List, IsTrue, sym}
use Rattle.std.specs.List.{Contains}
use Rattle.rpki_contents.specs.ListedFile.{ListedFile}
use Rattle.rpki_contents.specs.declared.route_origin.RouteOrigin.{RouteOrigin}
use Rattle.rpki_contents.specs.Aspa.{AspaParts}
use Rattle.rpki_locator.specs.Locator.{uri_text}
use Rattle.rpki_locator.specs.declared.anchor_uri.AnchorUri.{AnchorUri}
use Rattle.rpki_text.specs.RsyncText.{RsyncUri, uri_of, joined_uri}
use Rattle.rpki_valid.specs.Verified.{Holder}
use Rattle.rpki_validation.specs.Basis.{Basis}
use Rattle.rpki_validation.specs.Isolation.{AgreeAt, IsNamedAt, IsNamedBelowAt, PublishesAt}
use Rattle.rpki_validation.specs.Named.{IsNamedBelow, IsNamedByManifest}
use Rattle.rpki_validation.specs.Levels.{Reached}
use Rattle.rpki_validation.specs.Levels.Reached.{First, Next}
use Rattle.rpki_validation.specs.Payload.{AreProviders, IsCounted, IsOrigin, IsRouter}
use Rattle.rpki_validation.specs.Point.{IsFile, IsPoint}
use Rattle.rpki_validation.specs.Publication.{PublicationParts, StandsAs}
use Rattle.rpki_validation.specs.Reached.{IsBelow, IsFirstAnchor}
use Rattle.rpki_validation.specs.Reached.IsFirstAnchor.{Here, Later}
use Rattle.rpki_validation.specs.Snapshot.{Published}
use Rattle.rpki_validation.proofs.FileNameLaws.{file-named, files-named, list-named}
use Rattle.rpki_validation.proofs.MetLaws.{head-in, tail-in}

-- the trust anchor is the same where what was fetched from these URIs is
first-moves : (p q : Published) (basis : Basis) (uris : List AnchorUri) (x : Holder)
    → ((uri : AnchorUri) → Contains uris uri → p.anchors (uri_text uri) ≡ q.anchors (uri_text uri))
    → IsFirstAnchor p basis uris x → IsFirstAnchor q basis uris x
first-moves p q basis _ _ same (Here uri uris x h) = Here uri uris x (record {
  octets = h.octets;
  fetched = sym (same uri (head-in uri uris)) ∙ h.fetched;
  anchor = h.anchor;
})
first-moves p q basis _ _ same (Later uri uris x none h) =
    Later uri uris x
    (λ y k. none y (record {
      octets = k.octets;
      fetched = same uri (head-in uri uris) ∙ k.fetched;
      anchor = k.anchor;
    }))
    (first-moves p q basis uris x (λ u c. same u (tail-in uri uris u c)) h)

module _ (own : RsyncUri → Bool) (uris : List AnchorUri) (one other : Published) (agree : AgreeAt own uris one other)
    (basis : Basis) where
  -- ---- points

  file-moves : (folder : List ℕ) (file : ListedFile) (octets : List ℕ)
      → IsTrue (own (joined_uri (uri_of folder) file.0)) → StandsAs one basis.by.sha256 folder file octets
      → StandsAs other basis.by.sha256 folder file octets
  file-moves folder file octets at h = record {
    short = h.short;
    stands = sym (agree.objects (joined_uri (uri_of folder) file.0) at) ∙ h.stands;
    same = h.same;
  }

  point-moves : (x : Holder) (p : PublicationParts) → PublishesAt own x → IsPoint one basis x p
      → IsPoint other basis x p
  point-moves x p at h =
      let there = h.there in
      let place = at.manifest there.place there.named in
      let list = there.list in
      let listed = there.manifest in
      let named = files-named basis.terms.strictness.attributes p.manifest listed.octets listed.spells in
      record {
        there = record {
          repository = there.repository;
          place = there.place;
          named = there.named;
          manifest = record {
            octets = there.manifest.octets;
            stands = sym (agree.objects (uri_of there.place) place) ∙ there.manifest.stands;
            spells = there.manifest.spells;
          };
          list = record {
            file = list.file;
            listed = list.listed;
            octets = list.octets;
            stands = file-moves p.folder list.file list.octets (at.files p.folder list.file.0 there.repository
                (list-named p.manifest.content.files list.file named list.listed)) list.stands;
            spells = list.spells;
          };
        };
        valid = h.valid;
        whole = λ file listed. (
          (h.whole file listed).0,
          file-moves p.folder file (h.whole file listed).0 (at.files p.folder file.0 there.repository
              (file-named p.manifest.content.files file named listed)) (h.whole file listed).1,
        );
      }

  named-moves : (x : Holder) (p : PublicationParts) (end octets : List ℕ) → PublishesAt own x
      → IsPoint one basis x p → IsFile one basis p end octets → IsFile other basis p end octets
  named-moves x p end octets at point h =
      let manifest = point.there.manifest in
      let named = files-named basis.terms.strictness.attributes p.manifest manifest.octets manifest.spells in
      record {
        file = h.file;
        listed = h.listed;
        ends = h.ends;
        stands = file-moves p.folder h.file octets (at.files p.folder h.file.0 point.there.repository
            (file-named p.manifest.content.files h.file named h.listed)) h.stands;
      }

  -- ---- authorities

  below-moves : (issuer x : Holder) → PublishesAt own issuer → IsBelow one basis issuer x → IsBelow other basis issuer x
  below-moves issuer x at h = record {
    point = h.point;
    published_there = point-moves issuer h.point at h.published_there;
    octets = h.octets;
    file = named-moves issuer h.point _ h.octets at h.published_there h.file;
    cert = h.cert;
  }

  -- what a manifest names
  place-moves : (x : Holder) (uri : List ℕ) → PublishesAt own x
      → IsNamedByManifest one basis.terms.strictness.attributes x.cert.tbs uri
      → IsNamedByManifest other basis.terms.strictness.attributes x.cert.tbs uri
  place-moves x uri at h = record {
    place = h.place;
    manifest_place = h.manifest_place;
    manifest = h.manifest;
    there = record {
      octets = h.there.octets;
      stands = sym (agree.objects (uri_of h.place) (at.manifest h.place h.manifest_place)) ∙ h.there.stands;
      spells = h.there.spells;
    };
    names = h.names;
  }

  by-name-moves : (issuer x : Holder) → IsNamedBelowAt own one basis issuer x → IsNamedBelow other basis issuer x
  by-name-moves issuer x h = record {
    below = below-moves issuer x h.above h.named.below;
    follows = record {
      uri = h.named.follows.uri;
      named = place-moves issuer h.named.follows.uri h.above h.named.follows.named;
      other = h.named.follows.other;
      names = h.named.follows.names;
      same = h.named.follows.same;
    };
    stands = record {
      uri = h.named.stands.uri;
      named = place-moves x h.named.stands.uri h.itself h.named.stands.named;
      cert = record {
        octets = h.named.stands.cert.octets;
        stands = sym (agree.objects (uri_of h.named.stands.uri) h.stands) ∙ h.named.stands.cert.stands;
        cert = h.named.stands.cert.cert;
        spells = h.named.stands.cert.spells;
        same = h.named.stands.cert.same;
      };
    };
  }

  reached-moves : (n : ℕ) (x : Holder) → Reached (IsFirstAnchor one basis uris) (IsNamedBelowAt own one basis) n x
      → Reached (IsFirstAnchor other basis uris) (IsNamedBelow other basis) n x
  reached-moves _ _ (First x h) = First x (first-moves one other basis uris x agree.anchors h)
  reached-moves _ _ (Next n above x r h) = Next n above x (reached-moves n above r) (by-name-moves above x h)

  -- ---- payloads

  counted-moves : (end octets : List ℕ) (issuer : Holder) (point : PublicationParts)
      → IsCounted one basis uris end octets issuer point → IsNamedAt own one basis uris issuer
      → IsCounted other basis uris end octets issuer point
  counted-moves end octets issuer point h at = record {
    counts = record { steps = at.steps; few = at.few; counted = inl (reached-moves at.steps issuer at.reached) };
    published_there = point-moves issuer point at.itself h.published_there;
    file = named-moves issuer point end octets at.itself h.published_there h.file;
  }

  pub origin-moves : (v : RouteOrigin) (h : IsOrigin one basis uris v) → IsNamedAt own one basis uris h.issuer
      → IsOrigin other basis uris v
  origin-moves v h at = record {
    issuer = h.issuer;
    point = h.point;
    octets = h.octets;
    counted = counted-moves _ h.octets h.issuer h.point h.counted at;
    attestation = h.attestation;
    valid = h.valid;
    says = h.says;
  }

  pub providers-move : (v : AspaParts) (h : AreProviders one basis uris v) → IsNamedAt own one basis uris h.issuer
      → AreProviders other basis uris v
  providers-move v h at = record {
    issuer = h.issuer;
    point = h.point;
    octets = h.octets;
    counted = counted-moves _ h.octets h.issuer h.point h.counted at;
    attestation = h.attestation;
    valid = h.valid;
    says = h.says;
  }

  pub router-moves : (x : Holder) (h : IsRouter one basis uris x) → IsNamedAt own one basis uris h.issuer
      → IsRouter other basis uris x
  router-moves x h at = record {
    issuer = h.issuer;
    point = h.point;
    octets = h.octets;
    counted = counted-moves _ h.octets h.issuer h.point h.counted at;
    valid = h.valid;
  }
