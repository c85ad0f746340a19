-- Authorities and trust anchors that are verified.
use Rattle.std.proofs.Common.{◌≡◌, ◌+◌, ℕ, List, Some, sym, subst}
use Rattle.std.specs.Prelude.{◌↔◌}
use Rattle.jiff.specs.Types.{DateTime}
use Rattle.rpki_time.specs.Validity.{HoldsAt}
use Rattle.rpki.specs.Provider.{Checkers}
use Rattle.rpki.specs.Checkers.{Models}
use Rattle.rpki_cert.specs.Cert.{CertParts, SpellsCert}
use Rattle.rpki_cert.specs.declared.profile.Profile.TheVariants.{Ca}
use Rattle.rpki_valid.specs.declared.staleness.Staleness.TheVariants.{Refused}
use Rattle.rpki_valid.specs.CrlIssued.{InForce, HasListedPath, CountsAt}
use Rattle.rpki_valid.specs.ResourceSet.{AreWithin}
use Rattle.rpki_valid.specs.Revocation.{least_asked}
use Rattle.rpki_valid.specs.Verified.{Authority, Terms, verified_by, IsVerifiedBy, IsRootWith}
use Rattle.rpki_checked.specs.Checked.{AreOnly}
use Rattle.rpki_checked.specs.Authorities.{IsAuthorityBelow, IsAnchorOf}

pub one-cert : (whole : List ℕ) (cert found : CertParts) → found ≡ cert → AreOnly SpellsCert whole cert
    → AreOnly SpellsCert whole found
one-cert whole cert found same h = subst (λ (c : CertParts). AreOnly SpellsCert whole c) (sym same) h

module _ {X : Type 0} (models : Models X) (c : InForce X) (cert : CertParts)
    (v : Authority X) (same : v.cert ≡ cert) where
  pub below : IsVerifiedBy Ca (Some c.list) (verified_by models c.issuer) c.at cert v.resources
      → HasListedPath models Ca c cert v.resources → AreWithin v.resources c.issuer.resources
      → ((m : DateTime) → HoldsAt v.period m ↔ (CountsAt c m × HoldsAt cert.tbs.validity m))
      → v.terms ≡ c.issuer.terms → v.depth ≡ c.issuer.depth + 1
      → v.asked ≡ least_asked c.issuer.asked (Some c.staleness) → v.provider ≡ c.issuer.provider
      → IsAuthorityBelow models c v
  below verified path within period terms depth asked provider = record {
    verified = subst
        (λ (k : CertParts). IsVerifiedBy Ca (Some c.list) (verified_by models c.issuer) c.at k v.resources)
        (sym same) verified;
    path = subst (λ (k : CertParts). HasListedPath models Ca c k v.resources) (sym same) path;
    within = within;
    period = subst
        (λ (k : CertParts). (m : DateTime) → HoldsAt v.period m ↔ (CountsAt c m × HoldsAt k.tbs.validity m))
        (sym same) period;
    terms = terms;
    depth = depth;
    asked = asked;
    provider = provider;
  }

module _ {X : Type 0} (terms : Terms) (by : Checkers) (at : DateTime) (cert : CertParts) (v : Authority X)
    (same : v.cert ≡ cert) where
  pub top : IsRootWith terms by at cert v.resources → v.period ≡ cert.tbs.validity → v.terms ≡ terms → v.depth ≡ 0
      → v.asked ≡ Some Refused → IsAnchorOf terms by at v
  top root period given depth asked = record {
    root = subst (λ (k : CertParts). IsRootWith terms by at k v.resources) (sym same) root;
    period = subst (λ (k : CertParts). v.period ≡ k.tbs.validity) (sym same) period;
    given = given;
    depth = depth;
    asked = asked;
  }
