-- Authorities, routers, trust anchors and revocation lists that are handed out (RFC 5280 6.3.3, RFC 6487 7.2, RFC 8209
-- 3, RFC 8630 2).
use Rattle.std.specs.Prelude.{◌≡◌, ◌+◌, ◌↔◌, ℕ, List, Some}
use Rattle.jiff.specs.Types.{DateTime}
use Rattle.rpki_der.specs.Prelude.{IsWholeFault}
use Rattle.rpki_time.specs.Validity.{HoldsAt}
use Rattle.rpki.specs.Provider.{Checkers}
use Rattle.rpki.specs.Checkers.{Models, checkers_of}
use Rattle.rpki.specs.declared.repository.error.ValidationError.{ValidationError}
use Rattle.rpki.specs.PublicKey.{KeyParts}
use Rattle.rpki_cert.specs.Cert.{CertParts, SpellsCert}
use Rattle.rpki_cert.specs.CertFault.{IsCertFault}
use Rattle.rpki_cert.specs.declared.profile.Profile.TheVariants.{Ca, Router}
use Rattle.rpki_crl.specs.Crl.{crl}
use Rattle.rpki_issue.specs.Signing.{ToSign, IsIssuedCert, IsSigningRefusal}
use Rattle.rpki_issue.specs.SignedList.{ListToSign, IsIssuedList}
use Rattle.rpki_valid.specs.declared.staleness.Staleness.TheVariants.{Refused}
use Rattle.rpki_valid.specs.CrlIssued.{InForce, HasListedPath, CountsAt, IsRefusedList}
use Rattle.rpki_valid.specs.ResourceSet.{AreWithin}
use Rattle.rpki_valid.specs.declared.resource.set.ResourceSet.{ResourceSet}
use Rattle.rpki_valid.specs.Revocation.{least_asked}
use Rattle.rpki_valid.specs.Verified.{Authority, Verified, Terms, verified_by, IsVerifiedBy, IsRootWith}
use Rattle.rpki_valid.specs.Verified.{IsRefusedAuthority, IsRefusedLink, IsRefusedRoot}
use Rattle.rpki_checked.specs.declared.error.CheckError.{CheckError}
use Rattle.rpki_checked.specs.Checked.{AreOnly, IsUnfound, IsCheckRefusal}

-- ---- what is below an authority

-- The authority is verified by the list at its moment, and has a path up to the trust anchor, within the resources of
-- the one above; it is verified as long as the list counts and its own period lasts, on the terms of the path.
pub record IsAuthorityBelow {X : Type 0} (models : Models X) (c : InForce X)
    (v : Authority X) : Type 0 where
  pub verified : IsVerifiedBy Ca (Some c.list) (verified_by models c.issuer) c.at v.cert v.resources
  pub path : HasListedPath models Ca c v.cert v.resources
  pub within : AreWithin v.resources c.issuer.resources
  pub period : (m : DateTime) → HoldsAt v.period m ↔ (CountsAt c m × HoldsAt v.cert.tbs.validity m)
  pub terms : v.terms ≡ c.issuer.terms
  pub depth : v.depth ≡ c.issuer.depth + 1
  pub asked : v.asked ≡ least_asked c.issuer.asked (Some c.staleness)
  pub provider : v.provider ≡ c.issuer.provider

-- the octets couldn't be read, or are a certificate of no such authority, with the error of that
abbrev pub IsNoAuthority : {X : Type 0} → Models X → InForce X → List ℕ → ValidationError → Type 0
IsNoAuthority models c =
    IsUnfound SpellsCert (IsWholeFault SpellsCert IsCertFault)
    (IsRefusedAuthority (Some c.list) (verified_by models c.issuer) c.at)

-- the second step refuses it; or what it makes is none that is asked for
abbrev pub IsCertRefusal : Checkers → KeyParts → ToSign → List ℕ → (List ℕ → ValidationError → Type 0) → CheckError
    → Type 0
IsCertRefusal by key made value =
    IsCheckRefusal (IsSigningRefusal by key made.octets value) (IsIssuedCert by key made value)

abbrev pub IsAuthorityRefusal : {X : Type 0} → Models X → InForce X → ToSign → List ℕ → CheckError → Type 0
IsAuthorityRefusal models c made value =
    IsCertRefusal (checkers_of models c.issuer.provider) c.issuer.cert.tbs.key made value
    (IsNoAuthority models c)

-- The octets are the certificate of a router, which is verified by the list at its moment, has a path up to the trust
-- anchor, and holds these resources, within those of the authority (RFC 8209 3.1, 3.3).
pub record IsRouterBelow {X : Type 0} (models : Models X) (c : InForce X) (whole : List ℕ)
    (held : ResourceSet) : Type 0 where
  pub cert : CertParts
  pub one : AreOnly SpellsCert whole cert
  pub verified : IsVerifiedBy Router (Some c.list) (verified_by models c.issuer) c.at cert held
  pub path : HasListedPath models Router c cert held
  pub within : AreWithin held c.issuer.resources

-- the octets couldn't be read, or are a certificate of no such router, with the error of that
abbrev pub IsNoRouter : {X : Type 0} → Models X → InForce X → List ℕ → ValidationError → Type 0
IsNoRouter models c =
    IsUnfound SpellsCert (IsWholeFault SpellsCert IsCertFault)
    (IsRefusedLink Router (Some c.list) (verified_by models c.issuer) c.at)

abbrev pub IsRouterRefusal : {X : Type 0} → Models X → InForce X → ToSign → List ℕ → CheckError → Type 0
IsRouterRefusal models c made value =
    IsCertRefusal (checkers_of models c.issuer.provider) c.issuer.cert.tbs.key made value (IsNoRouter models c)

-- ---- what nothing is above

-- a trust anchor of these terms at the moment
pub record IsAnchorOf {X : Type 0} (terms : Terms) (by : Checkers) (at : DateTime) (v : Authority X) : Type 0 where
  pub root : IsRootWith terms by at v.cert v.resources
  pub period : v.period ≡ v.cert.tbs.validity
  pub given : v.terms ≡ terms
  pub depth : v.depth ≡ 0
  pub asked : v.asked ≡ Some Refused

abbrev pub IsNoAnchorOf : Terms → Checkers → DateTime → List ℕ → ValidationError → Type 0
IsNoAnchorOf terms by at =
    IsUnfound SpellsCert (IsWholeFault SpellsCert IsCertFault) (IsRefusedRoot terms by at)

abbrev pub IsAnchorRefusal : Terms → Checkers → DateTime → ToSign → List ℕ → CheckError → Type 0
IsAnchorRefusal terms by at made value = IsCertRefusal by terms.key made value (IsNoAnchorOf terms by at)

-- ---- lists

-- the octets couldn't be read, or are a list that doesn't count at the moment, with the error of that
abbrev pub IsNoList : Verified → DateTime → List ℕ → ValidationError → Type 0
IsNoList issuer at = IsUnfound crl.spells (IsWholeFault crl.spells crl.fault) (IsRefusedList Refused issuer at)

abbrev pub IsListRefusal : Verified → DateTime → ListToSign → List ℕ → CheckError → Type 0
IsListRefusal issuer at made value =
    IsCheckRefusal (IsSigningRefusal issuer.by issuer.cert.tbs.key made.octets value)
    (IsIssuedList issuer.by issuer.cert.tbs.key made value) (IsNoList issuer at)
