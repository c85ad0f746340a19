-- What is asked of values, for the certificate that is issued of them to have its profile (RFC 6487 4, RFC 8209 3.1).
use Rattle.std.specs.Prelude.{◌≡◌, ◌≢◌, ◌<◌, ◌||◌, length, IsTrue, None, option_map}
use Rattle.std.specs.Option.{is_some}
use Rattle.rpki_der.specs.OptionalPart.{OfPart}
use Rattle.rpki_time.specs.Validity.{cut_period}
use Rattle.rpki.specs.StrictName.{IsRpkiName, IsRouterName}
use Rattle.rpki_resources.specs.declared.choice.ResourcesChoice.{ResourcesChoice}
use Rattle.rpki_resources.specs.declared.choice.ResourcesChoice.TheVariants.{Inherit}
use Rattle.rpki_resources.specs.declared.resources.IpResources.{IpResources}
use Rattle.rpki_resources.specs.declared.resources.AsResources.{AsResources}
use Rattle.rpki_cert.specs.declared.profile.name_values.ValueRule.TheVariants as ValueRule
use Rattle.rpki_cert.specs.Keys.{IsRpkiKey, IsRouterKey}
use Rattle.rpki_cert.specs.NameValues.{PermitsName}
use Rattle.rpki_cert.specs.RuleWords.{IsOrdered, IsBelow}
use Rattle.rpki_issue.specs.declared.kind.CertExtensions.{CertExtensions}
use Rattle.rpki_issue.specs.declared.kind.CertKind.{CertKind}
use Rattle.rpki_issue.specs.declared.kind.CertKind.TheVariants.{Anchor, Authority, Object, Detached, Router}
use Rattle.rpki_issue.specs.declared.kind.Repository.{Repository}
use Rattle.rpki_issue.specs.Extensions.{AreUris, CanHold}
use Rattle.rpki_issue.specs.Tbs.{Issued}

-- not those of the issuer
abbrev pub IsNotInherited : ResourcesChoice → Type 0
IsNotInherited choice = choice ≢ Inherit

pub record OwnsAddresses (x : IpResources) : Type 0 where
  pub v4 : IsNotInherited x.v4
  pub v6 : IsNotInherited x.v6

pub record OwnsResources (e : CertExtensions) : Type 0 where
  pub addresses : OfPart OwnsAddresses (option_map (λ r. r.now) e.ip)
  pub numbers : OfPart (λ (x : AsResources). IsNotInherited x.numbers) (option_map (λ r. r.now) e.asn)

-- a subject with a name of the RPKI and an RSA key (RFC 6487 4.5, RFC 7935 3)
pub record IsRpkiSubject (x : Issued) : Type 0 where
  pub name : IsRpkiName x.subject
  pub key : IsRpkiKey x.key

-- a router: its name and its key, numbers of its own, and no addresses (RFC 8209 3.1)
pub record IsRouterSubject (x : Issued) (e : CertExtensions) : Type 0 where
  pub name : IsRouterName x.subject
  pub serial : PermitsName ValueRule.SerialNumber x.subject
  pub key : IsRouterKey x.key
  pub addresses : e.ip ≡ None
  pub own : OwnsResources e

-- the manifest is one of the repository's objects (RFC 9286 2)
abbrev pub IsManifestBelow : Repository → Type 0
IsManifestBelow r = IsBelow r.base.now r.manifest.now

-- a trust anchor issues itself, with resources of its own (RFC 8630 2.3)
pub record IsAnchor (x : Issued) (e : CertExtensions) (r : Repository) : Type 0 where
  pub subject : IsRpkiSubject x
  pub same : x.issuer ≡ x.subject
  pub manifest : IsManifestBelow r
  pub own : OwnsResources e

-- what each kind asks
abbrev pub IsOfKind : Issued → CertExtensions → CertKind → Type 0
IsOfKind x e (Anchor r) = IsAnchor x e r
IsOfKind x e (Authority i r) = (length i.key ≡ 20) × IsRpkiSubject x × IsManifestBelow r
IsOfKind x e (Object i uri) = (length i.key ≡ 20) × IsRpkiSubject x
IsOfKind x e (Detached i) = (length i.key ≡ 20) × IsRpkiSubject x
IsOfKind x e (Router i) = (length i.key ≡ 20) × IsRouterSubject x e

-- the identifier of the issuer's key, but for a trust anchor
abbrev pub HasIssuerKey : CertKind → Type 0
HasIssuerKey (Anchor r) = Unit {0}
HasIssuerKey (Authority i r) = length i.key ≡ 20
HasIssuerKey (Object i uri) = length i.key ≡ 20
HasIssuerKey (Detached i) = length i.key ≡ 20
HasIssuerKey (Router i) = length i.key ≡ 20

-- A number above 0, a name of the issuer, values of names of 1 to 64 characters, a period that ends no earlier than it
-- begins, an identifier of a key, URIs that are read back, and resources that can be written, of which there are some.
pub record CanIssue (x : Issued) (e : CertExtensions) : Type 0 where
  pub serial : 0 < x.serial
  pub issuer : IsRpkiName x.issuer
  pub issuer_size : PermitsName ValueRule.Size x.issuer
  pub subject_size : PermitsName ValueRule.Size x.subject
  pub validity : IsOrdered (cut_period x.validity)
  pub key : length e.subject_key ≡ 20
  pub uris : AreUris e
  pub resources : CanHold e
  pub some : IsTrue (is_some e.ip || is_some e.asn)
  pub kind : IsOfKind x e e.kind

-- identifiers of keys, of the subject and of the issuer
abbrev pub AreKeys : CertExtensions → Type 0
AreKeys e = (length e.subject_key ≡ 20) × HasIssuerKey e.kind
