-- Paths of authorities that the calls on them make: from that of a trust anchor on, each with its list and its manifest
-- (RFC 5280 6.1, RFC 6487 7.2), in the words of who verifies.
use Rattle.std.specs.Prelude.{◌≡◌, ℕ, Bool, true, List, Some, map}
use Rattle.jiff.specs.Types.{DateTime}
use Rattle.sha2.specs.Sha256.{sha256}
use Rattle.rpki.specs.PublicKey.{KeyParts, SpellsKey}
use Rattle.rpki_cert.specs.declared.profile.Profile.{Profile}
use Rattle.rpki_cert.specs.declared.profile.Profile.TheVariants.{Ee}
use Rattle.rpki_cert.specs.Cert.{CertParts, SpellsCert}
use Rattle.rpki_crl.specs.Crl.{CrlParts, crl, each_entry, listed}
use Rattle.rpki_objects.specs.SignedObject.{ObjectParts}
use Rattle.rpki_objects.specs.Strictness.{all_strict}
use Rattle.rpki_valid.specs.declared.resource.set.ResourceSet.{ResourceSet}
use Rattle.rpki_valid.specs.declared.staleness.Staleness.TheVariants.{Refused}
use Rattle.rpki_valid.specs.Revocation.{IsListOf}
use Rattle.rpki_valid.specs.Verified.{Terms, IsAuthorityAt, HasPath, holder, terms_of}
use Rattle.rpki_c.specs.declared.as_blocks.AsEntry.{AsEntry}
use Rattle.rpki_c.specs.declared.authority.Authority.{Authority}
use Rattle.rpki_c.specs.declared.ip_blocks.IpEntry.{IpEntry}
use Rattle.rpki_c.specs.AuthorityManifest.{IsManifestBelow}
use Rattle.rpki_c.specs.Below.{checkers}
use Rattle.rpki_c.specs.Made.{IsTimeOf}
use Rattle.rpki_c.specs.Resources.{as_entry}
use Rattle.rpki_c.specs.Settling.{settled_entries}

-- how many steps lead up to a trust anchor at most
abbrev pub most_steps : ℕ
most_steps = 32

-- what all certificates of a path are checked against: the key of its trust anchor, all rules, and the most steps
abbrev pub terms_under : KeyParts → Terms
terms_under key = terms_of key all_strict most_steps

-- how these resources are passed
pub record ArePassed (held : ResourceSet) (ip_blocks : List IpEntry) (as_blocks : List AsEntry) : Type 0 where
  pub addresses : ip_blocks ≡ settled_entries held.ipv4 held.ipv6
  pub numbers : as_blocks ≡ map as_entry held.asn

-- the authority of this certificate has issued a list, which counts at the moment, with these entries and this digest
pub record HasListAt (cert : CertParts) (at : DateTime) (by : Authority) : Type 0 where
  pub list : CrlParts
  pub of : IsListOf checkers Refused cert.tbs at list
  pub revoked : each_entry.spells (listed list.list.revoked) by.revoked_certs.octets.now
  pub octets : List ℕ
  pub spelled : crl.spells list octets
  pub digest : by.list_digest ≡ sha256 octets

-- a manifest is valid below the authority, which lists its list
pub record HasManifest (by : Authority) : Type 0 where
  pub strict : Bool
  pub octets : List ℕ
  pub below : IsManifestBelow strict by octets

-- A path of authorities leads from this one to a trust anchor with this key (RFC 5280 6.1, RFC 6487 7.2): from its
-- certificate, with these resources, at this moment and in so many steps. Where it says that it has a list, one that it
-- has issued counts; where it says that it has a manifest, one is valid below it.
pub record IsOfPath (key : KeyParts) (by : Authority) : Type 0 where
  pub cert : CertParts
  pub spelled : SpellsCert cert by.certificate.octets.now
  pub held : ResourceSet
  pub passed : ArePassed held by.ip_blocks.now by.as_blocks.now
  pub at : DateTime
  pub moment : IsTimeOf by.moment at
  pub path : IsAuthorityAt (terms_under key) (Some Refused) checkers at by.depth (holder cert held)
  pub list : by.has_list ≡ true → HasListAt cert at by
  pub manifest : by.has_manifest ≡ true → HasManifest by

-- where a path leads from the one authority, one leads from the other, to the same trust anchor
abbrev pub KeepsPath : Authority → Authority → Type 0
KeepsPath by new = (key : KeyParts) → IsOfPath key by → IsOfPath key new

-- a path leads from the authority to a trust anchor with the key that these octets are
pub record BeginsPath (octets : List ℕ) (new : Authority) : Type 0 where
  pub key : KeyParts
  pub spelled : SpellsKey key octets
  pub path : IsOfPath key new

-- Where a path leads from the authority to a trust anchor, one leads there from a certificate of this profile, with
-- these resources: what HasListedPath says of an authority with its list in force.
abbrev pub HasPathBy : Profile → Authority → CertParts → ResourceSet → Type 0
HasPathBy profile by x held =
    (key : KeyParts) (p : IsOfPath key by)
    → HasPath profile (terms_under key) (Some Refused) (Some Refused) checkers p.at (holder x held)

-- the same of an end entity's certificate, of which only a part of the resources is asked
abbrev pub HasEndPath : Authority → ObjectParts → (ResourceSet → Type 0) → Type 0
HasEndPath by x Rules =
    (key : KeyParts) (p : IsOfPath key by)
    → (held : ResourceSet)
    × HasPath Ee (terms_under key) (Some Refused) (Some Refused) checkers p.at (holder x.cert held) × Rules held
