-- What a status says of an authority of a path, that a call makes.
use Rattle.std.specs.Prelude.{◌≡◌, ◌≢◌, ◌⊎◌, ◌≤◌, ◌<◌, ◌+◌, ℕ, true, false, List, Result, MatchResult, length}
use Rattle.std.specs.Prelude.{map, set, take, Contains, replicate}
use Rattle.jiff.specs.Types.{DateTime}
use Rattle.sha1.specs.Sha1.{sha1}
use Rattle.sha2.specs.Sha256.{sha256}
use Rattle.rpki_resources.specs.declared.block.Block.{Block}
use Rattle.rpki_cert.specs.declared.extension.known_view.KnownView.{KnownView}
use Rattle.rpki_cert.specs.declared.profile.Profile.TheVariants.{Ca, Ta, Ee, Router, DetachedEe}
use Rattle.rpki_cert.specs.declared.profile.Profile.{Profile}
use Rattle.rpki_cert.specs.declared.read.cert_part.CertPart.{CertPart}
use Rattle.rpki_cert.specs.Cert.{CertParts, SpellsCert}
use Rattle.rpki_cert.specs.KnownView.{AreKnown}
use Rattle.rpki_cert.specs.Profile.{HasProfile}
use Rattle.rpki_cert.specs.View.{IsCertWrong}
use Rattle.rpki_crl.specs.Crl.{CrlParts, crl, each_entry, listed}
use Rattle.rpki_c.specs.declared.authority.Authority.{Authority}
use Rattle.rpki_c.specs.declared.authority.Resources.{Resources}
use Rattle.rpki_c.specs.declared.owned.Addresses.{Addresses}
use Rattle.rpki_valid.specs.declared.resource.set.ResourceSet.{ResourceSet}
use Rattle.rpki_valid.specs.declared.staleness.Staleness.TheVariants.{Refused}
use Rattle.rpki_valid.specs.Revocation.{IsListOf}
use Rattle.rpki_valid.specs.Valid.{IsSigned}
use Rattle.rpki_c.specs.declared.times.Moment.{Moment}
use Rattle.rpki_c.specs.Below.{checkers, Then, IsBelow, IsNotBelow}
use Rattle.rpki_c.specs.Certificate.{part_number}
use Rattle.rpki_c.specs.CertificateProfile.{IsRefusedAs, profile_number}
use Rattle.rpki_c.specs.Issued.{IsListRead, IsToldSigned, key_octets}
use Rattle.rpki_c.specs.Made.{IsPossible, IsTimeOf}
use Rattle.rpki_c.specs.Moments.{IsToldOf}
use Rattle.rpki_c.specs.Owned.{HasAddresses, HasNoAddresses, HasNumbers, HasNoNumbers}
use Rattle.rpki_c.specs.Owned.{HasAnchoredAddresses, HasNoAnchoredAddresses, HasAnchoredNumbers, HasNoAnchoredNumbers}
use Rattle.rpki_c.specs.Path.{most_steps, KeepsPath, BeginsPath, HasPathBy}
use Rattle.rpki_c.specs.Resources.{as_entry}
use Rattle.rpki_c.specs.Settling.{settled_entries}
use Rattle.rpki_c.specs.Status.{too_small, too_deep, on_path, other_anchor, content, no_profile, no_manifest}

-- ---- the keys of a path

-- the keys of the path, from that of the trust anchor to the authority's own
abbrev pub keys_of : Authority → List (List ℕ)
keys_of by = take (by.depth + 1) by.keys

-- the keys of the path of what the authority has issued, where that has this one
pub record HasNextKeys (by : Authority) (key : List ℕ) (keys : List (List ℕ)) : Type 0 where
  pub deep : by.depth < most_steps
  pub other : Contains (keys_of by) key → ⊥
  pub placed : keys ≡ set by.keys (by.depth + 1) key

-- 44: the path is as long as one may be. 63: it isn't, and the key is on it already.
abbrev pub HasNoNextKeys : Authority → List ℕ → ℕ → Type 0
HasNoNextKeys by key status =
    ((status ≡ too_deep) × (most_steps ≤ by.depth))
    ⊎ ((status ≡ on_path) × (by.depth < most_steps) × Contains (keys_of by) key)

abbrev pub GivesKeys : Authority → List ℕ → Result (List (List ℕ)) ℕ → Type 0
GivesKeys by key r = MatchResult r (HasNextKeys by key) (HasNoNextKeys by key)

-- ---- the resources of what an authority has issued

-- resources of each kind
pub record Own : Type 0 where
  pub addresses : Addresses
  pub numbers : List Block

-- the same as one set
abbrev pub set_of : Own → ResourceSet
set_of own = record { ipv4 = own.addresses.v4; ipv6 = own.addresses.v6; asn = own.numbers }

-- they are those of the certificate under the authority's
pub record HasOwn (by : Authority) (x : CertParts) (known : KnownView) (own : Own) : Type 0 where
  pub addresses : HasAddresses known x by.ip_blocks.now own.addresses
  pub numbers : HasNumbers known x by.as_blocks.now own.numbers

-- it has no addresses, or it has, and no AS numbers
abbrev pub HasNone : Authority → CertParts → KnownView → ℕ → Type 0
HasNone by x known status =
    HasNoAddresses known x by.ip_blocks.now status
    ⊎ ((a : Addresses) × HasAddresses known x by.ip_blocks.now a × HasNoNumbers known x by.as_blocks.now status)

-- how many entries the caller's two arrays have room for
abbrev pub Rooms : Type 0
Rooms = ℕ × ℕ

-- one of the arrays has no room
abbrev pub AreTooSmall : Rooms → Own → Type 0
AreTooSmall rooms own =
    (rooms.0 < length (settled_entries own.addresses.v4 own.addresses.v6)) ⊎ (rooms.1 < length own.numbers)

-- ---- an authority below another

-- The octets are a certificate, valid below the authority, with the key of none on its path, and these are its parts.
pub record IsMadeUnder (by : Authority) (s : List ℕ) (new : Authority) : Type 0 where
  pub x : CertParts
  pub spelled : SpellsCert x s
  pub known : KnownView
  pub says : AreKnown x.tbs.extensions known
  pub below : IsBelow Ca by x
  pub next : HasNextKeys by (sha1 x.tbs.key.bits.octets) new.keys
  pub own : Own
  pub has : HasOwn by x known own
  pub certificate : new.certificate.octets.now ≡ s
  pub ip_blocks : new.ip_blocks.now ≡ settled_entries own.addresses.v4 own.addresses.v6
  pub as_blocks : new.as_blocks.now ≡ map as_entry own.numbers
  pub moment : new.moment ≡ by.moment
  pub no_digest : new.list_digest ≡ replicate 32 0
  pub depth : new.depth ≡ by.depth + 1
  pub unlisted : new.has_list ≡ false
  pub bare : new.has_manifest ≡ false

-- it is none that may be below the authority; or it is, and its key is on the path, or it has no resources, or they
-- have no room
abbrev pub IsNoneUnder : Authority → CertParts → List ℕ → Rooms → ℕ → Type 0
IsNoneUnder by x s rooms status =
    IsNotBelow Ca by s x status
    ⊎ ((known : KnownView) × AreKnown x.tbs.extensions known × IsBelow Ca by x
    × (HasNoNextKeys by (sha1 x.tbs.key.bits.octets) status
    ⊎ HasNone by x known status
    ⊎ ((own : Own) × HasOwn by x known own × (status ≡ too_small) × AreTooSmall rooms own)))

-- 64 to 79: this part is wrong. Else the octets are a certificate, and the status is as above.
abbrev pub IsNotMadeUnder : Authority → List ℕ → Rooms → ℕ → Type 0
IsNotMadeUnder by s rooms status =
    ((q : CertPart) × (status ≡ part_number q) × IsCertWrong s q)
    ⊎ ((x : CertParts) × SpellsCert x s × IsNoneUnder by x s rooms status)

abbrev pub MakesUnder : Authority → List ℕ → Rooms → Result Authority ℕ → Type 0
MakesUnder by s rooms r = MatchResult r (IsMadeUnder by s) (IsNotMadeUnder by s rooms)

-- 48: the authority has no manifest
abbrev pub IsWithoutManifest : Authority → ℕ → Type 0
IsWithoutManifest by status = (by.has_manifest ≡ false) × (status ≡ no_manifest)

-- Status 0: the authority, which has a manifest, is one above the new one, which is made, and its path leads there.
-- Else it isn't made, and nothing is written.
abbrev pub IsMadeUnderBy : Authority → List ℕ → Rooms → ℕ → Authority → Authority → Type 0
IsMadeUnderBy by s rooms status old new =
    ((status ≡ 0) × (by.has_manifest ≡ true) × IsMadeUnder by s new × KeepsPath by new)
    ⊎ ((IsWithoutManifest by status ⊎ ((by.has_manifest ≡ true) × IsNotMadeUnder by s rooms status)) × (new ≡ old))

-- ---- an authority with its list

-- the authority with the list of the other
abbrev pub with_list : Authority → Authority → Authority
with_list by new = record by {
  revoked_certs = new.revoked_certs;
  files = new.files;
  list_digest = new.list_digest;
  has_list = true;
  has_manifest = false;
}

-- The octets are a revocation list of the authority, which counts at the moment of the path (RFC 5280 6.3.3, RFC 6487
-- 5), and the new one is the authority with its entries, and its digest, by which a manifest lists it (RFC 9286 4.2.1);
-- it has no manifest.
pub record IsMadeWith (by : Authority) (s : List ℕ) (new : Authority) : Type 0 where
  pub list : CrlParts
  pub spelled : crl.spells list s
  pub issuer : CertParts
  pub above : SpellsCert issuer by.certificate.octets.now
  pub at : DateTime
  pub moment : IsTimeOf by.moment at
  pub of : IsListOf checkers Refused issuer.tbs at list
  pub revoked : each_entry.spells (listed list.list.revoked) new.revoked_certs.octets.now
  pub digest : new.list_digest ≡ sha256 s
  pub same : new ≡ with_list by new

-- Status 0: the authority is made, and its path is the same. Else the octets are no such list, as `rpki_crl_issued_by`
-- says, and nothing is written.
abbrev pub IsMadeWithBy : Authority → List ℕ → ℕ → Authority → Authority → Type 0
IsMadeWithBy by s status old new =
    ((status ≡ 0) × IsMadeWith by s new × KeepsPath by new)
    ⊎ ((status ≢ 0) × IsListRead s by.certificate.octets.now by.moment status × (new ≡ old))

-- ---- the authority of a trust anchor

-- Of a certificate, of which these are the octets of the key. 60: the key of the locator is another one (RFC 8630 3).
-- 5: the moment is none. Else the status is that of the certificate's signature by its own key, and of its period.
abbrev pub IsRootTold : CertParts → KnownView → List ℕ → List ℕ → Moment → ℕ → Type 0
IsRootTold x known own key m status =
    ((status ≡ other_anchor) × (key ≢ own))
    ⊎ ((key ≡ own) × (((status ≡ content) × (IsPossible m → ⊥))
    ⊎ ((at : DateTime) × IsTimeOf m at × Then (IsToldSigned x x known) (IsToldOf x.tbs.validity at) status)))

-- resources that are its own
pub record HasAnchored (x : CertParts) (own : Own) : Type 0 where
  pub addresses : HasAnchoredAddresses x own.addresses
  pub numbers : HasAnchoredNumbers x own.numbers

-- The octets are the certificate of a trust anchor with this key, which the key has signed (RFC 8630 3), valid at the
-- moment, and these are its parts.
pub record IsMadeOf (key : List ℕ) (m : Moment) (s : List ℕ) (new : Authority) : Type 0 where
  pub x : CertParts
  pub spelled : SpellsCert x s
  pub known : KnownView
  pub says : AreKnown x.tbs.extensions known
  pub profiled : HasProfile Ta true x.tbs
  pub locator : key ≡ key_octets x s spelled
  pub at : DateTime
  pub time : IsTimeOf m at
  pub signed : IsSigned checkers x.tbs.subject x.tbs.key at x
  pub own : Own
  pub has : HasAnchored x own
  pub certificate : new.certificate.octets.now ≡ s
  pub ip_blocks : new.ip_blocks.now ≡ settled_entries own.addresses.v4 own.addresses.v6
  pub as_blocks : new.as_blocks.now ≡ map as_entry own.numbers
  pub moment : new.moment ≡ m
  pub no_digest : new.list_digest ≡ replicate 32 0
  pub depth : new.depth ≡ 0
  pub keys : new.keys ≡ set (replicate 33 (replicate 20 0)) 0 (sha1 x.tbs.key.bits.octets)
  pub unlisted : new.has_list ≡ false
  pub bare : new.has_manifest ≡ false

-- it has none of addresses, or it has, and none of AS numbers
abbrev pub HasNoneAnchored : CertParts → ℕ → Type 0
HasNoneAnchored x status =
    HasNoAnchoredAddresses x status
    ⊎ ((a : Addresses) × HasAnchoredAddresses x a × HasNoAnchoredNumbers x status)

-- it is of another profile; or it isn't the anchor's; or it is, and has no resources, or they have no room
abbrev pub IsNoneOf : List ℕ → Moment → (x : CertParts) (s : List ℕ) → SpellsCert x s → Rooms → ℕ → Type 0
IsNoneOf key m x s h rooms status =
    IsRefusedAs s Ta true status
    ⊎ ((known : KnownView) × AreKnown x.tbs.extensions known × HasProfile Ta true x.tbs
    × (((status ≢ 0) × IsRootTold x known (key_octets x s h) key m status)
    ⊎ (IsRootTold x known (key_octets x s h) key m 0
    × (HasNoneAnchored x status
    ⊎ ((own : Own) × HasAnchored x own × (status ≡ too_small) × AreTooSmall rooms own)))))

-- 64 to 79: this part is wrong. Else the octets are a certificate, and the status is as above.
abbrev pub IsNotMadeOf : List ℕ → Moment → List ℕ → Rooms → ℕ → Type 0
IsNotMadeOf key m s rooms status =
    ((q : CertPart) × (status ≡ part_number q) × IsCertWrong s q)
    ⊎ ((x : CertParts) × (h : SpellsCert x s) × IsNoneOf key m x s h rooms status)

abbrev pub MakesOf : List ℕ → Moment → List ℕ → Rooms → Result Authority ℕ → Type 0
MakesOf key m s rooms r = MatchResult r (IsMadeOf key m s) (IsNotMadeOf key m s rooms)

-- Status 0: the authority is made, and a path begins there. Else it isn't, and nothing is written.
abbrev pub IsMadeOfAnchor : List ℕ → List ℕ → Moment → Rooms → ℕ → Authority → Authority → Type 0
IsMadeOfAnchor s key m rooms status old new =
    ((status ≡ 0) × IsMadeOf key m s new × BeginsPath key new) ⊎ (IsNotMadeOf key m s rooms status × (new ≡ old))

-- ---- an end entity below an authority

-- The octets are a certificate of the profile, valid below the authority, and these are its resources; so its path
-- leads up to the trust anchor.
pub record IsEndBelow (profile : Profile) (by : Authority) (s : List ℕ) (new : Resources) : Type 0 where
  pub x : CertParts
  pub spelled : SpellsCert x s
  pub known : KnownView
  pub says : AreKnown x.tbs.extensions known
  pub below : IsBelow profile by x
  pub own : Own
  pub has : HasOwn by x known own
  pub ip_blocks : new.ip_blocks.now ≡ settled_entries own.addresses.v4 own.addresses.v6
  pub as_blocks : new.as_blocks.now ≡ map as_entry own.numbers
  pub path : HasPathBy profile by x (set_of own)

-- it is none that may be below the authority; or it is, and it has no resources, or they have no room
abbrev pub IsNoEnd : Profile → Authority → CertParts → List ℕ → Rooms → ℕ → Type 0
IsNoEnd profile by x s rooms status =
    IsNotBelow profile by s x status
    ⊎ ((known : KnownView) × AreKnown x.tbs.extensions known × IsBelow profile by x
    × (HasNone by x known status
    ⊎ ((own : Own) × HasOwn by x known own × (status ≡ too_small) × AreTooSmall rooms own)))

-- 64 to 79: this part is wrong. Else the octets are a certificate, and the status is as above.
abbrev pub IsNoEndBelow : Profile → Authority → List ℕ → Rooms → ℕ → Type 0
IsNoEndBelow profile by s rooms status =
    ((q : CertPart) × (status ≡ part_number q) × IsCertWrong s q)
    ⊎ ((x : CertParts) × SpellsCert x s × IsNoEnd profile by x s rooms status)

abbrev pub FindsEnd : Profile → Authority → List ℕ → Rooms → Result Resources ℕ → Type 0
FindsEnd profile by s rooms r = MatchResult r (IsEndBelow profile by s) (IsNoEndBelow profile by s rooms)

-- the profiles of end entities: 2, 3 and 4
abbrev pub is_end_profile : Profile → Type 0
is_end_profile Ta = ⊥
is_end_profile Ca = ⊥
is_end_profile Ee = Unit {0}
is_end_profile Router = Unit {0}
is_end_profile DetachedEe = Unit {0}

-- Of the profile of this number. 12: none of an end entity has it. 0: the certificate is valid below the authority,
-- which has a manifest, and its resources are written. Else it isn't, and nothing is written.
abbrev pub IsEndRead : Authority → List ℕ → ℕ → Rooms → ℕ → Resources → Resources → Type 0
IsEndRead by s number rooms status old new =
    ((status ≡ no_profile) × ((profile : Profile) → is_end_profile profile → number ≢ profile_number profile)
    × (new ≡ old))
    ⊎ ((profile : Profile) × is_end_profile profile × (number ≡ profile_number profile)
    × (((status ≡ 0) × (by.has_manifest ≡ true) × IsEndBelow profile by s new)
    ⊎ ((IsWithoutManifest by status ⊎ ((by.has_manifest ≡ true) × IsNoEndBelow profile by s rooms status))
    × (new ≡ old))))
