-- The extensions of each kind of certificate that is issued, in the order in which they are written (RFC 6487 4.8, RFC
-- 8209 3.1.3, RFC 8630 2.3, RFC 9323 2).
use Rattle.std.specs.Prelude.{◌<◌, ◌^◌, ℕ, List, [], ◌∷◌, ◌++◌, length, Option, Some, None, option_map}
use Rattle.rpki_der.specs.Listed.{listed_octets}
use Rattle.rpki_der.specs.OptionalPart.{OfPart}
use Rattle.rpki.specs.ExtensionValue.{ExtensionParts, written_extension}
use Rattle.rpki_resources.specs.declared.resources.IpResources.{IpResources}
use Rattle.rpki_resources.specs.declared.resources.AsResources.{AsResources}
use Rattle.rpki_resources.specs.EncodedResources.{ip_octets, as_identifiers_octets, CanWriteIp, CanWriteAs}
use Rattle.rpki_cert.specs.declared.extension.key_usage.KeyUsage.{KeyUsage}
use Rattle.rpki_cert.specs.declared.profile.Profile.{Profile}
use Rattle.rpki_issue.specs.declared.kind.Issuance.{Issuance}
use Rattle.rpki_issue.specs.declared.kind.CertKind.{CertKind}
use Rattle.rpki_issue.specs.declared.kind.CertKind.TheVariants.{Anchor, Authority, Object, Detached, Router}
use Rattle.rpki_issue.specs.declared.kind.CertExtensions.{CertExtensions}
use Rattle.rpki_issue.specs.Contents.{CanPoint, CanPublish, CanState}
use Rattle.rpki_issue.specs.Rows.{constraints_extension, subject_extension, authority_extension, usage_extension}
use Rattle.rpki_issue.specs.Rows.{purposes_extension, points_extension, issuers_extension, repository_extension}
use Rattle.rpki_issue.specs.Rows.{object_extension, policies_extension, addresses_extension, numbers_extension}

-- ---- kinds

abbrev pub profile_of : CertKind → Profile
profile_of (Anchor r) = Profile.Ta
profile_of (Authority i r) = Profile.Ca
profile_of (Object i uri) = Profile.Ee
profile_of (Detached i) = Profile.DetachedEe
profile_of (Router i) = Profile.Router

abbrev pub usage_of : CertKind → KeyUsage
usage_of (Anchor r) = KeyUsage.Ca
usage_of (Authority i r) = KeyUsage.Ca
usage_of (Object i uri) = KeyUsage.Ee
usage_of (Detached i) = KeyUsage.Ee
usage_of (Router i) = KeyUsage.Ee

-- ---- the parts of the list, each of which a kind has or hasn't

-- an authority's basic constraints
abbrev pub constraints_part : CertKind → List ExtensionParts
constraints_part (Anchor r) = constraints_extension ∷ []
constraints_part (Authority i r) = constraints_extension ∷ []
constraints_part (Object i uri) = []
constraints_part (Detached i) = []
constraints_part (Router i) = []

-- what the issuer says of itself, which a trust anchor's certificate lacks
abbrev pub issuer_part : (Issuance → ExtensionParts) → CertKind → List ExtensionParts
issuer_part f (Anchor r) = []
issuer_part f (Authority i r) = f i ∷ []
issuer_part f (Object i uri) = f i ∷ []
issuer_part f (Detached i) = f i ∷ []
issuer_part f (Router i) = f i ∷ []

abbrev pub authority_part : CertKind → List ExtensionParts
authority_part = issuer_part (λ i. authority_extension i.key)

abbrev pub points_part : CertKind → List ExtensionParts
points_part = issuer_part (λ i. points_extension i.list.now)

abbrev pub issuers_part : CertKind → List ExtensionParts
issuers_part = issuer_part (λ i. issuers_extension i.certificate.now)

-- a router's purpose
abbrev pub purposes_part : CertKind → List ExtensionParts
purposes_part (Anchor r) = []
purposes_part (Authority i r) = []
purposes_part (Object i uri) = []
purposes_part (Detached i) = []
purposes_part (Router i) = purposes_extension ∷ []

-- where an authority publishes, or where the signed object is
abbrev pub access_part : CertKind → List ExtensionParts
access_part (Anchor r) = repository_extension r ∷ []
access_part (Authority i r) = repository_extension r ∷ []
access_part (Object i uri) = object_extension uri.now ∷ []
access_part (Detached i) = []
access_part (Router i) = []

-- resources of these octets
abbrev pub addresses_part : Option (List ℕ) → List ExtensionParts
addresses_part None = []
addresses_part (Some octets) = addresses_extension octets ∷ []

abbrev pub numbers_part : Option (List ℕ) → List ExtensionParts
numbers_part None = []
numbers_part (Some octets) = numbers_extension octets ∷ []

-- ---- all of them

abbrev pub addresses_of : CertExtensions → Option (List ℕ)
addresses_of x = option_map (λ r. ip_octets r.now) x.ip

abbrev pub numbers_of : CertExtensions → Option (List ℕ)
numbers_of x = option_map (λ r. as_identifiers_octets r.now) x.asn

abbrev pub practices_of : CertExtensions → Option (List ℕ)
practices_of x = option_map (λ uri. uri.now) x.practices

abbrev pub own_parts : CertExtensions → List ExtensionParts
own_parts x =
    constraints_part x.kind ++ subject_extension x.subject_key ∷ [] ++ authority_part x.kind
    ++ usage_extension (usage_of x.kind) ∷ [] ++ purposes_part x.kind

abbrev pub pointing_parts : CertExtensions → List ExtensionParts
pointing_parts x =
    points_part x.kind ++ issuers_part x.kind ++ access_part x.kind ++ policies_extension (practices_of x) ∷ []

abbrev pub last_parts : CertExtensions → List ExtensionParts
last_parts x = addresses_part (addresses_of x) ++ numbers_part (numbers_of x)

abbrev pub extensions_of : CertExtensions → List ExtensionParts
extensions_of x = own_parts x ++ pointing_parts x ++ last_parts x

-- what is written of a list
abbrev pub extensions_listed : List ExtensionParts → List ℕ
extensions_listed xs = listed_octets written_extension xs

-- ---- URIs that are read back

abbrev pub IsReachable : Issuance → Type 0
IsReachable i = CanPoint i.list.now × CanPoint i.certificate.now

abbrev pub HasUris : CertKind → Type 0
HasUris (Anchor r) = CanPublish r
HasUris (Authority i r) = IsReachable i × CanPublish r
HasUris (Object i uri) = IsReachable i × CanPoint uri.now
HasUris (Detached i) = IsReachable i
HasUris (Router i) = IsReachable i

pub record AreUris (x : CertExtensions) : Type 0 where
  pub kind : HasUris x.kind
  pub practices : CanState (practices_of x)

-- ---- resources that can be written, in fewer than 2^31 octets

pub record CanHoldIp (x : IpResources) : Type 0 where
  pub legal : CanWriteIp x
  pub few : length (ip_octets x) < 2 ^ 31

pub record CanHoldAs (x : AsResources) : Type 0 where
  pub legal : CanWriteAs x
  pub few : length (as_identifiers_octets x) < 2 ^ 31

pub record CanHold (x : CertExtensions) : Type 0 where
  pub addresses : OfPart CanHoldIp (option_map (λ r. r.now) x.ip)
  pub numbers : OfPart CanHoldAs (option_map (λ r. r.now) x.asn)
