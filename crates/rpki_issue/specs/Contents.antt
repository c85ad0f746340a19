-- What is written of the contents of the extensions of a certificate (RFC 5280 4.2, RFC 6487 4.8).
use Rattle.std.specs.Prelude.{◌≡◌, ◌<◌, length, ℕ, true, false, List, [], ◌∷◌, ◌++◌, Option, Some, None, map}
use Rattle.std.specs.Prelude.{option_map}
use Rattle.std.specs.Str.{IsAscii}
use Rattle.rpki_der.specs.Prelude.{sequence, boolean, bit_string, oid, octet_string, ia5_string, context_6, tlv}
use Rattle.rpki_der.specs.Prelude.{boolean_contents, SpellsSome}
use Rattle.rpki_der.specs.Listed.{listed_octets}
use Rattle.rpki_der.specs.OptionalPart.{optional_octets, OfPart}
use Rattle.rpki_text.specs.RsyncText.{rsync_refusal}
use Rattle.rpki_text.specs.HttpsText.{https_refusal}
use Rattle.rpki_x509.specs.Tag.{zero_tag}
use Rattle.rpki_cert.specs.declared.extension.key_usage.KeyUsage.{KeyUsage}
use Rattle.rpki_cert.specs.declared.extension.key_usage.KeyUsage.TheVariants.{Ca, Ee}
use Rattle.rpki_cert.specs.Access.{SpellsDescription, ca_repository, rpki_manifest, rpki_notify}
use Rattle.rpki_cert.specs.ExtensionContent.{router_purpose, statement_name}
use Rattle.rpki_issue.specs.declared.kind.Repository.{Repository}

-- cA is TRUE
abbrev pub constraints_octets : List ℕ
constraints_octets = tlv sequence true (tlv boolean false (boolean_contents true))

-- the bits of a use
abbrev pub usage_contents : KeyUsage → List ℕ
usage_contents Ca = 1 ∷ 6 ∷ []
usage_contents Ee = 7 ∷ 128 ∷ []

abbrev pub usage_octets : KeyUsage → List ℕ
usage_octets u = tlv bit_string false (usage_contents u)

-- the purpose of a router
abbrev pub purposes_octets : List ℕ
purposes_octets = tlv sequence true (tlv oid false router_purpose)

-- an identifier of the subject's key; of the issuer's
abbrev pub subject_octets : List ℕ → List ℕ
subject_octets k = tlv octet_string false k

abbrev pub authority_octets : List ℕ → List ℕ
authority_octets k = tlv sequence true (tlv zero_tag false k)

-- 1.3.6.1.5.5.7.14.2
abbrev pub rpki_policy : List ℕ
rpki_policy = 43 ∷ 6 ∷ 1 ∷ 5 ∷ 5 ∷ 7 ∷ 14 ∷ 2 ∷ []

-- one qualifier, where the statement of practices is
abbrev pub qualifier_contents : List ℕ → List ℕ
qualifier_contents uri = tlv oid false statement_name ++ tlv ia5_string false uri

abbrev pub qualifiers_octets : List ℕ → List ℕ
qualifiers_octets uri = tlv sequence true (tlv sequence true (qualifier_contents uri))

-- one policy, with qualifiers or without
abbrev pub policy_contents : Option (List ℕ) → List ℕ
policy_contents practices = tlv oid false rpki_policy ++ optional_octets qualifiers_octets practices

abbrev pub policies_octets : Option (List ℕ) → List ℕ
policies_octets practices = tlv sequence true (tlv sequence true (policy_contents practices))

-- a URI as a general name
abbrev pub uri_octets : List ℕ → List ℕ
uri_octets uri = tlv context_6 false uri

abbrev pub points_octets : List ℕ → List ℕ
points_octets uri = tlv sequence true (tlv sequence true (tlv zero_tag true (tlv zero_tag true (uri_octets uri))))

-- an access description: a method, and a URI
abbrev pub description_contents : List ℕ → List ℕ → List ℕ
description_contents method uri = tlv oid false method ++ uri_octets uri

abbrev pub description_octets : List ℕ → List ℕ → List ℕ
description_octets method uri = tlv sequence true (description_contents method uri)

-- descriptions, in sequence
abbrev pub described_octets : List (List ℕ × List ℕ) → List ℕ
described_octets ds = listed_octets (λ d. description_octets d.0 d.1) ds

abbrev pub access_octets : List (List ℕ × List ℕ) → List ℕ
access_octets ds = tlv sequence true (described_octets ds)

-- what is read of a description
abbrev pub as_read : List ℕ × List ℕ → List ℕ × Option (List ℕ)
as_read d = (d.0, Some d.1)

-- where changes are told; where an authority publishes
abbrev pub notification_access : Option (List ℕ) → List (List ℕ × List ℕ)
notification_access None = []
notification_access (Some uri) = (rpki_notify, uri) ∷ []

abbrev pub notification_of : Repository → Option (List ℕ)
notification_of x = option_map (λ uri. uri.now) x.notification

abbrev pub repository_access : Repository → List (List ℕ × List ℕ)
repository_access x =
    (ca_repository, x.base.now) ∷ (rpki_manifest, x.manifest.now) ∷ notification_access (notification_of x)

-- An rsync URI that is read back: its text has fewer than 3,080 octets, as each that was read has.
pub record CanPoint (uri : List ℕ) : Type 0 where
  pub legal : rsync_refusal uri ≡ None
  pub ascii : IsAscii uri
  pub few : length uri < 3080

-- an https URI of so few octets
pub record CanTell (uri : List ℕ) : Type 0 where
  pub legal : https_refusal uri ≡ None
  pub ascii : IsAscii uri
  pub few : length uri < 3080

abbrev pub CanState : Option (List ℕ) → Type 0
CanState = OfPart CanTell

-- each URI of a repository is one of these
pub record CanPublish (x : Repository) : Type 0 where
  pub base : CanPoint x.base.now
  pub manifest : CanPoint x.manifest.now
  pub notification : OfPart CanTell (notification_of x)

-- these descriptions are in the octets that are written of them
abbrev pub SpellsListed : List (List ℕ × List ℕ) → Type 0
SpellsListed ds = SpellsSome SpellsDescription (map as_read ds) (described_octets ds)
