-- The resources that certificates have, down a path of authorities (RFC 6487 7.2, RFC 8360 4.2.4).
use Rattle.std.specs.Prelude.{◌≡◌, ◌⊎◌, true, List, Option, Some, None, IsTrue, Result, MatchResult}
use Rattle.rpki.specs.ExtensionValue.{ExtensionParts}
use Rattle.rpki.specs.declared.repository.error.ValidationError.{ValidationError}
use Rattle.rpki_resources.specs.declared.block.Block.{Block}
use Rattle.rpki_resources.specs.declared.choice.ResourcesChoice.{ResourcesChoice}
use Rattle.rpki_resources.specs.declared.choice.ResourcesChoice.TheVariants.{Missing}
use Rattle.rpki_resources.specs.declared.resources.IpResources.{IpResources}
use Rattle.rpki_resources.specs.declared.resources.AsResources.{AsResources}
use Rattle.rpki_resources.specs.declared.choice_view.ChoiceView.{ChoiceView}
use Rattle.rpki_resources.specs.declared.ip_view.IpResourcesView.{IpResourcesView}
use Rattle.rpki_resources.specs.declared.settlement.SettleError.{SettleError}
use Rattle.rpki_resources.specs.declared.settlement.SettleError.TheVariants.{Overclaim as Overclaims, Inherits}
use Rattle.rpki_resources.specs.declared.settlement.SettleError.TheVariants.{OutOfMemory}
use Rattle.rpki_resources.specs.Blocks.{IsSubset}
use Rattle.rpki_resources.specs.Equal.{same_blocks}
use Rattle.rpki_resources.specs.Extension.{SpellsIpResources, SpellsAsResources}
use Rattle.rpki_resources.specs.Kept.{AreIpResourcesOf, AreAsResourcesOf, ListsBlocks}
use Rattle.rpki_resources.specs.Settled.{IsSettled, IsTrimmed, IsAnchored}
use Rattle.rpki_cert.specs.declared.extension.policy.Overclaim.{Overclaim}
use Rattle.rpki_cert.specs.declared.extension.policy.Overclaim.TheVariants.{Refuse, Trim}
use Rattle.rpki_valid.specs.declared.resource.claim.Claim.{Claim}
use Rattle.rpki_valid.specs.declared.resource.set.ResourceSet.{ResourceSet}
use Rattle.rpki_cert.specs.Known.{certificate_policies, Says, HasExtension, is_memory}
use Rattle.rpki_cert.specs.ExtensionContent.{SpellsPolicies}
use Rattle.rpki_cert.specs.ResourceExtensions.{addresses_of, numbers_of}
use Rattle.rpki_valid.specs.Valid.{HasReason}
use Rattle.rpki_valid.specs.ErrorTexts.{overclaim_text}

-- ---- what a certificate claims

abbrev pub no_addresses : IpResources
no_addresses = record { v4 = Missing; v6 = Missing }

abbrev pub no_numbers : AsResources
no_numbers = record { numbers = Missing }

-- what is kept says what was read in place; where no extension is there, no kind is named
abbrev pub AreAddressesOf : IpResources → Option IpResourcesView → Type 0
AreAddressesOf v None = v ≡ no_addresses
AreAddressesOf v (Some x) = AreIpResourcesOf v x

abbrev pub AreNumbersOf : AsResources → Option ChoiceView → Type 0
AreNumbersOf v None = v ≡ no_numbers
AreNumbersOf v (Some x) = AreAsResourcesOf v x

-- blocks are listed; to keep anything else takes no memory
abbrev pub ListsAddresses : Option IpResourcesView → Type 0
ListsAddresses None = ⊥
ListsAddresses (Some x) = ListsBlocks x.v4 ⊎ ListsBlocks x.v6

abbrev pub ListsNumbers : Option ChoiceView → Type 0
ListsNumbers None = ⊥
ListsNumbers (Some x) = ListsBlocks x

-- the extensions say these resources
pub record IsClaim (xs : List ExtensionParts) (c : Claim) : Type 0 where
  pub addresses : (v : Option IpResourcesView) × Says true SpellsIpResources (addresses_of xs) v
      × AreAddressesOf c.addresses v
  pub numbers : (v : Option ChoiceView) × Says true SpellsAsResources (numbers_of xs) v × AreNumbersOf c.numbers v

-- these, and no others
abbrev pub IsOnlyClaim : List ExtensionParts → Claim → Type 0
IsOnlyClaim xs c = IsClaim xs c × ((d : Claim) → IsClaim xs d → d ≡ c)

-- ---- what is settled, of each kind

-- of one kind, as the policy says
abbrev pub IsSettledBy : Overclaim → ResourcesChoice → List Block → List Block → Type 0
IsSettledBy Refuse = IsSettled
IsSettledBy Trim = IsTrimmed

-- of each kind, under the issuer's
pub record AreSettledBy (policy : Overclaim) (c : Claim) (issuer subject : ResourceSet) : Type 0 where
  pub ipv4 : IsSettledBy policy c.addresses.v4 issuer.ipv4 subject.ipv4
  pub ipv6 : IsSettledBy policy c.addresses.v6 issuer.ipv6 subject.ipv6
  pub asn : IsSettledBy policy c.numbers.numbers issuer.asn subject.asn

-- of each kind, of a trust anchor
pub record AreAnchored (c : Claim) (own : ResourceSet) : Type 0 where
  pub ipv4 : IsAnchored c.addresses.v4 own.ipv4
  pub ipv6 : IsAnchored c.addresses.v6 own.ipv6
  pub asn : IsAnchored c.numbers.numbers own.asn

-- of each kind, the numbers of the one are numbers of the other
pub record AreWithin (subject issuer : ResourceSet) : Type 0 where
  pub ipv4 : IsSubset subject.ipv4 issuer.ipv4
  pub ipv6 : IsSubset subject.ipv6 issuer.ipv6
  pub asn : IsSubset subject.asn issuer.asn

-- of each kind, the same numbers
pub record AreSameSets (a b : ResourceSet) : Type 0 where
  pub ipv4 : IsTrue (same_blocks a.ipv4 b.ipv4)
  pub ipv6 : IsTrue (same_blocks a.ipv6 b.ipv6)
  pub asn : IsTrue (same_blocks a.asn b.asn)

-- why nothing is settled: the certificate claims what its issuer doesn't have; or allocation failed
abbrev pub IsUnsettled : (ResourceSet → Type 0) → SettleError → Type 0
IsUnsettled S Overclaims = (x : ResourceSet) → S x → ⊥
IsUnsettled S Inherits = ⊥
IsUnsettled S OutOfMemory = Unit {0}

abbrev pub IsKindUnsettled : (List Block → Type 0) → SettleError → Type 0
IsKindUnsettled S Overclaims = (x : List Block) → S x → ⊥
IsKindUnsettled S Inherits = ⊥
IsKindUnsettled S OutOfMemory = Unit {0}

-- why a trust anchor has nothing: it claims resources of an issuer; or allocation failed
abbrev pub IsUnanchored : Claim → SettleError → Type 0
IsUnanchored c Overclaims = ⊥
IsUnanchored c Inherits = (x : ResourceSet) → AreAnchored c x → ⊥
IsUnanchored c OutOfMemory = Unit {0}

-- ---- the resources of a certificate

-- under those of its issuer, by its own policy
pub record HasResources (xs : List ExtensionParts) (issuer subject : ResourceSet) : Type 0 where
  pub policy : Overclaim
  pub says : HasExtension certificate_policies true SpellsPolicies xs (Some policy)
  pub claim : Claim
  pub claimed : IsClaim xs claim
  pub settled : AreSettledBy policy claim issuer subject

-- of a trust anchor
pub record HasOwnResources (xs : List ExtensionParts) (own : ResourceSet) : Type 0 where
  pub claim : Claim
  pub claimed : IsClaim xs claim
  pub anchored : AreAnchored claim own

-- ---- the errors

-- allocation failed
abbrev pub IsOut : ValidationError → Type 0
IsOut e = IsTrue (is_memory e)

-- the error of a certificate that claims what its issuer doesn't have
abbrev pub IsOverclaimed : ValidationError → Type 0
IsOverclaimed = HasReason overclaim_text

-- the certificate has no resources under these of its issuer, and the error says so; or allocation failed
abbrev pub HasNoResources : List ExtensionParts → ResourceSet → ValidationError → Type 0
HasNoResources xs issuer e =
    IsOut e ⊎ (((x : ResourceSet) → HasResources xs issuer x → ⊥) × IsOverclaimed e)

abbrev pub SettlesUnder : List ExtensionParts → ResourceSet → Result ResourceSet ValidationError → Type 0
SettlesUnder xs issuer r = MatchResult r (HasResources xs issuer) (HasNoResources xs issuer)

abbrev pub SettlesOwn : List ExtensionParts → Result ResourceSet ValidationError → Type 0
SettlesOwn xs r = MatchResult r (HasOwnResources xs) IsOut
