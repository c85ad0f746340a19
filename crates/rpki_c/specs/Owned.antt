-- The resources that a certificate has under those of an authority of a path (RFC 6487 7.2, RFC 8360 4.2.4).
use Rattle.std.specs.Prelude.{◌≡◌, ◌⊎◌, ℕ, true, List, None, Some, Result, MatchResult}
use Rattle.rpki_resources.specs.declared.block.Block.{Block}
use Rattle.rpki_resources.specs.declared.choice.ResourcesChoice.{ResourcesChoice}
use Rattle.rpki_resources.specs.declared.resources.IpResources.{IpResources}
use Rattle.rpki_resources.specs.Blocks.{AreNumbersOf}
use Rattle.rpki_resources.specs.Extension.{SpellsIpResources, SpellsAsResources}
use Rattle.rpki_resources.specs.Settled.{IsAnchored}
use Rattle.rpki_cert.specs.declared.extension.known_view.KnownView.{KnownView}
use Rattle.rpki_cert.specs.declared.extension.policy.Overclaim.{Overclaim}
use Rattle.rpki_cert.specs.Cert.{CertParts}
use Rattle.rpki_cert.specs.Known.{SaysNone}
use Rattle.rpki_cert.specs.ResourceExtensions.{addresses_of, numbers_of}
use Rattle.rpki_c.specs.declared.as_blocks.AsEntry.{AsEntry}
use Rattle.rpki_c.specs.declared.ip_blocks.IpEntry.{IpEntry}
use Rattle.rpki_c.specs.declared.owned.Addresses.{Addresses}
use Rattle.rpki_c.specs.Settling.{IsSettledBy, IsOverclaimed, AreHeld, as_blocks, are_untold, are_as_untold}
use Rattle.rpki_c.specs.Settling.{ClaimsAddresses, ClaimsNumbers}
use Rattle.rpki_c.specs.Status.{no_answer, no_policies, wrong_resources, other_resources, out_of_memory}

-- ---- what is settled of a claim

-- of addresses, under those that the entries say
pub record AreOwned (policy : Overclaim) (claim : IpResources) (entries : List IpEntry) (own : Addresses) : Type 0 where
  pub over4 : List Block
  pub over6 : List Block
  pub held : AreHeld entries over4 over6
  pub settled4 : IsSettledBy policy claim.v4 over4 own.v4
  pub settled6 : IsSettledBy policy claim.v6 over6 own.v6

-- 58: the issuer doesn't have what is claimed of a family. 7: allocation failed.
abbrev pub AreNotOwned : Overclaim → IpResources → List IpEntry → ℕ → Type 0
AreNotOwned policy claim entries status =
    ((v4 v6 : List Block) × AreHeld entries v4 v6 × (status ≡ other_resources)
    × (IsOverclaimed policy claim.v4 v4 ⊎ IsOverclaimed policy claim.v6 v6))
    ⊎ (status ≡ out_of_memory)

-- of AS numbers
pub record AreAsOwned (policy : Overclaim) (claim : ResourcesChoice) (entries : List AsEntry) (own : List Block)
    : Type 0 where
  pub over : List Block
  pub held : AreNumbersOf (as_blocks entries) over
  pub settled : IsSettledBy policy claim over own

abbrev pub AreAsNotOwned : Overclaim → ResourcesChoice → List AsEntry → ℕ → Type 0
AreAsNotOwned policy claim entries status =
    ((over : List Block) × AreNumbersOf (as_blocks entries) over × (status ≡ other_resources)
    × IsOverclaimed policy claim over)
    ⊎ (status ≡ out_of_memory)

-- ---- what a certificate has

-- what its extensions claim, settled by its policy (RFC 6487 4.8.9, 4.8.10)
pub record HasAddresses (known : KnownView) (x : CertParts) (entries : List IpEntry) (own : Addresses) : Type 0 where
  pub policy : Overclaim
  pub by : known.overclaim ≡ Some policy
  pub claim : IpResources
  pub claimed : ClaimsAddresses x claim
  pub owned : AreOwned policy claim entries own

-- 10: an entry says that addresses are those of an issuer. 108: there is no policy. 116: the extension is not critical,
-- or not in canonical form. Else as above.
abbrev pub HasNoAddresses : KnownView → CertParts → List IpEntry → ℕ → Type 0
HasNoAddresses known x entries status =
    ((are_untold entries ≡ true) × (status ≡ no_answer))
    ⊎ ((known.overclaim ≡ None) × (status ≡ no_policies))
    ⊎ (SaysNone true SpellsIpResources (addresses_of x.tbs.extensions) × (status ≡ wrong_resources))
    ⊎ ((policy : Overclaim) × (claim : IpResources) × (known.overclaim ≡ Some policy) × ClaimsAddresses x claim
    × AreNotOwned policy claim entries status)

abbrev pub GivesAddresses : KnownView → CertParts → List IpEntry → Result Addresses ℕ → Type 0
GivesAddresses known x entries r = MatchResult r (HasAddresses known x entries) (HasNoAddresses known x entries)

-- the same of AS numbers (RFC 6487 4.8.11)
pub record HasNumbers (known : KnownView) (x : CertParts) (entries : List AsEntry) (own : List Block) : Type 0 where
  pub policy : Overclaim
  pub by : known.overclaim ≡ Some policy
  pub claim : ResourcesChoice
  pub claimed : ClaimsNumbers x claim
  pub owned : AreAsOwned policy claim entries own

abbrev pub HasNoNumbers : KnownView → CertParts → List AsEntry → ℕ → Type 0
HasNoNumbers known x entries status =
    ((are_as_untold entries ≡ true) × (status ≡ no_answer))
    ⊎ ((known.overclaim ≡ None) × (status ≡ no_policies))
    ⊎ (SaysNone true SpellsAsResources (numbers_of x.tbs.extensions) × (status ≡ wrong_resources))
    ⊎ ((policy : Overclaim) × (claim : ResourcesChoice) × (known.overclaim ≡ Some policy) × ClaimsNumbers x claim
    × AreAsNotOwned policy claim entries status)

abbrev pub GivesNumbers : KnownView → CertParts → List AsEntry → Result (List Block) ℕ → Type 0
GivesNumbers known x entries r = MatchResult r (HasNumbers known x entries) (HasNoNumbers known x entries)

-- ---- what a trust anchor has (RFC 6487 7.2, RFC 8630 2.3)

-- it is the issuer's, and a trust anchor has none
abbrev pub IsOfIssuer : ResourcesChoice → ℕ → Type 0
IsOfIssuer v status = (status ≡ other_resources) × (v ≡ ResourcesChoice.Inherit)

-- 58: what is claimed is the issuer's. 7: allocation failed.
abbrev pub AreNotAnchored : ResourcesChoice → ℕ → Type 0
AreNotAnchored v status = IsOfIssuer v status ⊎ (status ≡ out_of_memory)

-- what its extensions list of addresses
pub record HasAnchoredAddresses (x : CertParts) (own : Addresses) : Type 0 where
  pub claim : IpResources
  pub claimed : ClaimsAddresses x claim
  pub in_v4 : IsAnchored claim.v4 own.v4
  pub in_v6 : IsAnchored claim.v6 own.v6

abbrev pub HasNoAnchoredAddresses : CertParts → ℕ → Type 0
HasNoAnchoredAddresses x status =
    (SaysNone true SpellsIpResources (addresses_of x.tbs.extensions) × (status ≡ wrong_resources))
    ⊎ ((claim : IpResources) × ClaimsAddresses x claim
    × (AreNotAnchored claim.v4 status ⊎ AreNotAnchored claim.v6 status))

-- of AS numbers
pub record HasAnchoredNumbers (x : CertParts) (own : List Block) : Type 0 where
  pub claim : ResourcesChoice
  pub claimed : ClaimsNumbers x claim
  pub anchored : IsAnchored claim own

abbrev pub HasNoAnchoredNumbers : CertParts → ℕ → Type 0
HasNoAnchoredNumbers x status =
    (SaysNone true SpellsAsResources (numbers_of x.tbs.extensions) × (status ≡ wrong_resources))
    ⊎ ((claim : ResourcesChoice) × ClaimsNumbers x claim × AreNotAnchored claim status)
