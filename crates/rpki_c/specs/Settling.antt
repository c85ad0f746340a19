-- Resources that are settled under those of an issuer.
use Rattle.std.specs.Prelude.{◌||◌, Bool, false, List, [], ◌∷◌, nat_eq, if◌then◌else◌, map, ◌≡◌, ◌⊎◌, ◌++◌, ℕ, true}
use Rattle.std.specs.Prelude.{Option, Some, None}
use Rattle.rpki_resources.specs.declared.family.AddressFamily.{AddressFamily}
use Rattle.rpki_resources.specs.declared.block.Block.{Block}
use Rattle.rpki_c.specs.declared.ip_blocks.IpEntry.{IpEntry}
use Rattle.rpki_c.specs.declared.as_blocks.AsEntry.{AsEntry}
use Rattle.rpki_c.specs.Resources.{numbers_of, as_numbers_of, family_number, ip_entry, as_entry}
use Rattle.rpki_resources.specs.declared.family.AddressFamily.TheVariants.{Ipv4, Ipv6}
use Rattle.rpki_resources.specs.declared.choice.ResourcesChoice.{ResourcesChoice}
use Rattle.rpki_resources.specs.declared.resources.IpResources.{IpResources}
use Rattle.rpki_resources.specs.declared.kind.ResourceKind.TheVariants.{AsNumbers}
use Rattle.rpki_resources.specs.Blocks.{AreNumbersOf}
use Rattle.rpki_resources.specs.Encoded.{AreBlocksOf}
use Rattle.rpki_cert.specs.declared.extension.policy.Overclaim.{Overclaim}
use Rattle.rpki_valid.specs.ResourceSet.{IsSettledBy as IsSettledAs}
use Rattle.rpki_c.specs.Filled.{IsFilled, IsUnfilled}
use Rattle.rpki_c.specs.Policy.{HasPolicy, HasNoPolicy}
use Rattle.rpki_c.specs.Status.{out_of_memory, other_resources, no_answer, wrong_resources}
use Rattle.rpki_resources.specs.declared.choice_view.ChoiceView.{ChoiceView}
use Rattle.rpki_resources.specs.declared.ip_view.IpResourcesView.{IpResourcesView}
use Rattle.rpki_resources.specs.Extension.{SpellsIpResources, SpellsAsResources}
use Rattle.rpki_resources.specs.Kept.{IsChoiceOf, AreIpResourcesOf}
use Rattle.rpki_cert.specs.Cert.{CertParts}
use Rattle.rpki_cert.specs.Known.{Says, SaysNone}
use Rattle.rpki_cert.specs.ResourceExtensions.{addresses_of, numbers_of as numbers_in}

-- ---- The resources of an issuer, as blocks in the caller's array say them

-- an entry says that resources are those of an issuer, so that the array doesn't tell which they are
abbrev pub are_untold : List IpEntry → Bool
are_untold [] = false
are_untold (p ∷ ps) = p.is_inherited || are_untold ps

abbrev pub are_as_untold : List AsEntry → Bool
are_as_untold [] = false
are_as_untold (p ∷ ps) = p.is_inherited || are_as_untold ps

-- the block of an entry, where it is of the family, in front of others
abbrev pub with_entry : AddressFamily → IpEntry → List Block → List Block
with_entry family p bs = if nat_eq p.family (family_number family) then numbers_of family p ∷ bs else bs

-- the blocks of the family among the entries, in any order; a block whose lowest address is above its highest is empty
abbrev pub family_blocks : AddressFamily → List IpEntry → List Block
family_blocks family [] = []
family_blocks family (p ∷ ps) = with_entry family p (family_blocks family ps)

-- the blocks of AS numbers
abbrev pub as_blocks : List AsEntry → List Block
as_blocks ps = map as_numbers_of ps

-- ---- What a status says of resources that are settled under those of an issuer (RFC 6487 7.2, RFC 8360 4.2.4)

-- of one kind: what is claimed, which the issuer has to have (RFC 6487 7.2); or what of it the issuer has (RFC 8360
-- 4.2.4.4)
abbrev pub IsSettledBy : Overclaim → ResourcesChoice → List Block → List Block → Type 0
IsSettledBy = IsSettledAs

-- nothing is settled
abbrev pub IsOverclaimed : Overclaim → ResourcesChoice → List Block → Type 0
IsOverclaimed policy choice issuer = (subject : List Block) → IsSettledBy policy choice issuer subject → ⊥

-- ---- addresses

-- the addresses of both families that the issuer has, in canonical form
pub record AreHeld (entries : List IpEntry) (v4 v6 : List Block) : Type 0 where
  pub in_v4 : AreNumbersOf (family_blocks Ipv4 entries) v4
  pub in_v6 : AreNumbersOf (family_blocks Ipv6 entries) v6

-- how settled addresses are passed: those of IP version 4 first
abbrev pub settled_entries : List Block → List Block → List IpEntry
settled_entries v4 v6 = map (ip_entry Ipv4) v4 ++ map (ip_entry Ipv6) v6

-- Of what is claimed and what the issuer has of both families. Status 0 or 9: these are settled, and filled in. 58: the
-- issuer doesn't have what is claimed of a family. 7: allocation failed.
abbrev pub AreSettledIn : Overclaim → IpResources → List Block → List Block → ℕ → List IpEntry → List IpEntry → ℕ → ℕ
    → Type 0
AreSettledIn policy claim v4 v6 status old new before after =
    ((own4 own6 : List Block) × IsSettledBy policy claim.v4 v4 own4 × IsSettledBy policy claim.v6 v6 own6
    × IsFilled (settled_entries own4 own6) status old new after)
    ⊎ ((status ≡ other_resources) × (IsOverclaimed policy claim.v4 v4 ⊎ IsOverclaimed policy claim.v6 v6)
    × IsUnfilled old new before after)
    ⊎ ((status ≡ out_of_memory) × IsUnfilled old new before after)

-- the same of what the entries say that the issuer has
abbrev pub AreSettledUnder : Overclaim → IpResources → List IpEntry → ℕ → List IpEntry → List IpEntry → ℕ → ℕ → Type 0
AreSettledUnder policy claim entries status old new before after =
    ((v4 v6 : List Block) × AreHeld entries v4 v6 × AreSettledIn policy claim v4 v6 status old new before after)
    ⊎ ((status ≡ out_of_memory) × IsUnfilled old new before after)

-- ---- AS numbers

-- blocks that are listed are numbers of autonomous systems
abbrev pub AreFitting : ResourcesChoice → Type 0
AreFitting ResourcesChoice.Missing = Unit {0}
AreFitting ResourcesChoice.Inherit = Unit {0}
AreFitting (ResourcesChoice.Blocks bs) = AreBlocksOf AsNumbers bs

-- Status 0 or 9: these are settled, and filled in. 58: the issuer doesn't have what is claimed. 7: allocation failed.
abbrev pub AreAsSettledIn : Overclaim → ResourcesChoice → List Block → ℕ → List AsEntry → List AsEntry → ℕ → ℕ → Type 0
AreAsSettledIn policy claim numbers status old new before after =
    ((own : List Block) × IsSettledBy policy claim numbers own × IsFilled (map as_entry own) status old new after)
    ⊎ ((status ≡ other_resources) × IsOverclaimed policy claim numbers × IsUnfilled old new before after)
    ⊎ ((status ≡ out_of_memory) × IsUnfilled old new before after)

-- the same of what the entries say that the issuer has
abbrev pub AreAsSettledUnder : Overclaim → ResourcesChoice → List AsEntry → ℕ → List AsEntry → List AsEntry → ℕ → ℕ
    → Type 0
AreAsSettledUnder policy claim entries status old new before after =
    ((numbers : List Block) × AreNumbersOf (as_blocks entries) numbers
    × AreAsSettledIn policy claim numbers status old new before after)
    ⊎ ((status ≡ out_of_memory) × IsUnfilled old new before after)

-- ---- What a status says of the resources that a certificate has under those of its issuer

-- ---- what a certificate claims

-- what the extension says; nothing where it isn't there
abbrev pub claimed_addresses : Option IpResourcesView → IpResourcesView
claimed_addresses None = record { v4 = ChoiceView.Missing; v6 = ChoiceView.Missing }
claimed_addresses (Some x) = x

abbrev pub claimed_numbers : Option ChoiceView → ChoiceView
claimed_numbers None = ChoiceView.Missing
claimed_numbers (Some x) = x

-- these addresses (RFC 6487 4.8.10, RFC 8360 4.2.2)
pub record ClaimsAddresses (x : CertParts) (claim : IpResources) : Type 0 where
  pub said : Option IpResourcesView
  pub says : Says true SpellsIpResources (addresses_of x.tbs.extensions) said
  pub claimed : AreIpResourcesOf claim (claimed_addresses said)

-- these AS numbers (RFC 6487 4.8.11, RFC 8360 4.2.2)
pub record ClaimsNumbers (x : CertParts) (claim : ResourcesChoice) : Type 0 where
  pub said : Option ChoiceView
  pub says : Says true SpellsAsResources (numbers_in x.tbs.extensions) said
  pub claimed : IsChoiceOf claim (claimed_numbers said)

-- ---- what a status says

-- 10: a block of the issuer says that addresses are those of its own issuer. Else of the certificate: that it isn't
-- read, has no policy, or has resources of the other version; 116: that its addresses are not critical, or not in
-- canonical form; or what is settled.
abbrev pub IsIpSettled : List ℕ → List IpEntry → ℕ → List IpEntry → List IpEntry → ℕ → ℕ → Type 0
IsIpSettled s issuer status old new before after =
    ((are_untold issuer ≡ true) × (status ≡ no_answer) × IsUnfilled old new before after)
    ⊎ (HasNoPolicy s status × IsUnfilled old new before after)
    ⊎ ((x : CertParts) × (policy : Overclaim) × HasPolicy s x policy
    × (((status ≡ wrong_resources) × SaysNone true SpellsIpResources (addresses_of x.tbs.extensions)
    × IsUnfilled old new before after)
    ⊎ ((claim : IpResources) × ClaimsAddresses x claim
    × AreSettledUnder policy claim issuer status old new before after)))

-- the same of AS numbers
abbrev pub IsAsSettled : List ℕ → List AsEntry → ℕ → List AsEntry → List AsEntry → ℕ → ℕ → Type 0
IsAsSettled s issuer status old new before after =
    ((are_as_untold issuer ≡ true) × (status ≡ no_answer) × IsUnfilled old new before after)
    ⊎ (HasNoPolicy s status × IsUnfilled old new before after)
    ⊎ ((x : CertParts) × (policy : Overclaim) × HasPolicy s x policy
    × (((status ≡ wrong_resources) × SaysNone true SpellsAsResources (numbers_in x.tbs.extensions)
    × IsUnfilled old new before after)
    ⊎ ((claim : ResourcesChoice) × ClaimsNumbers x claim
    × AreAsSettledUnder policy claim issuer status old new before after)))
