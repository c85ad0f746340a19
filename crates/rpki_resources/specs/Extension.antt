-- The contents of the two extensions, in place (RFC 3779 2.2.3, 3.2.3; RFC 6487 4.8.10, 4.8.11).
use Rattle.std.specs.Prelude.{◌≡◌, ◌≢◌, ℕ, List, []}
use Rattle.rpki_der.specs.declared.error.DecodeError.{DecodeError}
use Rattle.rpki_der.specs.declared.tag.Class.TheVariants.{Context}
use Rattle.rpki_der.specs.Prelude.{TagName, tag_of, null, octet_string, sequence, SpellsBoth, FirstFault, IsEndFault}
use Rattle.rpki_der.specs.Prelude.{IsContentError, Format, leaf, around, then_by, only, either, null_value}
use Rattle.rpki_resources.specs.declared.kind.ResourceKind.{ResourceKind}
use Rattle.rpki_resources.specs.declared.kind.ResourceKind.TheVariants.{Addresses, AsNumbers}
use Rattle.rpki_resources.specs.declared.family.AddressFamily.{AddressFamily}
use Rattle.rpki_resources.specs.declared.family.AddressFamily.TheVariants.{Ipv4, Ipv6}
use Rattle.rpki_resources.specs.declared.choice_view.ChoiceView.{ChoiceView}
use Rattle.rpki_resources.specs.declared.choice_view.ChoiceView.TheVariants.{Missing, Inherit, Blocks}
use Rattle.rpki_resources.specs.declared.ip_view.IpResourcesView.{IpResourcesView}
use Rattle.rpki_resources.specs.Composing.{standing_for}
use Rattle.rpki_resources.specs.Address.{family_octets}
use Rattle.rpki_resources.specs.InPlace.{Octets, blocks}

-- ---- a choice (RFC 3779 2.2.3.4, 3.2.3.2)

-- NULL: those of the issuer
abbrev pub inherit : Format ChoiceView
inherit = standing_for (λ v nothing. v ≡ Inherit) null_value

-- a SEQUENCE of blocks
abbrev pub block_list : ResourceKind → Format Octets
block_list kind = around sequence (blocks kind)

abbrev pub listed_blocks : ResourceKind → Format ChoiceView
listed_blocks kind = standing_for (λ v x. v ≡ Blocks x) (block_list kind)

abbrev pub choice : ResourceKind → Format ChoiceView
choice kind = either null inherit (listed_blocks kind)

abbrev pub SpellsChoice : ResourceKind → ChoiceView → List ℕ → Type 0
SpellsChoice kind = (choice kind).spells

-- ---- AS identifiers (RFC 3779 3.2.3.1): the numbers, and no routing domain identifiers

abbrev pub as_numbers : TagName
as_numbers = tag_of Context 0

abbrev pub asnum : Format ChoiceView
asnum = around as_numbers (only (choice AsNumbers))

abbrev pub as_resources : Format ChoiceView
as_resources = around sequence (only asnum)

abbrev pub SpellsAsResources : ChoiceView → List ℕ → Type 0
SpellsAsResources = as_resources.spells

abbrev pub IsAsResourcesFault : List ℕ → DecodeError → Type 0
IsAsResourcesFault = as_resources.fault

-- ---- one family of addresses (RFC 3779 2.2.3.2, 2.2.3.3)

-- its name: the two octets of the AFI, and no SAFI
abbrev pub IsFamily : AddressFamily → List ℕ → Type 0
IsFamily family c = c ≡ family_octets family

abbrev pub family_name : Format AddressFamily
family_name = leaf octet_string IsFamily

-- the name, and then the choice
abbrev pub family_parts : Format (AddressFamily × ChoiceView)
family_parts = then_by family_name (λ family. only (choice (Addresses family)))

abbrev pub named_family : Format (AddressFamily × ChoiceView)
named_family = around sequence family_parts

abbrev pub SpellsNamed : AddressFamily × ChoiceView → List ℕ → Type 0
SpellsNamed = named_family.spells

-- ---- IP address blocks (RFC 3779 2.2.3.1): of IP version 4, of IP version 6, or of both in this order

abbrev pub families : ChoiceView → ChoiceView → IpResourcesView
families v4 v6 = record { v4 = v4; v6 = v6 }

pub data AreFamilies (x : IpResourcesView) (c : List ℕ) : Type 0 where
  OnlyV4 : (v4 : ChoiceView) → x ≡ families v4 Missing → SpellsNamed (Ipv4, v4) c → AreFamilies x c
  OnlyV6 : (v6 : ChoiceView) → x ≡ families Missing v6 → SpellsNamed (Ipv6, v6) c → AreFamilies x c
  BothFamilies : (v4 v6 : ChoiceView) → x ≡ families v4 v6 → SpellsBoth SpellsNamed SpellsNamed (Ipv4, v4) (Ipv6, v6) c
      → AreFamilies x c

-- what is wrong after the second family: it isn't IP version 6; else something follows
abbrev pub IsAfterSecondFault : AddressFamily × ChoiceView → List ℕ → DecodeError → Type 0
IsAfterSecondFault (Ipv4, v) r e = IsContentError e
IsAfterSecondFault (Ipv6, v) r e = IsEndFault r e

-- IP version 6, after IP version 4
abbrev pub second_family : Format ChoiceView
second_family = record {
  spells = λ v c. SpellsNamed (Ipv6, v) c;
  fault = FirstFault named_family.spells named_family.fault IsAfterSecondFault;
}

-- what is wrong after the first family: after IP version 6 something follows; after IP version 4 the second is wrong
abbrev pub IsAfterFirstFault : AddressFamily × ChoiceView → List ℕ → DecodeError → Type 0
IsAfterFirstFault (Ipv4, v) r e = (r ≢ []) × second_family.fault r e
IsAfterFirstFault (Ipv6, v) r e = IsEndFault r e

abbrev pub ip_families : Format IpResourcesView
ip_families = record {
  spells = AreFamilies;
  fault = FirstFault named_family.spells named_family.fault IsAfterFirstFault;
}

abbrev pub ip_resources : Format IpResourcesView
ip_resources = around sequence ip_families

abbrev pub SpellsIpResources : IpResourcesView → List ℕ → Type 0
SpellsIpResources = ip_resources.spells

abbrev pub IsIpResourcesFault : List ℕ → DecodeError → Type 0
IsIpResourcesFault = ip_resources.fault
