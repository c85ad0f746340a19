-- The contents of the two extensions as they are written (RFC 3779 2.2.3, 3.2.3; RFC 6487 4.8.10, 4.8.11).
use Rattle.std.specs.Prelude.{◌↔◌, ◌≡◌, ◌≢◌, ◌⊎◌, ◌<◌, ◌^◌, ℕ, true, false, List, [], ◌++◌, length}
use Rattle.rpki_der.specs.TagName.{null, octet_string, sequence}
use Rattle.rpki_der.specs.Header.{tlv}
use Rattle.rpki_resources.specs.declared.block.Block.{Block}
use Rattle.rpki_resources.specs.declared.kind.ResourceKind.{ResourceKind}
use Rattle.rpki_resources.specs.declared.kind.ResourceKind.TheVariants.{Addresses, AsNumbers}
use Rattle.rpki_resources.specs.declared.family.AddressFamily.{AddressFamily}
use Rattle.rpki_resources.specs.declared.family.AddressFamily.TheVariants.{Ipv4, Ipv6}
use Rattle.rpki_resources.specs.declared.choice.ResourcesChoice.{ResourcesChoice}
use Rattle.rpki_resources.specs.declared.choice.ResourcesChoice.TheVariants.{Missing, Inherit, Blocks}
use Rattle.rpki_resources.specs.declared.resources.IpResources.{IpResources}
use Rattle.rpki_resources.specs.declared.resources.AsResources.{AsResources}
use Rattle.rpki_resources.specs.Address.{family_octets}
use Rattle.rpki_resources.specs.Blocks.{AreCanonical}
use Rattle.rpki_resources.specs.Extension.{as_numbers}
use Rattle.rpki_resources.specs.Encoded.{AreBlocksOf, blocks_octets}

-- ---- resources of one kind (RFC 3779 2.2.3.4, 3.2.3.2)

-- those of the issuer, or blocks of the kind, one at least
pub record AreListed (kind : ResourceKind) (bs : List Block) : Type 0 where
  pub some : bs ≢ []
  pub canonical : AreCanonical bs
  pub fit : AreBlocksOf kind bs

abbrev pub IsOfKind : ResourceKind → ResourcesChoice → Type 0
IsOfKind kind Missing = Unit {0}
IsOfKind kind Inherit = Unit {0}
IsOfKind kind (Blocks bs) = AreListed kind bs

-- none; NULL; or a SEQUENCE of the blocks
abbrev pub choice_octets : ResourceKind → ResourcesChoice → List ℕ
choice_octets kind Missing = []
choice_octets kind Inherit = tlv null false []
choice_octets kind (Blocks bs) = tlv sequence true (blocks_octets kind bs)

-- a length announces the blocks
abbrev pub IsShortChoice : ResourceKind → ResourcesChoice → Type 0
IsShortChoice kind Missing = Unit {0}
IsShortChoice kind Inherit = Unit {0}
IsShortChoice kind (Blocks bs) = length (blocks_octets kind bs) < 2 ^ 32

-- ---- IP address blocks (RFC 3779 2.2.3.1 to 2.2.3.3)

abbrev pub named_contents : AddressFamily → ResourcesChoice → List ℕ
named_contents family choice = tlv octet_string false (family_octets family) ++ choice_octets (Addresses family) choice

-- the name of the family, and its resources; nothing where they are missing
abbrev pub named_octets : AddressFamily → ResourcesChoice → List ℕ
named_octets family Missing = []
named_octets family Inherit = tlv sequence true (named_contents family Inherit)
named_octets family (Blocks bs) = tlv sequence true (named_contents family (Blocks bs))

-- a length announces the name and the resources
abbrev pub IsShortNamed : AddressFamily → ResourcesChoice → Type 0
IsShortNamed family Missing = Unit {0}
IsShortNamed family Inherit = length (named_contents family Inherit) < 2 ^ 32
IsShortNamed family (Blocks bs) = length (named_contents family (Blocks bs)) < 2 ^ 32

abbrev pub ip_contents : IpResources → List ℕ
ip_contents x = named_octets Ipv4 x.v4 ++ named_octets Ipv6 x.v6

abbrev pub ip_octets : IpResources → List ℕ
ip_octets x = tlv sequence true (ip_contents x)

-- a family at least, and blocks of its addresses alone
pub record CanWriteIp (x : IpResources) : Type 0 where
  pub some : (x.v4 ≢ Missing) ⊎ (x.v6 ≢ Missing)
  pub v4 : IsOfKind (Addresses Ipv4) x.v4
  pub v6 : IsOfKind (Addresses Ipv6) x.v6

-- a length announces the contents
abbrev pub IsShortIp : IpResources → Type 0
IsShortIp x = length (ip_contents x) < 2 ^ 32

-- other resources have the same encoding exactly where they are the same
abbrev pub IsIpApart : IpResources → Type 0
IsIpApart x = (other : IpResources) → CanWriteIp x → IsShortIp x → CanWriteIp other → IsShortIp other
    → (ip_octets x ≡ ip_octets other) ↔ (x ≡ other)

-- ---- AS identifiers (RFC 3779 3.2.3.1)

abbrev pub as_identifiers_contents : AsResources → List ℕ
as_identifiers_contents x = tlv as_numbers true (choice_octets AsNumbers x.numbers)

abbrev pub as_identifiers_octets : AsResources → List ℕ
as_identifiers_octets x = tlv sequence true (as_identifiers_contents x)

-- AS numbers, and none of 2^32 or more
pub record CanWriteAs (x : AsResources) : Type 0 where
  pub some : x.numbers ≢ Missing
  pub numbers : IsOfKind AsNumbers x.numbers

abbrev pub IsShortAs : AsResources → Type 0
IsShortAs x = length (as_identifiers_contents x) < 2 ^ 32

-- other resources have the same encoding exactly where they are the same
abbrev pub IsAsApart : AsResources → Type 0
IsAsApart x = (other : AsResources) → CanWriteAs x → IsShortAs x → CanWriteAs other → IsShortAs other
    → (as_identifiers_octets x ≡ as_identifiers_octets other) ↔ (x ≡ other)
