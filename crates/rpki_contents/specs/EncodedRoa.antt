-- What is written of a route origin attestation (RFC 9582 4).
use Rattle.std.specs.Prelude.{◌<◌, ◌^◌, ℕ, true, false, List, [], ◌∷◌, ◌++◌, length, Option, None, Some}
use Rattle.rpki_der.specs.Prelude.{octet_string, sequence, tlv}
use Rattle.rpki_resources.specs.declared.family.AddressFamily.{AddressFamily}
use Rattle.rpki_resources.specs.declared.family.AddressFamily.TheVariants.{Ipv4, Ipv6}
use Rattle.rpki_resources.specs.Address.{family_octets}
use Rattle.rpki_resources.specs.Encoded.{address_octets, as_number_octets}
use Rattle.rpki_contents.specs.declared.roa_address.RoaIpAddress.{RoaIpAddress}
use Rattle.rpki_contents.specs.Roa.{AttestationParts}

-- ---- a prefix (RFC 9582 4.3.2)

-- an INTEGER, or nothing where the maximum length is left out
abbrev pub max_length_octets : Option ℕ → List ℕ
max_length_octets None = []
max_length_octets (Some most) = as_number_octets most

abbrev pub prefix_contents : RoaIpAddress → List ℕ
prefix_contents x = address_octets x.prefix ++ max_length_octets x.max_length

abbrev pub prefix_octets : RoaIpAddress → List ℕ
prefix_octets x = tlv sequence true (prefix_contents x)

abbrev pub prefixes_octets : List RoaIpAddress → List ℕ
prefixes_octets [] = []
prefixes_octets (x ∷ xs) = prefix_octets x ++ prefixes_octets xs

-- ---- a family: its name and its prefixes; nothing where it has none (RFC 9582 4.3.1)

abbrev pub family_contents : AddressFamily → List RoaIpAddress → List ℕ
family_contents family xs = tlv octet_string false (family_octets family) ++ tlv sequence true (prefixes_octets xs)

abbrev pub family_prefixes : AddressFamily → List RoaIpAddress → List ℕ
family_prefixes family [] = []
family_prefixes family (x ∷ xs) = tlv sequence true (family_contents family (x ∷ xs))

-- a length announces the parts of the family
abbrev pub IsShortFamily : AddressFamily → List RoaIpAddress → Type 0
IsShortFamily family [] = Unit {0}
IsShortFamily family (x ∷ xs) = length (family_contents family (x ∷ xs)) < 2 ^ 32

-- ---- the whole

-- IP version 4 first, as in the canonical form (RFC 9582 4.3.3)
abbrev pub families_contents : AttestationParts → List ℕ
families_contents x = family_prefixes Ipv4 x.v4 ++ family_prefixes Ipv6 x.v6

abbrev pub families_octets : AttestationParts → List ℕ
families_octets x = tlv sequence true (families_contents x)

-- the version is the default, and so isn't written (X.690 11.5)
abbrev pub roa_contents : AttestationParts → List ℕ
roa_contents x = as_number_octets x.as_id ++ families_octets x

abbrev pub roa_octets : AttestationParts → List ℕ
roa_octets x = tlv sequence true (roa_contents x)

-- the contents have fewer than 2^32 octets
abbrev pub IsShortRoa : AttestationParts → Type 0
IsShortRoa x = length (roa_contents x) < 2 ^ 32
