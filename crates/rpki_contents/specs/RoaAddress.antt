-- Prefixes of route origin attestations (RFC 9582 4.3.2).
use Rattle.std.specs.Prelude.{◌≡◌, ◌≢◌, ◌≤◌, ◌^◌, ℕ, List, [], ◌∷◌, Option, None, Some}
use Rattle.rpki_der.specs.Prelude.{integer, bit_string, octet_string, sequence, Format, leaf, around, then, then_by}
use Rattle.rpki_der.specs.Prelude.{optional_then, only, each, such, end, unsigned_below}
use Rattle.rpki_resources.specs.declared.address.Address.{Address}
use Rattle.rpki_resources.specs.declared.family.AddressFamily.{AddressFamily}
use Rattle.rpki_resources.specs.Address.{width, IsAddress, IsAddressOf}
use Rattle.rpki_resources.specs.Extension.{IsFamily}
use Rattle.rpki_contents.specs.declared.roa_address.RoaIpAddress.{RoaIpAddress}
use Rattle.rpki_contents.specs.declared.roa_family.RoaFamily.{RoaFamily}

-- ---- a prefix: SEQUENCE { address IPAddress, maxLength INTEGER OPTIONAL }, for addresses of w bits

-- maxLength is from the length of the prefix to that of an address (RFC 9582 4.3.2.2)
abbrev pub IsMaxLength : (w length : ℕ) → Option ℕ → Type 0
IsMaxLength w length None = Unit {0}
IsMaxLength w length (Some most) = (length ≤ most) × (most ≤ w)

-- the bits of the prefix (RFC 9582 4.3.2.1)
abbrev pub address : ℕ → Format Address
address w = leaf bit_string (IsAddress w)

abbrev pub max_length : Format ℕ
max_length = unsigned_below (2 ^ 8)

abbrev pub Parts : Type 0
Parts = Address × (Option ℕ × Unit {0})

abbrev pub parts_of : RoaIpAddress → Parts
parts_of x = (x.prefix, (x.max_length, tt))

abbrev pub address_parts : ℕ → Format Parts
address_parts w = then (address w) (optional_then integer max_length end)

-- the parts are those of x, whose maxLength is one of its prefix
pub record IsRoaAddress (w : ℕ) (x : RoaIpAddress) (parts : Parts) : Type 0 where
  pub same : parts_of x ≡ parts
  pub within : IsMaxLength w x.prefix.size x.max_length

abbrev pub roa_address : ℕ → Format RoaIpAddress
roa_address w = such (IsRoaAddress w) (around sequence (address_parts w))

-- ---- the prefixes of one family: SEQUENCE { addressFamily OCTET STRING, addresses SEQUENCE (SIZE (1..MAX)) OF .. }

-- 00 01 for IP version 4, and 00 02 for IP version 6 (RFC 9582 4.3.1)
abbrev pub family : Format AddressFamily
family = leaf octet_string IsFamily

-- a list of one at least
abbrev pub IsSome : {X : Type 0} → List X → List X → Type 0
IsSome found listed = (found ≡ listed) × (listed ≢ [])

abbrev pub each_address : ℕ → Format (List RoaIpAddress)
each_address w = each (roa_address w)

abbrev pub addresses : ℕ → Format (List RoaIpAddress)
addresses w = such IsSome (around sequence (each_address w))

abbrev pub Family : Type 0
Family = AddressFamily × List RoaIpAddress

abbrev pub family_of : RoaFamily → Family
family_of x = (x.family, x.addresses.items)

abbrev pub family_parts : Format Family
family_parts = then_by family (λ named. only (addresses (width named)))

abbrev pub roa_family : Format Family
roa_family = around sequence family_parts

-- ---- what holds of each prefix of an attestation

-- bits of an address of w bits, and a maxLength of theirs
abbrev pub IsAddressIn : ℕ → RoaIpAddress → Type 0
IsAddressIn w x = IsAddressOf w x.prefix × IsMaxLength w x.prefix.size x.max_length

abbrev pub AreAddressesIn : ℕ → List RoaIpAddress → Type 0
AreAddressesIn w [] = Unit {0}
AreAddressesIn w (x ∷ xs) = IsAddressIn w x × AreAddressesIn w xs
