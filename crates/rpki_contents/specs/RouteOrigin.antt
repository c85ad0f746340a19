-- What an attestation authorizes: each prefix with its maximum length and the AS number.
use Rattle.std.specs.Prelude.{ℕ, List, ◌∷◌, ◌++◌, map, Option, None, Some, codes, decimal}
use Rattle.std.specs.Int.{w32, w128, to_be_bytes}
use Rattle.std.specs.Net.Addr.{segments_of}
use Rattle.std.specs.Net.Text.{ip_text}
use Rattle.std.specs.declared.net.ip_addr.IpAddr.{IpAddr}
use Rattle.std.specs.declared.net.ip_addr.IpAddr.TheVariants.{V4, V6}
use Rattle.rpki_resources.specs.declared.family.AddressFamily.{AddressFamily}
use Rattle.rpki_resources.specs.declared.family.AddressFamily.TheVariants.{Ipv4, Ipv6}
use Rattle.rpki_resources.specs.Address.{width, low_end}
use Rattle.rpki_resources.specs.Text.{prefix_text}
use Rattle.rpki_contents.specs.declared.roa_address.RoaIpAddress.{RoaIpAddress}
use Rattle.rpki_contents.specs.declared.route_origin.FriendlyRoaIpAddress.{FriendlyRoaIpAddress}
use Rattle.rpki_contents.specs.declared.route_origin.RouteOrigin.{RouteOrigin}
use Rattle.rpki_contents.specs.Roa.{AttestationParts}
use Rattle.rpki_contents.specs.RoaAddress.{AreAddressesIn}

-- the maximum length, which is the length of the prefix where it is left out (RFC 9582 4.3.2.2)
abbrev pub or_length : ℕ → Option ℕ → ℕ
or_length length None = length
or_length length (Some most) = most

-- the address of the family whose bits make the number
abbrev pub address_of : AddressFamily → ℕ → IpAddr
address_of Ipv4 n = V4 (record { octets = to_be_bytes w32 n })
address_of Ipv6 n = V6 (record { segments = segments_of (to_be_bytes w128 n) })

-- a prefix of the family, and its maximum length
abbrev pub friendly : AddressFamily → RoaIpAddress → FriendlyRoaIpAddress
friendly family x = record {
  prefix = record { addr = address_of family (low_end (width family) x.prefix); len = x.prefix.size };
  max_length = or_length x.prefix.size x.max_length;
}

abbrev pub origin : ℕ → AddressFamily → RoaIpAddress → RouteOrigin
origin as_id family x = record { address = friendly family x; as_id = as_id }

abbrev pub origins_of : ℕ → AddressFamily → List RoaIpAddress → List RouteOrigin
origins_of as_id family xs = map (origin as_id family) xs

-- each prefix of IP version 4, in their order, and then each of IP version 6
abbrev pub origins : AttestationParts → List RouteOrigin
origins x = origins_of x.as_id Ipv4 x.v4 ++ origins_of x.as_id Ipv6 x.v6

-- each is a prefix of its family
pub record AreInFamilies (x : AttestationParts) : Type 0 where
  pub v4 : AreAddressesIn 32 x.v4
  pub v6 : AreAddressesIn 128 x.v6

-- ---- texts

-- the prefix, a hyphen, and the maximum length
abbrev pub friendly_text : FriendlyRoaIpAddress → List ℕ
friendly_text x = prefix_text (ip_text x.prefix.addr) x.prefix.len ++ 45 ∷ decimal x.max_length

-- the same, an arrow, and the AS number
abbrev pub origin_text : RouteOrigin → List ℕ
origin_text x = friendly_text x.address ++ codes " => " ++ decimal x.as_id
