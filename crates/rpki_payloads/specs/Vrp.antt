-- Validated ROA payloads (RFC 6811 2), and their order.
use Rattle.std.specs.Prelude.{◌≡◌, List}
use Rattle.std.specs.List.{Contains}
use Rattle.std.specs.List.Sorted.{IsStrictlySortedBy}
use Rattle.std.specs.Ordering.{nat_cmp, ordering_then}
use Rattle.std.specs.Cmp.Lexicographic.{slice_cmp}
use Rattle.std.specs.declared.cmp.Ordering.{Ordering}
use Rattle.std.specs.declared.cmp.Ordering.TheVariants.{Less, Equal, Greater}
use Rattle.std.specs.declared.net.ip_addr.IpAddr.{IpAddr}
use Rattle.std.specs.declared.net.ip_addr.IpAddr.TheVariants.{V4, V6}
use Rattle.rpki_resources.specs.declared.ip_text.Prefix.{Prefix}
use Rattle.rpki_contents.specs.declared.route_origin.RouteOrigin.{RouteOrigin}
use Rattle.rpki_payloads.specs.declared.vrp.Vrp.{Vrp}
use Rattle.rpki_payloads.specs.Sets.{IsSetOf}

-- ---- what a payload is

abbrev pub prefix_of : Vrp → Prefix
prefix_of v = record { addr = v.addr; len = v.len }

-- that of a route origin
abbrev pub vrp_of : RouteOrigin → Vrp
vrp_of o = record {
  addr = o.address.prefix.addr;
  len = o.address.prefix.len;
  max_length = o.address.max_length;
  as_id = o.as_id;
}

-- the route origin of a payload
abbrev pub origin_of : Vrp → RouteOrigin
origin_of v = record { address = record { prefix = prefix_of v; max_length = v.max_length }; as_id = v.as_id }

-- ---- the order

-- IP version 4 before IP version 6, and then by the octets
abbrev pub ip_cmp : IpAddr → IpAddr → Ordering
ip_cmp (V4 a) (V4 b) = slice_cmp nat_cmp a.octets b.octets
ip_cmp (V4 a) (V6 b) = Less
ip_cmp (V6 a) (V4 b) = Greater
ip_cmp (V6 a) (V6 b) = slice_cmp nat_cmp a.segments b.segments

-- by the address, the length, the maximum length, and the AS number
abbrev pub vrp_cmp : Vrp → Vrp → Ordering
vrp_cmp v w =
    ordering_then (ip_cmp v.addr w.addr)
    (ordering_then (nat_cmp v.len w.len) (ordering_then (nat_cmp v.max_length w.max_length) (nat_cmp v.as_id w.as_id)))

-- what compares as equal is one
abbrev pub IsExact : {K : Type 0} → (K → K → Ordering) → Type 0
IsExact {K} R = (x y : K) → R x y ≡ Equal → x ≡ y

-- ---- sets of them

-- each once, in order
abbrev pub AreInOrder : List Vrp → Type 0
AreInOrder vrps = IsStrictlySortedBy vrp_cmp vrps

-- those of route origins
abbrev pub AreOrigins : List RouteOrigin → List Vrp → Type 0
AreOrigins origins = IsSetOf vrp_cmp (λ v. Contains origins (origin_of v))
