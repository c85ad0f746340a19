-- What an attestation authorizes: addresses, and their texts.
use Rattle.std.proofs.Common.{◌≡◌, ◌<◌, ◌≤◌, ◌+◌, ◌*◌, ◌-◌, ◌^◌, ◌∙◌, ℕ, List, ap, sym, arith}
use Rattle.std.proofs.Math.Nat.{mul-lt-mul_of_pos_right}
use Rattle.std.proofs.lemmas.Nat.{pow-add, pow_pos}
use Rattle.std.specs.Net.Addr.{IsIpv4OfBits, IsIpv6OfBits}
use Rattle.std.specs.declared.net.ipv4_addr.Ipv4Addr.{Ipv4Addr}
use Rattle.std.specs.declared.net.ipv6_addr.Ipv6Addr.{Ipv6Addr}
use Rattle.std.specs.declared.net.ip_addr.IpAddr.{IpAddr}
use Rattle.std.specs.declared.net.ip_addr.IpAddr.TheVariants.{V4, V6}
use Rattle.rpki_resources.specs.declared.address.Address.{Address}
use Rattle.rpki_resources.specs.declared.family.AddressFamily.{AddressFamily}
use Rattle.rpki_resources.specs.declared.family.AddressFamily.TheVariants.{Ipv4, Ipv6}
use Rattle.rpki_resources.specs.Address.{IsAddressOf, low_end}
use Rattle.rpki_contents.specs.RouteOrigin.{address_of}

abbrev v4_from : List ℕ → IpAddr
v4_from octets = V4 (record { octets = octets })

abbrev v6_from : List ℕ → IpAddr
v6_from segments = V6 (record { segments = segments })

pub v4-of : (a : Ipv4Addr) (n : ℕ) → IsIpv4OfBits a n → V4 a ≡ address_of Ipv4 n
unfolding IsIpv4OfBits
v4-of a n h = ap v4_from h

pub v6-of : (a : Ipv6Addr) (n : ℕ) → IsIpv6OfBits a n → V6 a ≡ address_of Ipv6 n
unfolding IsIpv6OfBits
v6-of a n h = ap v6_from h

pub of-family : (f g : AddressFamily) (n : ℕ) (a : IpAddr) → f ≡ g → a ≡ address_of g n → a ≡ address_of f n
of-family f g n a e h = h ∙ ap (λ (k : AddressFamily). address_of k n) (sym e)

-- the lowest address of a prefix is one of its family
pub low-fits : (w : ℕ) (x : Address) → IsAddressOf w x → low_end w x < 2 ^ w
low-fits w x h =
    let some : 0 < 2 ^ (w - x.size) = pow_pos (w - x.size) in
    let few : x.size ≤ w = h.0 in
    let less : x.number * 2 ^ (w - x.size) < 2 ^ x.size * 2 ^ (w - x.size) = mul-lt-mul_of_pos_right h.1 some in
    let e : x.size + (w - x.size) ≡ w = omega (arith, few) in
    let top : 2 ^ w ≡ 2 ^ x.size * 2 ^ (w - x.size) =
    sym (ap (λ (k : ℕ). 2 ^ k) e) ∙ pow-add 2 x.size (w - x.size) in
    omega (arith, less, top)
