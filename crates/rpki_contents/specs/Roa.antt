-- Route origin attestations (RFC 9582 4).
use Rattle.std.specs.Prelude.{◌≡◌, ◌^◌, ℕ, Bool, true, false, List, [], ◌∷◌, Option, None, Some, map, Vec}
use Rattle.rpki_der.specs.Prelude.{sequence, Format, around, then, only, each, such, unsigned_below}
use Rattle.rpki_resources.specs.declared.family.AddressFamily.{AddressFamily}
use Rattle.rpki_resources.specs.declared.family.AddressFamily.TheVariants.{Ipv4, Ipv6}
use Rattle.rpki_contents.specs.declared.roa_address.RoaIpAddress.{RoaIpAddress}
use Rattle.rpki_contents.specs.declared.roa_family.RoaFamily.{RoaFamily}
use Rattle.rpki_contents.specs.declared.roa_family.Prefixes.{Prefixes}
use Rattle.rpki_contents.specs.RoaAddress.{Family, family_of, roa_family, AreAddressesIn}

-- ---- ipAddrBlocks: SEQUENCE (SIZE (1..2)) OF ROAIPAddressFamily, each family once (RFC 9582 4.3.1)

-- the prefixes of IP version 4, and those of IP version 6
abbrev pub Both : Type 0
Both = List RoaIpAddress × List RoaIpAddress

abbrev pub both_of : Prefixes → Both
both_of x = (x.v4.items, x.v6.items)

-- those of the one family that there is; of the other there are none
abbrev pub alone : {X : Type 0} → X → AddressFamily × X → X × X
alone none (Ipv4, xs) = (xs, none)
alone none (Ipv6, xs) = (none, xs)

-- those of two families: the canonical form has IP version 4 first (RFC 9582 4.3.3), and strictly no other is taken
abbrev pub together : {X : Type 0} → Bool → AddressFamily × X → AddressFamily × X → Option (X × X)
together strict (Ipv4, xs) (Ipv4, ys) = None
together strict (Ipv4, xs) (Ipv6, ys) = Some (xs, ys)
together true (Ipv6, xs) (Ipv4, ys) = None
together false (Ipv6, xs) (Ipv4, ys) = Some (ys, xs)
together strict (Ipv6, xs) (Ipv6, ys) = None

-- those of one family or of two
abbrev pub prefixes_in : Bool → List Family → Option Both
prefixes_in strict [] = None
prefixes_in strict (x ∷ []) = Some (alone [] x)
prefixes_in strict (x ∷ y ∷ []) = together strict x y
prefixes_in strict (x ∷ y ∷ z ∷ zs) = None

abbrev pub families_in : List RoaFamily → List Family
families_in xs = map family_of xs

abbrev pub families_of : {Z : Type 0} → Vec RoaFamily Z → List Family
families_of v = families_in v.items

abbrev pub each_family : Format (List Family)
each_family = each roa_family

abbrev pub AreFamilies : Bool → Both → List Family → Type 0
AreFamilies strict x families = prefixes_in strict families ≡ Some x

abbrev pub families : Bool → Format Both
families strict = such (AreFamilies strict) (around sequence each_family)

-- ---- RouteOriginAttestation: its version is 0, which is the default, and so isn't there (X.690 11.5)

pub record AttestationParts : Type 0 where
  pub as_id : ℕ
  pub v4 : List RoaIpAddress
  pub v6 : List RoaIpAddress

abbrev pub attestation : ℕ → List RoaIpAddress → List RoaIpAddress → AttestationParts
attestation as_id v4 v6 = record { as_id = as_id; v4 = v4; v6 = v6 }

abbrev pub fields_of : AttestationParts → ℕ × Both
fields_of x = (x.as_id, (x.v4, x.v6))

-- an AS number (RFC 9582 4.2)
abbrev pub as_number : Format ℕ
as_number = unsigned_below (2 ^ 32)

abbrev pub fields : Bool → Format (ℕ × Both)
fields strict = then as_number (only (families strict))

abbrev pub roa : Bool → Format (ℕ × Both)
roa strict = around sequence (fields strict)

-- each prefix is one of its family, and there is one
pub record IsAttestation (x : AttestationParts) : Type 0 where
  pub v4 : AreAddressesIn 32 x.v4
  pub v6 : AreAddressesIn 128 x.v6
  pub some : x.v4 ≡ [] → x.v6 ≡ [] → ⊥
