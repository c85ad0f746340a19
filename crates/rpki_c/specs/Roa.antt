-- What a status says of the octets of a route origin attestation, and of a prefix.
use Rattle.std.specs.Prelude.{◌≡◌, ◌⊎◌, ℕ, Bool, List, Ok, Err}
use Rattle.std.specs.Option.{is_some, unwrap_or}
use Rattle.rpki_resources.specs.declared.family.AddressFamily.{AddressFamily}
use Rattle.rpki_resources.specs.Address.{width, low_end}
use Rattle.rpki_contents.specs.declared.roa_address.RoaIpAddress.{RoaIpAddress}
use Rattle.rpki_contents.specs.declared.roa_view.RoaPart.{RoaPart}
use Rattle.rpki_contents.specs.declared.roa_view.RoaPart.TheVariants as P
use Rattle.rpki_contents.specs.RoaAddress.{roa_address}
use Rattle.rpki_contents.specs.RoaView.{FoundRoa, found, listed, route_origin}
use Rattle.rpki_c.specs.declared.roa.RoaParts.{RoaParts}
use Rattle.rpki_c.specs.declared.roa.RoaAddress.{RoaAddress}
use Rattle.rpki_c.specs.declared.span.Span.{Span}
use Rattle.rpki_c.specs.Resources.{family_number, address_octets}
use Rattle.rpki_c.specs.Span.{IsTakenOff}
use Rattle.rpki_c.specs.Status.{content}
use Rattle.rpki_c.specs.Whole.{IsRead}

-- the status of octets of which this part is wrong
abbrev pub roa_part_number : RoaPart → ℕ
roa_part_number P.Attestation = 145
roa_part_number P.AsId = 146
roa_part_number P.AddressBlocks = 147

-- what the parts hand out
abbrev pub passed : RoaParts → FoundRoa
passed p = found p.as_id (listed p.v4.octets.now p.v4_count, listed p.v6.octets.now p.v6_count)

-- this part is the leftmost that is malformed
abbrev pub IsRoaWrong : Bool → List ℕ → RoaPart → Type 0
IsRoaWrong strict s q = (e : ℕ) × (route_origin strict s ≡ Err (q, e))

-- Status 0: the octets are an attestation of these parts. Else the number of the malformed part, and nothing is
-- written.
abbrev pub IsRoaRead : Bool → List ℕ → ℕ → RoaParts → RoaParts → Type 0
IsRoaRead strict s =
    IsRead (λ p. route_origin strict s ≡ Ok (passed p)) roa_part_number (IsRoaWrong strict s)

-- what is written of a prefix
pub record HasAddress (family : AddressFamily) (x : RoaIpAddress) (p : RoaAddress) : Type 0 where
  pub address : p.address ≡ address_octets family (low_end (width family) x.prefix)
  pub bits : p.length ≡ x.prefix.size
  pub max_length : p.max_length ≡ unwrap_or x.max_length x.prefix.size
  pub has_max_length : p.has_max_length ≡ is_some x.max_length

-- The number names a family, and a prefix of the family is taken off the span; or it names none, and nothing is
-- written.
abbrev pub IsAddressTaken : ℕ → ℕ → Span → Span → RoaAddress → RoaAddress → Type 0
IsAddressTaken number status before after old new =
    ((family : AddressFamily) × (number ≡ family_number family)
    × IsTakenOff (roa_address (width family)) (HasAddress family) status before after old new)
    ⊎ (((family : AddressFamily) → number ≡ family_number family → ⊥) × (status ≡ content) × (after ≡ before)
    × (new ≡ old))
