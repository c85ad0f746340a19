-- Which prefixes cover which (RFC 6811 2).
use Rattle.std.specs.Prelude.{◌≡◌, ◌≤◌, ◌-◌, ◌^◌, ◌/◌, ◌&&◌, ℕ, Bool, nat_eq, nat_le}
use Rattle.rpki_resources.specs.declared.ip_text.Prefix.{Prefix}
use Rattle.rpki_resources.specs.IpRead.{address_number, address_width, family_of}

-- the bits that the addresses of a prefix share, as a number
abbrev pub shared_bits : Prefix → ℕ → ℕ
shared_bits p len = address_number p.addr / 2 ^ (address_width p.addr - len)

-- All addresses of p are addresses of the cover: it is of p's family, no longer than p, and their first bits are the
-- same (RFC 6811 2).
pub record IsCoveredBy (cover p : Prefix) : Type 0 where
  pub family : family_of cover.addr ≡ family_of p.addr
  pub shorter : cover.len ≤ p.len
  pub bits : shared_bits p cover.len ≡ shared_bits cover cover.len

-- the same, as a test: of one family are addresses with as many bits
abbrev pub covers : (cover p : Prefix) → Bool
covers cover p =
    nat_eq (address_width cover.addr) (address_width p.addr) && (nat_le cover.len p.len
    && nat_eq (shared_bits p cover.len) (shared_bits cover cover.len))
