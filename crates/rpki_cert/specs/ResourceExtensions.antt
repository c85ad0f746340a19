-- What a certificate says of resources (RFC 3779 2.2, 3.2, RFC 6487 4.8.10, 4.8.11, RFC 8360 4.2.2).
use Rattle.std.specs.Prelude.{◌&&◌, ℕ, Bool, true, false, List, Option, Some, None, IsTrue}
use Rattle.rpki_der.specs.declared.error.DecodeError.{DecodeError}
use Rattle.rpki_der.specs.Reading.{IsWholeFault}
use Rattle.rpki.specs.ExtensionValue.{ExtensionParts}
use Rattle.rpki_resources.specs.declared.choice_view.ChoiceView.{ChoiceView}
use Rattle.rpki_resources.specs.declared.choice_view.ChoiceView.TheVariants.{Missing, Inherit, Blocks}
use Rattle.rpki_resources.specs.declared.ip_view.IpResourcesView.{IpResourcesView}
use Rattle.rpki_resources.specs.Extension.{SpellsIpResources, IsIpResourcesFault, SpellsAsResources, IsAsResourcesFault}
use Rattle.rpki_cert.specs.Cert.{find}
use Rattle.rpki_cert.specs.Known.{ip_addr_blocks, ip_addr_blocks_v2, autonomous_sys_ids, autonomous_sys_ids_v2, Says}

-- ---- which extension is read

-- that of RFC 3779 where it is there; else that of RFC 8360
abbrev pub first_there : Option ExtensionParts → Option ExtensionParts → Option ExtensionParts
first_there None other = other
first_there (Some x) other = Some x

abbrev pub addresses_of : List ExtensionParts → Option ExtensionParts
addresses_of xs = first_there (find ip_addr_blocks xs) (find ip_addr_blocks_v2 xs)

abbrev pub numbers_of : List ExtensionParts → Option ExtensionParts
numbers_of xs = first_there (find autonomous_sys_ids xs) (find autonomous_sys_ids_v2 xs)

-- ---- the errors of their octets

abbrev pub IsWholeIpFault : List ℕ → DecodeError → Type 0
IsWholeIpFault = IsWholeFault SpellsIpResources IsIpResourcesFault

abbrev pub IsWholeAsFault : List ℕ → DecodeError → Type 0
IsWholeAsFault = IsWholeFault SpellsAsResources IsAsResourcesFault

-- ---- canonical form

-- nothing is found; or what is found is critical, and its octets are a value of G
abbrev pub IsWellFormed : {V : Type 0} → (V → List ℕ → Type 0) → Option ExtensionParts → Type 0
IsWellFormed {V} G found = (v : Option V) × Says true G found v

-- addresses and numbers, where they are there, are in canonical form
pub record AreWellFormed (xs : List ExtensionParts) : Type 0 where
  pub addresses : IsWellFormed SpellsIpResources (addresses_of xs)
  pub numbers : IsWellFormed SpellsAsResources (numbers_of xs)

-- ---- resources of its own

-- not those of the issuer
abbrev pub is_own : ChoiceView → Bool
is_own Missing = true
is_own Inherit = false
is_own (Blocks x) = true

abbrev pub are_own_addresses : Option IpResourcesView → Bool
are_own_addresses None = true
are_own_addresses (Some x) = is_own x.v4 && is_own x.v6

abbrev pub are_own_numbers : Option ChoiceView → Bool
are_own_numbers None = true
are_own_numbers (Some v) = is_own v

-- what is found says something, of which this is true
abbrev pub SaysThat : {V : Type 0} → (V → List ℕ → Type 0) → Option ExtensionParts → (Option V → Bool) → Type 0
SaysThat {V} G found test = (v : Option V) × Says true G found v × IsTrue (test v)

-- no resources are those of the issuer (RFC 8630 2.3, RFC 8209 3.1.3.5)
pub record AreOwn (xs : List ExtensionParts) : Type 0 where
  pub addresses : SaysThat SpellsIpResources (addresses_of xs) are_own_addresses
  pub numbers : SaysThat SpellsAsResources (numbers_of xs) are_own_numbers
