-- What the certificate of a signed object says of resources (RFC 9286 5.1, RFC 9582 5).
use Rattle.std.specs.Prelude.{◌≡◌, ◌≢◌, ◌&&◌, Bool, true, false, List, Option, None, Some}
use Rattle.rpki.specs.ExtensionValue.{ExtensionParts}
use Rattle.rpki_resources.specs.declared.choice_view.ChoiceView.{ChoiceView}
use Rattle.rpki_resources.specs.declared.choice_view.ChoiceView.TheVariants.{Missing, Inherit, Blocks}
use Rattle.rpki_resources.specs.declared.ip_view.IpResourcesView.{IpResourcesView}
use Rattle.rpki_resources.specs.Extension.{SpellsIpResources, SpellsAsResources}
use Rattle.rpki_cert.specs.ResourceExtensions.{addresses_of, numbers_of, are_own_addresses, are_own_numbers, SaysThat}

-- nothing is listed
abbrev pub is_unlisted : ChoiceView → Bool
is_unlisted Missing = true
is_unlisted Inherit = true
is_unlisted (Blocks x) = false

abbrev pub are_unlisted_addresses : Option IpResourcesView → Bool
are_unlisted_addresses None = true
are_unlisted_addresses (Some x) = is_unlisted x.v4 && is_unlisted x.v6

abbrev pub are_unlisted_numbers : Option ChoiceView → Bool
are_unlisted_numbers None = true
are_unlisted_numbers (Some v) = is_unlisted v

-- all that is named are the issuer's (RFC 9286 5.1)
pub record AreInherited (xs : List ExtensionParts) : Type 0 where
  pub addresses : SaysThat SpellsIpResources (addresses_of xs) are_unlisted_addresses
  pub numbers : SaysThat SpellsAsResources (numbers_of xs) are_unlisted_numbers

-- an extension of addresses is there, or of numbers
abbrev pub HasAddresses : List ExtensionParts → Type 0
HasAddresses xs = addresses_of xs ≢ None

abbrev pub HasNumbers : List ExtensionParts → Type 0
HasNumbers xs = numbers_of xs ≢ None

-- no such extension is there
abbrev pub HasNoAddresses : List ExtensionParts → Type 0
HasNoAddresses xs = addresses_of xs ≡ None

abbrev pub HasNoNumbers : List ExtensionParts → Type 0
HasNoNumbers xs = numbers_of xs ≡ None

-- they aren't the issuer's
abbrev pub AreOwnAddresses : List ExtensionParts → Type 0
AreOwnAddresses xs = SaysThat SpellsIpResources (addresses_of xs) are_own_addresses

abbrev pub AreOwnNumbers : List ExtensionParts → Type 0
AreOwnNumbers xs = SaysThat SpellsAsResources (numbers_of xs) are_own_numbers
