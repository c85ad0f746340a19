-- What is shown of resources (RFC 3779, RFC 6487 4.8.10, 4.8.11, RFC 8360 4.2.2).
use Rattle.std.specs.Prelude.{◌≡◌, ◌⊎◌, ℕ, true, List, [], ◌∷◌, ◌++◌, codes, Option, Some, None}
use Rattle.rpki.specs.ExtensionValue.{ExtensionParts}
use Rattle.rpki_resources.specs.declared.block.Block.{Block}
use Rattle.rpki_resources.specs.declared.choice_view.ChoiceView.{ChoiceView}
use Rattle.rpki_resources.specs.declared.choice_view.ChoiceView.TheVariants.{Missing, Inherit, Blocks}
use Rattle.rpki_resources.specs.declared.ip_view.IpResourcesView.{IpResourcesView}
use Rattle.rpki_resources.specs.Extension.{SpellsIpResources, SpellsAsResources}
use Rattle.rpki_resources.specs.InPlace.{Octets, HoldsOnly}
use Rattle.rpki_resources.specs.ListText.{blocks_text}
use Rattle.rpki_cert.specs.Known.{SaysOnly, SaysNone}
use Rattle.rpki_cert.specs.ResourceExtensions.{addresses_of, numbers_of}
use Rattle.rpki_fields.specs.Field.{FieldParts, field_parts, field_if, other_text}

-- the blocks that these octets are, in order
abbrev pub IsListText : Octets → List ℕ → Type 0
IsListText x text = (bs : List Block) × HoldsOnly x bs × (text ≡ blocks_text x.kind bs)

-- resources of one kind: nothing where the kind isn't named; a word where they are those of the issuer; else the blocks
abbrev pub IsChoiceText : ChoiceView → Option (List ℕ) → Type 0
IsChoiceText Missing o = o ≡ None
IsChoiceText Inherit o = o ≡ Some (codes "inherit")
IsChoiceText (Blocks x) o = (text : List ℕ) × IsListText x text × (o ≡ Some text)

-- a kind under a label
abbrev pub AreKind : List ℕ → ChoiceView → List FieldParts → Type 0
AreKind label v fields = (o : Option (List ℕ)) × IsChoiceText v o × (fields ≡ field_if label o)

-- ---- what the two extensions say

abbrev pub AreFamilies : Option IpResourcesView → List FieldParts → Type 0
AreFamilies None fields = fields ≡ []
AreFamilies (Some x) fields =
    (v4 v6 : List FieldParts) × AreKind (codes "IPv4") x.v4 v4 × AreKind (codes "IPv6") x.v6 v6 × (fields ≡ v4 ++ v6)

abbrev pub AreAsNumbers : Option ChoiceView → List FieldParts → Type 0
AreAsNumbers None fields = fields ≡ []
AreAsNumbers (Some v) fields = AreKind (codes "AS") v fields

-- that a kind is not as this section has it
abbrev pub other_field : (label section : List ℕ) → FieldParts
other_field label section = field_parts label (other_text section)

abbrev pub other_addresses : List FieldParts
other_addresses =
    other_field (codes "IPv4") (codes "RFC 6487 4.8.10") ∷ other_field (codes "IPv6") (codes "RFC 6487 4.8.10") ∷ []

abbrev pub other_numbers : List FieldParts
other_numbers = other_field (codes "AS") (codes "RFC 6487 4.8.11") ∷ []

-- the addresses; or that they are not as the profile has them
abbrev pub AreAddresses : List ExtensionParts → List FieldParts → Type 0
AreAddresses xs fields =
    ((v : Option IpResourcesView) × SaysOnly true SpellsIpResources (addresses_of xs) v × AreFamilies v fields)
    ⊎ (SaysNone true SpellsIpResources (addresses_of xs) × (fields ≡ other_addresses))

-- the AS numbers, in the same way
abbrev pub AreNumbers : List ExtensionParts → List FieldParts → Type 0
AreNumbers xs fields =
    ((v : Option ChoiceView) × SaysOnly true SpellsAsResources (numbers_of xs) v × AreAsNumbers v fields)
    ⊎ (SaysNone true SpellsAsResources (numbers_of xs) × (fields ≡ other_numbers))

abbrev pub AreResources : List ExtensionParts → List FieldParts → Type 0
AreResources xs fields =
    (addresses numbers : List FieldParts) × AreAddresses xs addresses × AreNumbers xs numbers
    × (fields ≡ addresses ++ numbers)
