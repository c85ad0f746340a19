-- What JSON says of resources, block by block, under the names of `rpki-client -j` (RFC 3779, RFC 6487 4.8.10, 4.8.11).
use Rattle.std.specs.Prelude.{◌≡◌, ◌⊎◌, ◌==◌, ℕ, true, if◌then◌else◌, List, [], ◌∷◌, ◌++◌, codes, decimal}
use Rattle.std.specs.Prelude.{Option, Some, None}
use Rattle.std.specs.Net.Text.{ip_text}
use Rattle.rpki.specs.ExtensionValue.{ExtensionParts}
use Rattle.rpki_resources.specs.declared.block.Block.{Block}
use Rattle.rpki_resources.specs.declared.choice_view.ChoiceView.{ChoiceView}
use Rattle.rpki_resources.specs.declared.choice_view.ChoiceView.TheVariants.{Missing, Inherit, Blocks}
use Rattle.rpki_resources.specs.declared.ip_text.IpBlock.{IpBlock}
use Rattle.rpki_resources.specs.declared.ip_text.IpBlock.TheVariants.{Prefix, Range}
use Rattle.rpki_resources.specs.declared.ip_view.IpResourcesView.{IpResourcesView}
use Rattle.rpki_resources.specs.declared.kind.ResourceKind.{ResourceKind}
use Rattle.rpki_resources.specs.declared.kind.ResourceKind.TheVariants.{Addresses, AsNumbers}
use Rattle.rpki_resources.specs.Extension.{SpellsIpResources, SpellsAsResources}
use Rattle.rpki_resources.specs.InPlace.{Octets, HoldsOnly}
use Rattle.rpki_resources.specs.Text.{prefix_text, range_text, IsIpBlockOf}
use Rattle.rpki_cert.specs.Known.{SaysOnly, SaysNone}
use Rattle.rpki_cert.specs.ResourceExtensions.{addresses_of, numbers_of}
use Rattle.rpki_fields.specs.EachIs.{EachIs}
use Rattle.rpki_fields.specs.Field.{FieldParts, field_parts, json_parts, number_parts}

-- ---- one block

-- from the one to the other, each as JSON has it
abbrev pub ends_json : (low high : List ℕ) → List ℕ
ends_json low high = codes "{\"min\":" ++ low ++ codes ",\"max\":" ++ high ++ codes "}"

-- an address as a string: it has nothing that JSON escapes
abbrev pub quoted : List ℕ → List ℕ
quoted text = 34 ∷ text ++ 34 ∷ []

-- one AS number, or a range of them
abbrev pub number_item : Block → List FieldParts
number_item b =
    if b.low == b.high then number_parts (codes "ASID") b.low ∷ []
    else json_parts (codes "ASRange") (range_text (decimal b.low) (decimal b.high))
    (ends_json (decimal b.low) (decimal b.high)) ∷ []

-- a prefix, or a range of addresses
abbrev pub address_item : IpBlock → List FieldParts
address_item (Prefix p) = field_parts (codes "IP Prefix") (prefix_text (ip_text p.addr) p.len) ∷ []
address_item (Range r) =
    json_parts (codes "IP Range") (range_text (ip_text r.min) (ip_text r.max))
    (ends_json (quoted (ip_text r.min)) (quoted (ip_text r.max))) ∷ []

abbrev pub IsBlockItem : ResourceKind → Block → List FieldParts → Type 0
IsBlockItem (Addresses family) b item = (x : IpBlock) × IsIpBlockOf family x b × (item ≡ address_item x)
IsBlockItem AsNumbers b item = item ≡ number_item b

-- ---- one kind

-- the blocks that these octets are, in order
abbrev pub AreBlockItems : Octets → List (List FieldParts) → Type 0
AreBlockItems x items = (bs : List Block) × HoldsOnly x bs × EachIs (IsBlockItem x.kind) bs items

-- nothing where the kind isn't named; that the resources are those of the issuer, under this label; else the blocks
abbrev pub AreChoiceItems : (inherit : List ℕ) → ChoiceView → List (List FieldParts) → Type 0
AreChoiceItems inherit Missing items = items ≡ []
AreChoiceItems inherit Inherit items = items ≡ (field_parts inherit (codes "true") ∷ []) ∷ []
AreChoiceItems inherit (Blocks x) items = AreBlockItems x items

-- ---- what the two extensions say

abbrev pub AreFamilyItems : Option IpResourcesView → List (List FieldParts) → Type 0
AreFamilyItems None items = items ≡ []
AreFamilyItems (Some x) items =
    (v4 v6 : List (List FieldParts)) × AreChoiceItems (codes "IP Inherit") x.v4 v4
    × AreChoiceItems (codes "IP Inherit") x.v6 v6 × (items ≡ v4 ++ v6)

abbrev pub AreAsItems : Option ChoiceView → List (List FieldParts) → Type 0
AreAsItems None items = items ≡ []
AreAsItems (Some v) items = AreChoiceItems (codes "ASID Inherit") v items

-- the addresses; nothing where they are not as the profile has them
abbrev pub AreAddressItems : List ExtensionParts → List (List FieldParts) → Type 0
AreAddressItems xs items =
    ((v : Option IpResourcesView) × SaysOnly true SpellsIpResources (addresses_of xs) v × AreFamilyItems v items)
    ⊎ (SaysNone true SpellsIpResources (addresses_of xs) × (items ≡ []))

-- the AS numbers, in the same way
abbrev pub AreNumberItems : List ExtensionParts → List (List FieldParts) → Type 0
AreNumberItems xs items =
    ((v : Option ChoiceView) × SaysOnly true SpellsAsResources (numbers_of xs) v × AreAsItems v items)
    ⊎ (SaysNone true SpellsAsResources (numbers_of xs) × (items ≡ []))

-- AS numbers, and then addresses
abbrev pub AreResourceItems : List ExtensionParts → List (List FieldParts) → Type 0
AreResourceItems xs items =
    (numbers addresses : List (List FieldParts)) × AreNumberItems xs numbers × AreAddressItems xs addresses
    × (items ≡ numbers ++ addresses)
