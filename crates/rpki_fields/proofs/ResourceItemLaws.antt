-- Blocks of resources as items: numbers of their kind, and one item for each.
use Rattle.std.proofs.Common.{◌≡◌, ◌<◌, ◌-◌, ℕ, zero, suc, List, [], ◌∷◌, length, get_or, sym, ap, subst, ◌∙◌}
use Rattle.std.proofs.Common.{arith, refl, inl, inr}
use Rattle.std.specs.Prelude.{Option, Some, None, codes}
use Rattle.rpki.specs.ExtensionValue.{ExtensionParts}
use Rattle.rpki_resources.specs.declared.block.Block.{Block}
use Rattle.rpki_resources.specs.declared.choice_view.ChoiceView.{ChoiceView}
use Rattle.rpki_resources.specs.declared.choice_view.ChoiceView.TheVariants.{Missing, Inherit, Blocks}
use Rattle.rpki_resources.specs.declared.family.AddressFamily.{AddressFamily}
use Rattle.rpki_resources.specs.declared.ip_text.IpBlock.{IpBlock}
use Rattle.rpki_resources.specs.declared.ip_text.IpBlock.TheVariants.{Prefix, Range}
use Rattle.rpki_resources.specs.declared.ip_view.IpResourcesView.{IpResourcesView}
use Rattle.rpki_resources.specs.declared.kind.ResourceKind.{ResourceKind}
use Rattle.rpki_resources.specs.declared.kind.ResourceKind.TheVariants.{Addresses, AsNumbers}
use Rattle.rpki_resources.specs.Address.{width}
use Rattle.rpki_resources.specs.Encoded.{IsBlockOf, AreBlocksOf}
use Rattle.rpki_resources.specs.InPlace.{Octets}
use Rattle.rpki_resources.specs.Text.{IsIpBlockOf}
use Rattle.rpki_resources.proofs.ListTextLaws.{address-text, ip-block}
use Rattle.rpki_fields.specs.EachIs.{EachIs}
use Rattle.rpki_fields.specs.Field.{FieldParts, field_parts}
use Rattle.rpki_fields.specs.ResourceItems.{address_item, IsBlockItem, AreBlockItems, AreChoiceItems, AreFamilyItems}
use Rattle.rpki_fields.specs.ResourceItems.{AreAsItems, AreAddressItems, AreNumberItems, AreResourceItems}
use Rattle.rpki_fields.proofs.EachIsLaws.{one-each}

-- each of blocks of a kind is one
pub of-kind-at : (kind : ResourceKind) (bs : List Block) (i : ℕ) (d : Block) → AreBlocksOf kind bs → i < length bs
    → IsBlockOf kind (get_or bs i d)
of-kind-at kind [] i d h lt = absurd (omega (arith, lt))
of-kind-at kind (x ∷ xs) zero d h lt = h.0
of-kind-at kind (x ∷ xs) (suc i) d h lt = of-kind-at kind xs i d h.1 (omega (arith, lt))

-- ---- a block has one item

one-address-item : (family : AddressFamily) (b : Block) (x y : IpBlock) → IsIpBlockOf family x b
    → IsIpBlockOf family y b → address_item x ≡ address_item y
one-address-item family b (Prefix p) (Prefix q) g h =
    ap (λ (text : List ℕ). field_parts (codes "IP Prefix") text ∷ [])
    (ip-block family (Prefix p) b g ∙ sym (ip-block family (Prefix q) b h))
one-address-item family b (Prefix p) (Range r) g h =
    absurd (h.2 (g.shared.0, width family - p.len, g.shared.1, g.shared.2))
one-address-item family b (Range r) (Prefix q) g h =
    absurd (g.2 (h.shared.0, width family - q.len, h.shared.1, h.shared.2))
one-address-item family b (Range r) (Range s) g h =
    let low = address-text family r.min b.low g.0 ∙ sym (address-text family s.min b.low h.0) in
    let high = address-text family r.max b.high g.1 ∙ sym (address-text family s.max b.high h.1) in
    rw (low, high) refl

one-block-item : (kind : ResourceKind) (b : Block) (x y : List FieldParts) → IsBlockItem kind b x → IsBlockItem kind b y
    → x ≡ y
one-block-item (Addresses family) b x y g h = g.2 ∙ one-address-item family b g.0 h.0 g.1 h.1 ∙ sym h.2
one-block-item AsNumbers b x y g h = g ∙ sym h

-- ---- and so has each kind, and each extension

one-block-items : (o : Octets) (xs ys : List (List FieldParts)) → AreBlockItems o xs → AreBlockItems o ys → xs ≡ ys
one-block-items o xs ys g h =
    let same : g.0 ≡ h.0 = h.1.1 g.0 g.1.0 in
    one-each (IsBlockItem o.kind) (one-block-item o.kind) h.0 xs ys
    (subst (λ (bs : List Block). EachIs (IsBlockItem o.kind) bs xs) same g.2) h.2

pub one-choice-items : (inherit : List ℕ) (v : ChoiceView) (xs ys : List (List FieldParts))
    → AreChoiceItems inherit v xs → AreChoiceItems inherit v ys → xs ≡ ys
one-choice-items inherit Missing xs ys g h = g ∙ sym h
one-choice-items inherit Inherit xs ys g h = g ∙ sym h
one-choice-items inherit (Blocks o) xs ys g h = one-block-items o xs ys g h

pub one-family-items : (v : Option IpResourcesView) (xs ys : List (List FieldParts)) → AreFamilyItems v xs
    → AreFamilyItems v ys → xs ≡ ys
one-family-items None xs ys g h = g ∙ sym h
one-family-items (Some x) xs ys g h =
    let v4 = one-choice-items (codes "IP Inherit") x.v4 g.0 h.0 g.2 h.2 in
    let v6 = one-choice-items (codes "IP Inherit") x.v6 g.1 h.1 g.3 h.3 in
    (rw (v4, v6) at g.4) ∙ sym h.4

one-as-items : (v : Option ChoiceView) (xs ys : List (List FieldParts)) → AreAsItems v xs → AreAsItems v ys → xs ≡ ys
one-as-items None xs ys g h = g ∙ sym h
one-as-items (Some v) xs ys g h = one-choice-items (codes "ASID Inherit") v xs ys g h

one-address-items : (es : List ExtensionParts) (xs ys : List (List FieldParts)) → AreAddressItems es xs
    → AreAddressItems es ys → xs ≡ ys
one-address-items es xs ys (inl g) (inl h) =
    let same = h.1.1 g.0 g.1.0 in
    one-family-items h.0 xs ys (subst (λ (v : Option IpResourcesView). AreFamilyItems v xs) same g.2) h.2
one-address-items es xs ys (inl g) (inr h) = absurd (h.0 g.0 g.1.0)
one-address-items es xs ys (inr g) (inl h) = absurd (g.0 h.0 h.1.0)
one-address-items es xs ys (inr g) (inr h) = g.1 ∙ sym h.1

one-number-items : (es : List ExtensionParts) (xs ys : List (List FieldParts)) → AreNumberItems es xs
    → AreNumberItems es ys → xs ≡ ys
one-number-items es xs ys (inl g) (inl h) =
    let same = h.1.1 g.0 g.1.0 in
    one-as-items h.0 xs ys (subst (λ (v : Option ChoiceView). AreAsItems v xs) same g.2) h.2
one-number-items es xs ys (inl g) (inr h) = absurd (h.0 g.0 g.1.0)
one-number-items es xs ys (inr g) (inl h) = absurd (g.0 h.0 h.1.0)
one-number-items es xs ys (inr g) (inr h) = g.1 ∙ sym h.1

pub one-resource-items : (es : List ExtensionParts) (xs ys : List (List FieldParts)) → AreResourceItems es xs
    → AreResourceItems es ys → xs ≡ ys
one-resource-items es xs ys g h =
    let numbers = one-number-items es g.0 h.0 g.2 h.2 in
    let addresses = one-address-items es g.1 h.1 g.3 h.3 in
    (rw (numbers, addresses) at g.4) ∙ sym h.4
