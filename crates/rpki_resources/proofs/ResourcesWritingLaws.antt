-- Resources that are written: how short they are, and that they are read as themselves.
use Rattle.std.proofs.Common.{◌≢◌, ◌≤◌, ◌<◌, ◌↔◌, ◌^◌, ◌⊎◌, inl, inr, ℕ, true, false, List, ◌++◌, length, length-append}
use Rattle.std.proofs.Common.{refl, sym, subst, arith, lit<}
use Rattle.std.proofs.lemmas.List.{append-nil}
use Rattle.rpki_der.specs.TagName.{sequence, octet_string}
use Rattle.rpki_der.specs.Header.{tlv}
use Rattle.rpki_der.specs.ValueListLaws.{sequence_legal, octet_string_legal}
use Rattle.rpki_der.proofs.EncodeLaws.{tlv-at-least, leaf-legal}
use Rattle.rpki_der.proofs.LeafWritingLaws.{null-back}
use Rattle.rpki_resources.specs.declared.block.Block.{Block}
use Rattle.rpki_resources.specs.declared.kind.ResourceKind.{ResourceKind}
use Rattle.rpki_resources.specs.declared.kind.ResourceKind.TheVariants.{Addresses, AsNumbers}
use Rattle.rpki_resources.specs.declared.family.AddressFamily.{AddressFamily}
use Rattle.rpki_resources.specs.declared.family.AddressFamily.TheVariants.{Ipv4, Ipv6}
use Rattle.rpki_resources.specs.declared.choice.ResourcesChoice.{ResourcesChoice}
use Rattle.rpki_resources.specs.declared.choice.ResourcesChoice.TheVariants.{Missing, Inherit, Blocks}
use Rattle.rpki_resources.specs.declared.choice_view.ChoiceView.{ChoiceView}
use Rattle.rpki_resources.specs.declared.choice_view.ChoiceView.TheVariants.{Missing as NoneThere}
use Rattle.rpki_resources.specs.declared.choice_view.ChoiceView.TheVariants.{Inherit as InheritThere}
use Rattle.rpki_resources.specs.declared.choice_view.ChoiceView.TheVariants.{Blocks as BlocksThere}
use Rattle.rpki_resources.specs.declared.ip_view.IpResourcesView.{IpResourcesView}
use Rattle.rpki_resources.specs.declared.resources.IpResources.{IpResources}
use Rattle.rpki_resources.specs.declared.resources.AsResources.{AsResources}
use Rattle.rpki_resources.specs.Address.{family_octets}
use Rattle.rpki_resources.specs.InPlace.{octets_of, Holds, IsListed}
use Rattle.rpki_resources.specs.Extension.{SpellsChoice, as_numbers, asnum, IsFamily, family_parts, SpellsNamed}
use Rattle.rpki_resources.specs.Extension.{families, AreFamilies}
use Rattle.rpki_resources.specs.Extension.AreFamilies.{OnlyV4, OnlyV6, BothFamilies}
use Rattle.rpki_resources.specs.Kept.{IsChoiceOf, SpellsIp, SpellsAs}
use Rattle.rpki_resources.specs.Encoded.{blocks_octets}
use Rattle.rpki_resources.specs.EncodedResources.{AreListed, IsOfKind, choice_octets, IsShortChoice, named_contents}
use Rattle.rpki_resources.specs.EncodedResources.{named_octets, IsShortNamed, ip_contents, ip_octets, CanWriteIp}
use Rattle.rpki_resources.specs.EncodedResources.{IsShortIp, as_identifiers_octets, CanWriteAs, IsShortAs}
use Rattle.rpki_resources.specs.EncodedResourcesLaws.{as_numbers_legal}
use Rattle.rpki_resources.proofs.BlockReadBackLaws.{blocks-back}

-- ---- how short they are

-- a length that announces all announces each family
pub short-named : (family : AddressFamily) (choice : ResourcesChoice) (n : ℕ) → length (named_octets family choice) ≤ n
    → n < 2 ^ 32
    → IsShortNamed family choice
short-named family Missing n le lt = tt
short-named family Inherit n le lt = omega (arith, tlv-at-least sequence true (named_contents family Inherit), le, lt)
short-named family (Blocks bs) n le lt = omega
    (arith, tlv-at-least sequence true (named_contents family (Blocks bs)), le, lt)

pub ip-short : {A B : Type 0} (x : IpResources) → (A ↔ IsShortNamed Ipv4 x.v4) → (B ↔ IsShortNamed Ipv6 x.v6)
    → ((A × B) × (length (ip_contents x) < 2 ^ 32)) ↔ IsShortIp x
ip-short x one two =
    let sizes = length-append (named_octets Ipv4 x.v4) (named_octets Ipv6 x.v6) in (
      λ h. h.1,
      λ few. (
        (
          one.1 (short-named Ipv4 x.v4 (length (ip_contents x)) (omega (arith, sizes)) few),
          two.1 (short-named Ipv6 x.v6 (length (ip_contents x)) (omega (arith, sizes)) few),
        ),
        few,
      ),
    )

-- ---- they are read back

-- what is read in place of what is written
abbrev pub view_of : ResourceKind → ResourcesChoice → ChoiceView
view_of kind Missing = NoneThere
view_of kind Inherit = InheritThere
view_of kind (Blocks bs) = BlocksThere (octets_of kind (blocks_octets kind bs) (length bs))

held : (kind : ResourceKind) (bs : List Block) → AreListed kind bs
    → Holds (octets_of kind (blocks_octets kind bs) (length bs)) bs
held kind bs h = record { blocks = blocks-back kind bs h.fit h.canonical h.some; count = refl }

choice-of : (kind : ResourceKind) (choice : ResourcesChoice) → IsOfKind kind choice
    → IsChoiceOf choice (view_of kind choice)
choice-of kind Missing h = tt
choice-of kind Inherit h = tt
choice-of kind (Blocks bs) h = held kind bs h

choice-back : (kind : ResourceKind) (choice : ResourcesChoice) → choice ≢ Missing → IsOfKind kind choice
    → IsShortChoice kind choice
    → SpellsChoice kind (view_of kind choice) (choice_octets kind choice)
choice-back kind Missing some h short = absurd (some refl)
choice-back kind Inherit some h short = inl (record { value = tt; spelled = null-back; stands = refl })
choice-back kind (Blocks bs) some h short =
    let c = blocks_octets kind bs in
    let x = octets_of kind c (length bs) in
    inr (record {
      value = x;
      spelled = leaf-legal sequence true (IsListed kind) x c sequence_legal short
          (record { kind_is = refl; octets = refl; held = (bs, held kind bs h) });
      stands = refl;
    })

family-few : (family : AddressFamily) → length (family_octets family) < 2 ^ 32
family-few Ipv4 = lit< tt
family-few Ipv6 = lit< tt

name-back : (family : AddressFamily) (v : ChoiceView) (octets : List ℕ) → SpellsChoice (Addresses family) v octets
    → length (tlv octet_string false (family_octets family) ++ octets) < 2 ^ 32
    → SpellsNamed (family, v) (tlv sequence true (tlv octet_string false (family_octets family) ++ octets))
name-back family v octets h short =
    let name = tlv octet_string false (family_octets family) in
    leaf-legal sequence true family_parts.spells (family, v) (name ++ octets) sequence_legal short (record {
      first = name;
      second = octets;
      parts = refl;
      one = leaf-legal octet_string false IsFamily family (family_octets family) octet_string_legal
          (family-few family) refl;
      two = h;
    })

-- a length that announces the name and the resources announces the blocks
pub choice-short : (family : AddressFamily) (choice : ResourcesChoice) → IsShortNamed family choice
    → IsShortChoice (Addresses family) choice
choice-short family Missing h = tt
choice-short family Inherit h = tt
choice-short family (Blocks bs) h =
    let c = blocks_octets (Addresses family) bs in
    omega (
      arith,
      h,
      tlv-at-least sequence true c,
      length-append (tlv octet_string false (family_octets family)) (tlv sequence true c),
    )

named-back : (family : AddressFamily) (choice : ResourcesChoice) → choice ≢ Missing
    → IsOfKind (Addresses family) choice → IsShortNamed family choice
    → SpellsNamed (family, view_of (Addresses family) choice) (named_octets family choice)
named-back family Missing some h short = absurd (some refl)
named-back family Inherit some h short =
    name-back family InheritThere (choice_octets (Addresses family) Inherit)
    (choice-back (Addresses family) Inherit some h tt) short
named-back family (Blocks bs) some h short =
    name-back family (view_of (Addresses family) (Blocks bs)) (choice_octets (Addresses family) (Blocks bs))
    (choice-back (Addresses family) (Blocks bs) some h (choice-short family (Blocks bs) short)) short

listed-there : (bs : List Block) → Blocks bs ≢ Missing
listed-there bs e = cc

inherit-there : Inherit ≢ Missing
inherit-there e = cc

abbrev both : ResourcesChoice → ResourcesChoice → IpResourcesView
both a b = families (view_of (Addresses Ipv4) a) (view_of (Addresses Ipv6) b)

first-there : (a b : ResourcesChoice) → a ≢ Missing → IsOfKind (Addresses Ipv4) a → IsOfKind (Addresses Ipv6) b
    → IsShortNamed Ipv4 a → IsShortNamed Ipv6 b → AreFamilies (both a b) (named_octets Ipv4 a ++ named_octets Ipv6 b)
first-there a Missing some h k one two =
    OnlyV4 (view_of (Addresses Ipv4) a) refl
    (subst (SpellsNamed (Ipv4, view_of (Addresses Ipv4) a)) (sym (append-nil (named_octets Ipv4 a)))
    (named-back Ipv4 a some h one))
first-there a Inherit some h k one two = BothFamilies (view_of (Addresses Ipv4) a) InheritThere refl (record {
  first = named_octets Ipv4 a;
  second = named_octets Ipv6 Inherit;
  parts = refl;
  one = named-back Ipv4 a some h one;
  two = named-back Ipv6 Inherit inherit-there k two;
})
first-there a (Blocks bs) some h k one two = BothFamilies (view_of (Addresses Ipv4) a)
    (view_of (Addresses Ipv6) (Blocks bs)) refl (record {
      first = named_octets Ipv4 a;
      second = named_octets Ipv6 (Blocks bs);
      parts = refl;
      one = named-back Ipv4 a some h one;
      two = named-back Ipv6 (Blocks bs) (listed-there bs) k two;
    })

families-back : (a b : ResourcesChoice) → (a ≢ Missing) ⊎ (b ≢ Missing) → IsOfKind (Addresses Ipv4) a
    → IsOfKind (Addresses Ipv6) b
    → IsShortNamed Ipv4 a → IsShortNamed Ipv6 b → AreFamilies (both a b) (named_octets Ipv4 a ++ named_octets Ipv6 b)
families-back Missing b some h k one two =
    let there : b ≢ Missing = elim some [ inl none ↦ absurd (none refl) | inr other ↦ other ] in
    OnlyV6 (view_of (Addresses Ipv6) b) refl (named-back Ipv6 b there k two)
families-back Inherit b some h k one two = first-there Inherit b inherit-there h k one two
families-back (Blocks bs) b some h k one two = first-there (Blocks bs) b (listed-there bs) h k one two

-- what is written of IP resources is read as them
pub ip-back : (x : IpResources) → CanWriteIp x → IsShortIp x → SpellsIp x (ip_octets x)
ip-back x can short =
    let sizes = length-append (named_octets Ipv4 x.v4) (named_octets Ipv6 x.v6) in
    let one = short-named Ipv4 x.v4 (length (ip_contents x)) (omega (arith, sizes)) short in
    let two = short-named Ipv6 x.v6 (length (ip_contents x)) (omega (arith, sizes)) short in
    record {
      value = both x.v4 x.v6;
      spelled = leaf-legal sequence true AreFamilies (both x.v4 x.v6) (ip_contents x) sequence_legal short
          (families-back x.v4 x.v6 can.some can.v4 can.v6 one two);
      stands = (choice-of (Addresses Ipv4) x.v4 can.v4, choice-of (Addresses Ipv6) x.v6 can.v6);
    }

pub numbers-short : (choice : ResourcesChoice) → length (tlv as_numbers true (choice_octets AsNumbers choice)) < 2 ^ 32
    → IsShortChoice AsNumbers choice
numbers-short Missing h = tt
numbers-short Inherit h = tt
numbers-short (Blocks bs) h =
    let c = blocks_octets AsNumbers bs in
    omega (arith, h, tlv-at-least as_numbers true (tlv sequence true c), tlv-at-least sequence true c)

-- and of AS resources
pub as-back : (x : AsResources) → CanWriteAs x → IsShortAs x → SpellsAs x (as_identifiers_octets x)
as-back x can short =
    let v = view_of AsNumbers x.numbers in
    let c = choice_octets AsNumbers x.numbers in
    let inside : asnum.spells v (tlv as_numbers true c) =
    leaf-legal as_numbers true (SpellsChoice AsNumbers) v c as_numbers_legal
    (omega (arith, short, tlv-at-least as_numbers true c))
    (choice-back AsNumbers x.numbers can.some can.numbers (numbers-short x.numbers short)) in
    record {
      value = v;
      spelled = leaf-legal sequence true asnum.spells v (tlv as_numbers true c) sequence_legal short inside;
      stands = choice-of AsNumbers x.numbers can.numbers;
    }
