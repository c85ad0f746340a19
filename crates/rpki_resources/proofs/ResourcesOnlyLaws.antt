-- Octets that spell resources are those that are written.
use Rattle.std.proofs.Common.{◌≡◌, ◌≢◌, inl, inr, ℕ, true, false, List, [], ◌++◌, refl, sym, ap, subst, ◌∙◌}
use Rattle.std.proofs.lemmas.List.{append-nil}
use Rattle.rpki_der.specs.TagName.{null, sequence, octet_string}
use Rattle.rpki_der.specs.Header.{tlv}
use Rattle.rpki_der.specs.Number.{AreOctets}
use Rattle.rpki_resources.specs.declared.kind.ResourceKind.{ResourceKind}
use Rattle.rpki_resources.specs.declared.kind.ResourceKind.TheVariants.{Addresses, AsNumbers}
use Rattle.rpki_resources.specs.declared.family.AddressFamily.{AddressFamily}
use Rattle.rpki_resources.specs.declared.family.AddressFamily.TheVariants.{Ipv4, Ipv6}
use Rattle.rpki_resources.specs.declared.choice.ResourcesChoice.{ResourcesChoice}
use Rattle.rpki_resources.specs.declared.choice.ResourcesChoice.TheVariants.{Missing, Inherit, Blocks}
use Rattle.rpki_resources.specs.declared.choice_view.ChoiceView.{ChoiceView}
use Rattle.rpki_resources.specs.declared.choice_view.ChoiceView.TheVariants.{Missing as NoneThere}
use Rattle.rpki_resources.specs.declared.choice_view.ChoiceView.TheVariants.{Inherit as InheritThere}
use Rattle.rpki_resources.specs.declared.choice_view.ChoiceView.TheVariants.{Blocks as BlocksThere}
use Rattle.rpki_resources.specs.declared.ip_view.IpResourcesView.{IpResourcesView}
use Rattle.rpki_resources.specs.declared.resources.IpResources.{IpResources}
use Rattle.rpki_resources.specs.declared.resources.AsResources.{AsResources}
use Rattle.rpki_resources.specs.Address.{family_octets}
use Rattle.rpki_resources.specs.InPlace.{Octets}
use Rattle.rpki_resources.specs.Extension.{SpellsChoice, SpellsNamed, AreFamilies, as_numbers}
use Rattle.rpki_resources.specs.Extension.AreFamilies.{OnlyV4, OnlyV6, BothFamilies}
use Rattle.rpki_resources.specs.Kept.{IsChoiceOf, SpellsIp, SpellsAs}
use Rattle.rpki_resources.specs.Encoded.{blocks_octets}
use Rattle.rpki_resources.specs.EncodedResources.{choice_octets, named_contents, named_octets, ip_contents, ip_octets}
use Rattle.rpki_resources.specs.EncodedResources.{as_identifiers_octets}
use Rattle.rpki_resources.proofs.WritableLaws.{there, some-there}
use Rattle.rpki_resources.proofs.BlocksOnlyLaws.{octets-behind, octets-before, octets-inside, blocks-written}

-- ---- resources of one kind

inherited : (kind : ResourceKind) (a : ResourcesChoice) → IsChoiceOf a InheritThere
    → tlv null false [] ≡ choice_octets kind a
inherited kind Missing is = absurd is
inherited kind Inherit is = refl
inherited kind (Blocks bs) is = absurd is

listed : (kind : ResourceKind) (x : Octets) (a : ResourcesChoice) → x.kind ≡ kind → AreOctets x.octets
    → IsChoiceOf a (BlocksThere x)
    → tlv sequence true x.octets ≡ choice_octets kind a
listed kind x Missing k o is = absurd is
listed kind x Inherit k o is = absurd is
listed kind x (Blocks bs) k o is =
    let written = blocks-written x.kind bs x.octets o is.blocks.each in
    ap (λ (c : List ℕ). tlv sequence true c) (written ∙ ap (λ (j : ResourceKind). blocks_octets j bs) k)

choice-written : (kind : ResourceKind) (v : ChoiceView) (a : ResourcesChoice) (p : List ℕ) → AreOctets p
    → SpellsChoice kind v p
    → IsChoiceOf a v → p ≡ choice_octets kind a
choice-written kind v a p o (inl h) is =
    h.spelled.value.octets ∙ ap (λ (c : List ℕ). tlv null false c) h.spelled.spelled
    ∙ inherited kind a (subst (IsChoiceOf a) h.stands is)
choice-written kind v a p o (inr h) is =
    let x = h.value in
    let octets = h.spelled.spelled.octets in
    let inside = octets-inside sequence true h.spelled.contents p h.spelled.value o in
    h.spelled.value.octets ∙ ap (λ (c : List ℕ). tlv sequence true c) (sym octets)
    ∙ listed kind x a h.spelled.spelled.kind_is (subst AreOctets (sym octets) inside) (subst (IsChoiceOf a) h.stands is)

-- ---- a family

named-is : (family : AddressFamily) (a : ResourcesChoice) → a ≢ Missing
    → tlv sequence true (named_contents family a) ≡ named_octets family a
named-is family Missing some = absurd (some refl)
named-is family Inherit some = refl
named-is family (Blocks bs) some = refl

no-name : (family : AddressFamily) (a : ResourcesChoice) → IsChoiceOf a NoneThere → named_octets family a ≡ []
no-name family Missing is = refl
no-name family Inherit is = absurd is
no-name family (Blocks bs) is = absurd is

named-written : (family : AddressFamily) (v : ChoiceView) (a : ResourcesChoice) (p : List ℕ) → AreOctets p
    → SpellsNamed (family, v) p → IsChoiceOf a v → p ≡ named_octets family a
named-written family v a p o h is =
    let s = h.spelled in
    let inside = subst AreOctets s.parts (octets-inside sequence true h.contents p h.value o) in
    let some = there v a is (some-there (Addresses family) v s.second s.two) in
    let name : s.first ≡ tlv octet_string false (family_octets family) =
    s.one.value.octets ∙ ap (λ (c : List ℕ). tlv octet_string false c) s.one.spelled in
    let choice = choice-written (Addresses family) v a s.second (octets-behind s.first s.second inside) s.two is in
    h.value.octets
    ∙ ap (λ (c : List ℕ). tlv sequence true c)
    (s.parts ∙ ap (λ (w : List ℕ). w ++ s.second) name
    ∙ ap (λ (w : List ℕ). tlv octet_string false (family_octets family) ++ w) choice) ∙ named-is family a some

-- ---- both extensions

pub ip-only : (x : IpResources) (p : List ℕ) → AreOctets p → SpellsIp x p → p ≡ ip_octets x
ip-only x p o h =
    h.spelled.value.octets ∙ ap (λ (c : List ℕ). tlv sequence true c) (by_families h.spelled.spelled) where
      inside : AreOctets h.spelled.contents
      inside = octets-inside sequence true h.spelled.contents p h.spelled.value o

      by_families : AreFamilies h.value h.spelled.contents → h.spelled.contents ≡ ip_contents x
      by_families (OnlyV4 v e s) =
          let v4 = subst (λ (y : IpResourcesView). IsChoiceOf x.v4 y.v4) e h.stands.0 in
          let v6 = subst (λ (y : IpResourcesView). IsChoiceOf x.v6 y.v6) e h.stands.1 in
          named-written Ipv4 v x.v4 h.spelled.contents inside s v4 ∙ sym (append-nil (named_octets Ipv4 x.v4))
          ∙ ap (λ (w : List ℕ). named_octets Ipv4 x.v4 ++ w) (sym (no-name Ipv6 x.v6 v6))
      by_families (OnlyV6 v e s) =
          let v4 = subst (λ (y : IpResourcesView). IsChoiceOf x.v4 y.v4) e h.stands.0 in
          let v6 = subst (λ (y : IpResourcesView). IsChoiceOf x.v6 y.v6) e h.stands.1 in
          named-written Ipv6 v x.v6 h.spelled.contents inside s v6
          ∙ ap (λ (w : List ℕ). w ++ named_octets Ipv6 x.v6) (sym (no-name Ipv4 x.v4 v4))
      by_families (BothFamilies v w e s) =
          let v4 = subst (λ (y : IpResourcesView). IsChoiceOf x.v4 y.v4) e h.stands.0 in
          let v6 = subst (λ (y : IpResourcesView). IsChoiceOf x.v6 y.v6) e h.stands.1 in
          let parts = subst AreOctets s.parts inside in
          let one = named-written Ipv4 v x.v4 s.first (octets-before s.first s.second parts) s.one v4 in
          let two = named-written Ipv6 w x.v6 s.second (octets-behind s.first s.second parts) s.two v6 in
          s.parts ∙ ap (λ (u : List ℕ). u ++ s.second) one ∙ ap (λ (u : List ℕ). named_octets Ipv4 x.v4 ++ u) two

pub as-only : (x : AsResources) (p : List ℕ) → AreOctets p → SpellsAs x p → p ≡ as_identifiers_octets x
as-only x p o h =
    let tagged = h.spelled.spelled in
    let inside = octets-inside sequence true h.spelled.contents p h.spelled.value o in
    let innermost = octets-inside as_numbers true tagged.contents h.spelled.contents tagged.value inside in
    h.spelled.value.octets
    ∙ ap (λ (c : List ℕ). tlv sequence true c)
    (tagged.value.octets ∙ ap (λ (c : List ℕ). tlv as_numbers true c)
    (choice-written AsNumbers h.value x.numbers tagged.contents innermost tagged.spelled h.stands))
