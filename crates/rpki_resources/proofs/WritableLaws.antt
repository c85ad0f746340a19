-- Resources that contents spell can be written.
use Rattle.std.proofs.Common.{◌≡◌, ◌≢◌, ◌≤◌, ◌<◌, ◌-◌, ◌+◌, ◌*◌, ◌^◌, inl, inr, ℕ, suc, List, [], ◌∷◌, refl, sym, ap}
use Rattle.std.proofs.Common.{subst, ◌∙◌, arith}
use Rattle.std.proofs.Math.Nat.{mul-le-mul_right}
use Rattle.std.proofs.lemmas.Nat.{pow-add, pow_pos}
use Rattle.rpki_der.specs.Each.{SpellsEach}
use Rattle.rpki_resources.specs.declared.address.Address.{Address}
use Rattle.rpki_resources.specs.declared.block.Block.{Block}
use Rattle.rpki_resources.specs.declared.kind.ResourceKind.{ResourceKind}
use Rattle.rpki_resources.specs.declared.kind.ResourceKind.TheVariants.{Addresses, AsNumbers}
use Rattle.rpki_resources.specs.declared.family.AddressFamily.TheVariants.{Ipv4, Ipv6}
use Rattle.rpki_resources.specs.declared.choice.ResourcesChoice.{ResourcesChoice}
use Rattle.rpki_resources.specs.declared.choice.ResourcesChoice.TheVariants.{Missing, Inherit, Blocks}
use Rattle.rpki_resources.specs.declared.choice_view.ChoiceView.{ChoiceView}
use Rattle.rpki_resources.specs.declared.choice_view.ChoiceView.TheVariants.{Missing as NoneThere}
use Rattle.rpki_resources.specs.declared.choice_view.ChoiceView.TheVariants.{Inherit as InheritThere}
use Rattle.rpki_resources.specs.declared.choice_view.ChoiceView.TheVariants.{Blocks as BlocksThere}
use Rattle.rpki_resources.specs.declared.ip_view.IpResourcesView.{IpResourcesView}
use Rattle.rpki_resources.specs.declared.resources.IpResources.{IpResources}
use Rattle.rpki_resources.specs.declared.resources.AsResources.{AsResources}
use Rattle.rpki_resources.specs.Address.{width, address, block, high_end}
use Rattle.rpki_resources.specs.AsNumber.{as_block}
use Rattle.rpki_resources.specs.Listed.{block_of}
use Rattle.rpki_resources.specs.Extension.{SpellsChoice, AreFamilies}
use Rattle.rpki_resources.specs.Extension.AreFamilies.{OnlyV4, OnlyV6, BothFamilies}
use Rattle.rpki_resources.specs.Kept.{IsChoiceOf, SpellsIp, SpellsAs}
use Rattle.rpki_resources.specs.Encoded.{IsBlockOf, AreBlocksOf}
use Rattle.rpki_resources.specs.EncodedResources.{IsOfKind, CanWriteIp, CanWriteAs}
use Rattle.rpki_resources.proofs.FollowLaws.{block-ascends}

-- the highest address that begins with bits is one of the width
highest-below : (w : ℕ) (x : Address) (p : List ℕ) → (address w).spells x p → high_end w x < 2 ^ w
highest-below w x p h =
    let few = h.spelled.few in
    let rest = w - x.size in
    let whole : 2 ^ (x.size + rest) ≡ 2 ^ x.size * 2 ^ rest = pow-add 2 x.size rest in
    let size : x.size + rest ≡ w = omega arith in
    let most : suc x.number * 2 ^ rest ≤ 2 ^ x.size * 2 ^ rest = mul-le-mul_right (2 ^ rest) h.spelled.has.below in
    let all : 2 ^ w ≡ 2 ^ x.size * 2 ^ rest = subst (λ (k : ℕ). 2 ^ k ≡ 2 ^ x.size * 2 ^ rest) size whole in
    let some : 0 < 2 ^ w = pow_pos w in
    omega (arith, most, all, some)

below-width : (w : ℕ) (b : Block) (p : List ℕ) → (block w).spells b p → b.high < 2 ^ w
below-width w b p (inl h) =
    let ends = h.spelled in
    let below = highest-below w ends.value.1 ends.spelled.second ends.spelled.two in
    omega (arith, below, ends.stands.high)
below-width w b p (inr h) =
    let below = highest-below w h.value p h.spelled in
    let is : b.high ≡ high_end w h.value = ap (λ (d : Block). d.high) h.stands in
    omega (arith, below, is)

below-32 : (b : Block) (p : List ℕ) → as_block.spells b p → b.high < 2 ^ 32
below-32 b p (inl h) =
    let ends = h.spelled in
    omega (arith, ends.spelled.two.spelled.below, ends.stands.high)
below-32 b p (inr h) = omega (arith, h.spelled.spelled.below, h.stands.1)

fits : (kind : ResourceKind) (b : Block) (p : List ℕ) → (block_of kind).spells b p → IsBlockOf kind b
fits (Addresses family) b p h = (block-ascends (Addresses family) b p h, below-width (width family) b p h)
fits AsNumbers b p h = (block-ascends AsNumbers b p h, below-32 b p h)

-- blocks that contents spell have numbers of their kind
pub all-fit : (kind : ResourceKind) (bs : List Block) (c : List ℕ) → SpellsEach (block_of kind).spells bs c
    → AreBlocksOf kind bs
all-fit kind [] c h = tt
all-fit kind (b ∷ bs) c h = (fits kind b h.1.front h.1.spelled, all-fit kind bs h.0 h.2)

-- ---- resources of one kind

pub there : (v : ChoiceView) (a : ResourcesChoice) → IsChoiceOf a v → (v ≡ NoneThere → ⊥) → a ≢ Missing
there NoneThere a is some e = some refl
there InheritThere Missing is some e = is
there InheritThere Inherit is some e = cc
there InheritThere (Blocks bs) is some e = is
there (BlocksThere x) Missing is some e = is
there (BlocksThere x) Inherit is some e = is
there (BlocksThere x) (Blocks bs) is some e = cc

pub some-there : (kind : ResourceKind) (v : ChoiceView) (p : List ℕ) → SpellsChoice kind v p → v ≡ NoneThere → ⊥
some-there kind v p (inl h) e = let no = sym e ∙ h.stands in absurd (cc)
some-there kind v p (inr h) e = let no = sym e ∙ h.stands in absurd (cc)

of-kind : (kind : ResourceKind) (v : ChoiceView) (p : List ℕ) (a : ResourcesChoice) → SpellsChoice kind v p
    → IsChoiceOf a v
    → IsOfKind kind a
of-kind kind v p Missing h is = tt
of-kind kind v p Inherit h is = tt
of-kind kind v p (Blocks bs) (inl h) is = absurd (subst (IsChoiceOf (Blocks bs)) h.stands is)
of-kind kind v p (Blocks bs) (inr h) is =
    let held = subst (IsChoiceOf (Blocks bs)) h.stands is in
    let blocks = held.blocks in
    record {
      some = blocks.some;
      canonical = blocks.canonical;
      fit = subst (λ (k : ResourceKind). AreBlocksOf k bs) h.spelled.spelled.kind_is
          (all-fit h.value.kind bs h.value.octets blocks.each);
    }

missing : (kind : ResourceKind) (a : ResourcesChoice) → IsChoiceOf a NoneThere → IsOfKind kind a
missing kind Missing is = tt
missing kind Inherit is = tt
missing kind (Blocks bs) is = absurd is

-- ---- both extensions

pub ip-writable : (x : IpResources) (p : List ℕ) → SpellsIp x p → CanWriteIp x
ip-writable x p h = by_families h.spelled.spelled where
  by_families : AreFamilies h.value h.spelled.contents → CanWriteIp x
  by_families (OnlyV4 v e s) =
      let v4 = subst (λ (y : IpResourcesView). IsChoiceOf x.v4 y.v4) e h.stands.0 in
      let v6 = subst (λ (y : IpResourcesView). IsChoiceOf x.v6 y.v6) e h.stands.1 in
      let choice = s.spelled.two in
      record {
        some = inl (there v x.v4 v4 (some-there (Addresses Ipv4) v s.spelled.second choice));
        v4 = of-kind (Addresses Ipv4) v s.spelled.second x.v4 choice v4;
        v6 = missing (Addresses Ipv6) x.v6 v6;
      }
  by_families (OnlyV6 v e s) =
      let v4 = subst (λ (y : IpResourcesView). IsChoiceOf x.v4 y.v4) e h.stands.0 in
      let v6 = subst (λ (y : IpResourcesView). IsChoiceOf x.v6 y.v6) e h.stands.1 in
      let choice = s.spelled.two in
      record {
        some = inr (there v x.v6 v6 (some-there (Addresses Ipv6) v s.spelled.second choice));
        v4 = missing (Addresses Ipv4) x.v4 v4;
        v6 = of-kind (Addresses Ipv6) v s.spelled.second x.v6 choice v6;
      }
  by_families (BothFamilies v w e s) =
      let v4 = subst (λ (y : IpResourcesView). IsChoiceOf x.v4 y.v4) e h.stands.0 in
      let v6 = subst (λ (y : IpResourcesView). IsChoiceOf x.v6 y.v6) e h.stands.1 in
      let one = s.one.spelled.two in
      let two = s.two.spelled.two in
      record {
        some = inl (there v x.v4 v4 (some-there (Addresses Ipv4) v s.one.spelled.second one));
        v4 = of-kind (Addresses Ipv4) v s.one.spelled.second x.v4 one v4;
        v6 = of-kind (Addresses Ipv6) w s.two.spelled.second x.v6 two v6;
      }

pub as-writable : (x : AsResources) (p : List ℕ) → SpellsAs x p → CanWriteAs x
as-writable x p h =
    let inside = h.spelled.spelled in
    let choice = inside.spelled in
    record {
      some = there h.value x.numbers h.stands (some-there AsNumbers h.value inside.contents choice);
      numbers = of-kind AsNumbers h.value inside.contents x.numbers choice h.stands;
    }
