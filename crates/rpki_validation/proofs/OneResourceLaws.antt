-- The contents of the extensions of resources have one reading.
use Rattle.std.proofs.Common.{◌≡◌, ◌⊎◌, inl, inr, ℕ, true, false, List, [], ◌∷◌, refl, ap, sym}
use Rattle.std.proofs.Common.{subst, ◌∙◌, arith, length, ◌^◌}
use Rattle.rpki_der.specs.Prelude.{TagName, Format, Spells, SpellsFor, SpellsBoth, SpellsEach, Then, HasTag, null}
use Rattle.rpki_der.specs.Prelude.{integer}
use Rattle.rpki_der.specs.Prelude.{bit_string, octet_string, sequence, IsNull, null_value}
use Rattle.rpki_der.specs.Integer.{IsUnsignedBelow}
use Rattle.rpki_der.proofs.ComposedLaws.{spelled-whole}
use Rattle.rpki_der.proofs.IntegerLaws.{one-number}
use Rattle.rpki_der.proofs.LeafValueLaws.{leaf-nowhere}
use Rattle.rpki_der.proofs.LeavesLaws.{leaf-tag}
use Rattle.rpki_der.proofs.OneFormatLaws.{leaf-lawful}
use Rattle.rpki_der.proofs.PartsLaws.{pair-is, first-of}
use Rattle.rpki_resources.specs.declared.block.Block.{Block}
use Rattle.rpki_resources.specs.declared.address.Address.{Address}
use Rattle.rpki_resources.specs.declared.family.AddressFamily.{AddressFamily}
use Rattle.rpki_resources.specs.declared.family.AddressFamily.TheVariants.{Ipv4, Ipv6}
use Rattle.rpki_resources.specs.declared.kind.ResourceKind.{ResourceKind}
use Rattle.rpki_resources.specs.declared.kind.ResourceKind.TheVariants.{Addresses, AsNumbers}
use Rattle.rpki_resources.specs.declared.choice_view.ChoiceView.{ChoiceView}
use Rattle.rpki_resources.specs.declared.choice_view.ChoiceView.TheVariants.{Missing, Inherit, Blocks}
use Rattle.rpki_resources.specs.Address.{width, family_octets, IsAddress, address, prefix_block, prefix, IsRange}
use Rattle.rpki_resources.specs.Address.{range_ends, range, block}
use Rattle.rpki_resources.specs.AsNumber.{as_number, IsOneNumber, as_id, IsAsRange, as_ends, as_range, as_block}
use Rattle.rpki_resources.specs.InPlace.{Octets, octets_of, Holds, IsListed}
use Rattle.rpki_resources.specs.Listed.{block_of, AreBlocks}
use Rattle.rpki_resources.specs.Extension.{inherit, block_list, listed_blocks, choice, as_numbers, asnum}
use Rattle.rpki_resources.specs.Extension.{SpellsAsResources, IsFamily, family_name, family_parts, SpellsNamed}
use Rattle.rpki_resources.specs.Extension.{families, AreFamilies, SpellsIpResources}
use Rattle.rpki_resources.specs.Extension.AreFamilies.{OnlyV4, OnlyV6, BothFamilies}
use Rattle.rpki_resources.proofs.AddressLaws.{one-address}
use Rattle.rpki_resources.proofs.BlocksLaws.{same-block}
use Rattle.rpki_resources.proofs.ComposingLaws.{value-of, standing-apart}
use Rattle.rpki_resources.proofs.ExtensionLaws.{inherit-tag, listed-tag}
use Rattle.rpki_contents.proofs.OneReadingLaws.{IsOneFront, IsOneWhole, both-one, such-one, around-one}

pub whole-one : {V : Type 0} (G : V → List ℕ → Type 0) → IsOneFront G → IsOneWhole G
whole-one G one s v w h k = (one s v w [] [] (spelled-whole G s v h) (spelled-whole G s w k)).0

-- ---- one of two, by the tag

module _ {V : Type 0} (t : TagName) (F G : V → List ℕ → Type 0)
    (begins : (s : List ℕ) (v : V) (r : List ℕ) → Spells F s v r → HasTag t s)
    (apart : (s : List ℕ) (v : V) (r : List ℕ) → Spells G s v r → HasTag t s → ⊥) (one : IsOneFront F)
    (two : IsOneFront G) where
  abbrev pub EitherOf : V → List ℕ → Type 0
  EitherOf v p = F v p ⊎ G v p

  sides : (s : List ℕ) (v : V) (r : List ℕ) → Spells EitherOf s v r → Spells F s v r ⊎ Spells G s v r
  sides s v r h =
      elim h.spelled [
        | inl g ↦ inl (record { front = h.front; parts = h.parts; spelled = g })
        | inr g ↦ inr (record { front = h.front; parts = h.parts; spelled = g })
      ]

  sides-one : (s : List ℕ) (v w : V) (r q : List ℕ) → Spells F s v r ⊎ Spells G s v r
      → Spells F s w q ⊎ Spells G s w q → (v ≡ w) × (r ≡ q)
  sides-one s v w r q (inl h) (inl k) = one s v w r q h k
  sides-one s v w r q (inl h) (inr k) = absurd (apart s w q k (begins s v r h))
  sides-one s v w r q (inr h) (inl k) = absurd (apart s v r h (begins s w q k))
  sides-one s v w r q (inr h) (inr k) = two s v w r q h k

  pub either-one : IsOneFront EitherOf
  either-one s v w r q h k = sides-one s v w r q (sides s v r h) (sides s w q k)

  sides-nowhere : ((s : List ℕ) (v : V) (r : List ℕ) → s ≡ [] → Spells F s v r → ⊥)
      → ((s : List ℕ) (v : V) (r : List ℕ) → s ≡ [] → Spells G s v r → ⊥) → (s : List ℕ) (v : V) (r : List ℕ) → s ≡ []
      → Spells F s v r ⊎ Spells G s v r → ⊥
  sides-nowhere left right s v r e (inl h) = left s v r e h
  sides-nowhere left right s v r e (inr h) = right s v r e h

  pub either-nowhere : ((s : List ℕ) (v : V) (r : List ℕ) → s ≡ [] → Spells F s v r → ⊥)
      → ((s : List ℕ) (v : V) (r : List ℕ) → s ≡ [] → Spells G s v r → ⊥) → (s : List ℕ) (v : V) (r : List ℕ) → s ≡ []
      → Spells EitherOf s v r → ⊥
  either-nowhere left right s v r e h = sides-nowhere left right s v r e (sides s v r h)

-- a value that stands for all of the octets
such-whole : {V O : Type 0} (G : O → List ℕ → Type 0) (R : V → O → Type 0) → IsOneWhole G
    → ((o : O) (v w : V) → R v o → R w o → v ≡ w) → IsOneWhole (SpellsFor G R)
such-whole G R one says s v w h k =
    let e = one s h.value k.value h.spelled k.spelled in
    says h.value v w h.stands (subst (R w) (sym e) k.stands)

cons-is : {V : Type 0} (x y : V) (xs ys : List V) → x ≡ y → xs ≡ ys → x ∷ xs ≡ y ∷ ys
cons-is x y xs ys p q = λ i. p i ∷ q i

-- values, in sequence
module _ {V : Type 0} (G : V → List ℕ → Type 0) (one : IsOneFront G)
    (some : (s : List ℕ) (v : V) (r : List ℕ) → s ≡ [] → Spells G s v r → ⊥) where
  each-one : IsOneWhole (SpellsEach G)
  each-one s [] [] h k = refl
  each-one s [] (y ∷ ys) h k = absurd (some s y k.0 h k.1)
  each-one s (x ∷ xs) [] h k = absurd (some s x h.0 k h.1)
  each-one s (x ∷ xs) (y ∷ ys) h k =
      let e = one s x y h.0 k.0 h.1 k.1 in
      cons-is x y xs ys e.0 (each-one h.0 xs ys h.2 (subst (λ (q : List ℕ). SpellsEach G ys q) (sym e.1) k.2))

such-nowhere : {V O : Type 0} (F : Format O) (R : V → O → Type 0)
    → ((s : List ℕ) (o : O) (r : List ℕ) → s ≡ [] → Spells F.spells s o r → ⊥)
    → (s : List ℕ) (v : V) (r : List ℕ) → s ≡ [] → Spells (SpellsFor F.spells R) s v r → ⊥
such-nowhere F R none s v r e h = none s h.spelled.value r e (value-of R F h)

-- ---- addresses

not-bits : sequence ≡ bit_string → ⊥
not-bits e = let n = ap (λ (t : TagName). t.number) e in omega (arith, n)

not-integer : sequence ≡ integer → ⊥
not-integer e = let n = ap (λ (t : TagName). t.number) e in omega (arith, n)

module _ (w : ℕ) where
  address-one : IsOneFront (address w).spells
  address-one = (leaf-lawful bit_string (IsAddress w) (λ c x y h k. one-address w x y c h k)).one

  abbrev IsPrefixOf : Block → Address → Type 0
  IsPrefixOf b x = b ≡ prefix_block w x

  prefix-one : IsOneFront (prefix w).spells
  prefix-one = such-one (address w).spells IsPrefixOf address-one (λ x b d h k. h ∙ sym k)

  ends-one : IsOneWhole (range_ends w).spells
  ends-one =
      such-whole (Then (address w).spells (address w).spells) (IsRange w)
      (both-one (address w).spells (address w).spells address-one (whole-one (address w).spells address-one))
      (λ x b d h k. same-block b d (h.low ∙ sym k.low) (h.high ∙ sym k.high))

  range-one : IsOneFront (range w).spells
  range-one = around-one sequence (range_ends w).spells ends-one

  range-tag : (s : List ℕ) (b : Block) (r : List ℕ) → Spells (range w).spells s b r → HasTag sequence s
  range-tag = leaf-tag sequence true (range_ends w).spells

  prefix-apart : (s : List ℕ) (b : Block) (r : List ℕ) → Spells (prefix w).spells s b r → HasTag sequence s → ⊥
  prefix-apart =
      standing-apart IsPrefixOf (address w) sequence bit_string not-bits (leaf-tag bit_string false (IsAddress w))

  block-one : IsOneFront (block w).spells
  block-one = either-one sequence (range w).spells (prefix w).spells range-tag prefix-apart range-one prefix-one

  block-nowhere : (s : List ℕ) (b : Block) (r : List ℕ) → s ≡ [] → Spells (block w).spells s b r → ⊥
  block-nowhere =
      either-nowhere sequence (range w).spells (prefix w).spells range-tag prefix-apart range-one prefix-one
      (leaf-nowhere sequence true (range_ends w).spells)
      (such-nowhere (address w) IsPrefixOf (leaf-nowhere bit_string false (IsAddress w)))

-- ---- AS numbers

number-one : IsOneFront as_number.spells
number-one = (leaf-lawful integer (IsUnsignedBelow (2 ^ 32)) (λ c v w h k. one-number v w c h.contents k.contents)).one

as-id-one : IsOneFront as_id.spells
as-id-one =
    such-one as_number.spells IsOneNumber number-one (λ n b d h k. same-block b d (h.0 ∙ sym k.0) (h.1 ∙ sym k.1))

as-ends-one : IsOneWhole as_ends.spells
as-ends-one =
    such-whole (Then as_number.spells as_number.spells) IsAsRange
    (both-one as_number.spells as_number.spells number-one (whole-one as_number.spells number-one))
    (λ x b d h k. same-block b d (h.low ∙ sym k.low) (h.high ∙ sym k.high))

as-range-one : IsOneFront as_range.spells
as-range-one = around-one sequence as_ends.spells as-ends-one

as-range-tag : (s : List ℕ) (b : Block) (r : List ℕ) → Spells as_range.spells s b r → HasTag sequence s
as-range-tag = leaf-tag sequence true as_ends.spells

as-id-apart : (s : List ℕ) (b : Block) (r : List ℕ) → Spells as_id.spells s b r → HasTag sequence s → ⊥
as-id-apart =
    standing-apart IsOneNumber as_number sequence integer not-integer
    (leaf-tag integer false (IsUnsignedBelow (2 ^ 32)))

as-block-one : IsOneFront as_block.spells
as-block-one = either-one sequence as_range.spells as_id.spells as-range-tag as-id-apart as-range-one as-id-one

as-block-nowhere : (s : List ℕ) (b : Block) (r : List ℕ) → s ≡ [] → Spells as_block.spells s b r → ⊥
as-block-nowhere =
    either-nowhere sequence as_range.spells as_id.spells as-range-tag as-id-apart as-range-one as-id-one
    (leaf-nowhere sequence true as_ends.spells)
    (such-nowhere as_number IsOneNumber (leaf-nowhere integer false (IsUnsignedBelow (2 ^ 32))))

-- ---- blocks of a kind

kind-one : (kind : ResourceKind) → IsOneFront (block_of kind).spells
kind-one (Addresses family) = block-one (width family)
kind-one AsNumbers = as-block-one

kind-nowhere : (kind : ResourceKind) (s : List ℕ) (b : Block) (r : List ℕ) → s ≡ []
    → Spells (block_of kind).spells s b r → ⊥
kind-nowhere (Addresses family) = block-nowhere (width family)
kind-nowhere AsNumbers = as-block-nowhere

blocks-one : (kind : ResourceKind) (c : List ℕ) (bs ds : List Block) → AreBlocks kind bs c → AreBlocks kind ds c
    → bs ≡ ds
blocks-one kind c bs ds h k =
    each-one (block_of kind).spells (kind-one kind) (kind-nowhere kind) c bs ds h.each k.each

pub holds-one : (x : Octets) (bs ds : List Block) → Holds x bs → Holds x ds → bs ≡ ds
holds-one x bs ds h k = blocks-one x.kind x.octets bs ds h.blocks k.blocks

same-octets : (x y : Octets) → x.kind ≡ y.kind → x.octets ≡ y.octets → x.count ≡ y.count → x ≡ y
same-octets x y p q r = λ i. octets_of (p i) (q i) (r i)

listed-one : (kind : ResourceKind) → IsOneWhole (IsListed kind)
listed-one kind c x y h k =
    let kinds : x.kind ≡ y.kind = h.kind_is ∙ sym k.kind_is in
    let octets : x.octets ≡ y.octets = h.octets ∙ sym k.octets in
    let b = h.held in
    let d = k.held in
    let moved : AreBlocks x.kind d.0 x.octets =
    subst (λ (j : ResourceKind). AreBlocks j d.0 x.octets) (sym kinds)
    (subst (λ (o : List ℕ). AreBlocks y.kind d.0 o) (sym octets) d.1.blocks) in
    let same : b.0 ≡ d.0 = blocks-one x.kind x.octets b.0 d.0 b.1.blocks moved in
    same-octets x y kinds octets (sym b.1.count ∙ ap length same ∙ d.1.count)

-- ---- choices

null-one : IsOneFront null_value.spells
null-one = (leaf-lawful null IsNull (λ c v w h k. refl)).one

abbrev IsInherit : ChoiceView → Unit {0} → Type 0
IsInherit v nothing = v ≡ Inherit

abbrev IsList : ChoiceView → Octets → Type 0
IsList v x = v ≡ Blocks x

inherit-one : IsOneFront inherit.spells
inherit-one = such-one null_value.spells IsInherit null-one (λ o v w h k. h ∙ sym k)

list-one : (kind : ResourceKind) → IsOneFront (listed_blocks kind).spells
list-one kind =
    such-one (block_list kind).spells IsList (around-one sequence (IsListed kind) (listed-one kind))
    (λ o v w h k. h ∙ sym k)

choice-one : (kind : ResourceKind) → IsOneFront (choice kind).spells
choice-one kind =
    either-one null inherit.spells (listed_blocks kind).spells inherit-tag (listed-tag kind) inherit-one (list-one kind)

-- ---- the extension of numbers

asnum-one : IsOneFront asnum.spells
asnum-one =
    around-one as_numbers (choice AsNumbers).spells (whole-one (choice AsNumbers).spells (choice-one AsNumbers))

pub numbers-one : IsOneWhole SpellsAsResources
numbers-one =
    whole-one SpellsAsResources (around-one sequence asnum.spells (whole-one asnum.spells asnum-one))

-- ---- the extension of addresses

same-family : (f g : AddressFamily) → family_octets f ≡ family_octets g → f ≡ g
same-family Ipv4 Ipv4 e = refl
same-family Ipv4 Ipv6 e = absurd (cc)
same-family Ipv6 Ipv4 e = absurd (cc)
same-family Ipv6 Ipv6 e = refl

family-one : IsOneFront family_name.spells
family-one = (leaf-lawful octet_string IsFamily (λ c f g h k. same-family f g (sym h ∙ k))).one

named-parts-one : IsOneWhole family_parts.spells
named-parts-one s x y h k =
    let e = family-one s x.0 y.0 h.second k.second (first-of h) (first-of k) in
    let two : (choice (Addresses x.0)).spells y.1 h.second =
    subst (λ (f : AddressFamily). (choice (Addresses f)).spells y.1 h.second) (sym e.0)
    (subst (λ (q : List ℕ). (choice (Addresses y.0)).spells y.1 q) (sym e.1) k.two) in
    pair-is x y.0 y.1 e.0
    (whole-one (choice (Addresses x.0)).spells (choice-one (Addresses x.0)) h.second x.1 y.1 h.two two)

named-one : IsOneFront SpellsNamed
named-one = around-one sequence family_parts.spells named-parts-one

named-whole : IsOneWhole SpellsNamed
named-whole = whole-one SpellsNamed named-one

abbrev Named : Type 0
Named = AddressFamily × ChoiceView

other-families : (v w : ChoiceView) → ◌≡◌ {A = Named} (Ipv4, v) (Ipv6, w) → ⊥
other-families v w e = let f : Ipv4 ≡ Ipv6 = ap (λ (z : Named). z.0) e in cc

choice-of : (f : AddressFamily) (v w : ChoiceView) → ◌≡◌ {A = Named} (f, v) (f, w) → v ≡ w
choice-of f v w e = ap (λ (z : Named). z.1) e

-- what a second family follows is no family alone
module _ (c : List ℕ) (f : Named) (v4 v6 : ChoiceView) (alone : SpellsNamed f c)
    (both : SpellsBoth SpellsNamed SpellsNamed (Ipv4, v4) (Ipv6, v6) c) where
  not-alone : ⊥
  not-alone =
      let e = named-one c f (Ipv4, v4) [] both.second (spelled-whole SpellsNamed c f alone) (first-of both) in
      let two : SpellsNamed (Ipv6, v6) [] =
      subst (λ (q : List ℕ). SpellsNamed (Ipv6, v6) q) (sym e.1) both.two in
      leaf-nowhere sequence true family_parts.spells [] (Ipv6, v6) [] refl
      (spelled-whole SpellsNamed [] (Ipv6, v6) two)

families-one : IsOneWhole AreFamilies
families-one c x y (OnlyV4 v e g) (OnlyV4 w d h) =
    e ∙ ap (λ (z : ChoiceView). families z Missing) (choice-of Ipv4 v w (named-whole c (Ipv4, v) (Ipv4, w) g h)) ∙ sym d
families-one c x y (OnlyV4 v e g) (OnlyV6 w d h) =
    absurd (other-families v w (named-whole c (Ipv4, v) (Ipv6, w) g h))
families-one c x y (OnlyV4 v e g) (BothFamilies v4 v6 d h) = absurd (not-alone c (Ipv4, v) v4 v6 g h)
families-one c x y (OnlyV6 v e g) (OnlyV4 w d h) =
    absurd (other-families w v (named-whole c (Ipv4, w) (Ipv6, v) h g))
families-one c x y (OnlyV6 v e g) (OnlyV6 w d h) =
    e ∙ ap (λ (z : ChoiceView). families Missing z) (choice-of Ipv6 v w (named-whole c (Ipv6, v) (Ipv6, w) g h)) ∙ sym d
families-one c x y (OnlyV6 v e g) (BothFamilies v4 v6 d h) = absurd (not-alone c (Ipv6, v) v4 v6 g h)
families-one c x y (BothFamilies v4 v6 d h) (OnlyV4 v e g) = absurd (not-alone c (Ipv4, v) v4 v6 g h)
families-one c x y (BothFamilies v4 v6 d h) (OnlyV6 v e g) = absurd (not-alone c (Ipv6, v) v4 v6 g h)
families-one c x y (BothFamilies v4 v6 e g) (BothFamilies w4 w6 d h) =
    let first = named-one c (Ipv4, v4) (Ipv4, w4) g.second h.second (first-of g) (first-of h) in
    let second = named-whole g.second (Ipv6, v6) (Ipv6, w6) g.two
    (subst (λ (q : List ℕ). SpellsNamed (Ipv6, w6) q) (sym first.1) h.two) in
    e ∙ ap (λ (z : ChoiceView). families z v6) (choice-of Ipv4 v4 w4 first.0)
    ∙ ap (λ (z : ChoiceView). families w4 z) (choice-of Ipv6 v6 w6 second) ∙ sym d

pub addresses-one : IsOneWhole SpellsIpResources
addresses-one = whole-one SpellsIpResources (around-one sequence AreFamilies families-one)
