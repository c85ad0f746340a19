-- The parts of an extension, by the index of its octets.
use Rattle.std.proofs.Common.{◌≡◌, ℕ, ◌<◌, ◌^◌, true, false, Option, Some, None, List, [], ◌∷◌, ◌++◌, length, inl, inr}
use Rattle.std.proofs.Common.{refl, sym, ap, subst, ◌∙◌, arith, append-nil}
use Rattle.std.specs.Prelude.{◌⊎◌, MatchOption, IsSome, slice_get, slice_range}
use Rattle.rpki_der.specs.Prelude.{TagName, oid, boolean, octet_string, sequence, tlv, spell, HaveHeaders}
use Rattle.rpki_der.specs.Prelude.{boolean_contents, Entry, IsIndex, member_numbers, HasEntry}
use Rattle.rpki_der.proofs.MemberLaws.{AreContents, primitives, contents_of, first_entry, member_entries}
use Rattle.rpki_der.proofs.MemberLaws.{index-of-primitives, contents_of-primitives}
use Rattle.rpki.specs.ExtensionValue.{ExtensionParts, SpellsCritical, IsExtensionContents, SpellsExtension}

abbrev pub Part : Type 0
Part = TagName × List ℕ

-- the octets are a SEQUENCE of these primitive values, and this is their index
pub record IsIndexedAs (octets : List ℕ) (xs : List Part) : Type 0 where
  pub index : IsIndex octets (first_entry sequence xs ∷ member_entries sequence xs)
  pub contents : AreContents octets (member_entries sequence xs) (contents_of xs)

abbrev pub Alone : ExtensionParts → List Part
Alone x = (oid, x.identifier) ∷ (octet_string, x.content) ∷ []

abbrev pub Marked : ExtensionParts → List Part
Marked x = (oid, x.identifier) ∷ (boolean, boolean_contents x.critical) ∷ (octet_string, x.content) ∷ []

abbrev pub Shape : ExtensionParts → List ℕ → Type 0
Shape x octets = ((x.critical ≡ false) × IsIndexedAs octets (Alone x)) ⊎ IsIndexedAs octets (Marked x)

indexed : (octets c : List ℕ) (xs : List Part) → octets ≡ tlv sequence true c → length c < 2 ^ 32
    → c ≡ spell (primitives xs) → HaveHeaders (primitives xs) → IsIndexedAs octets xs
indexed octets c xs is fits same legal =
    let p : octets ≡ tlv sequence true (spell (primitives xs)) = is ∙ ap (λ (y : List ℕ). tlv sequence true y) same in
    let few : length (spell (primitives xs)) < 2 ^ 32 = omega (arith, fits, ap length same) in
    record {
      index = index-of-primitives sequence xs octets (record { below = omega arith; named = λ _. omega arith }) few
          legal p;
      contents = contents_of-primitives sequence xs octets p;
    }

pub shape : (x : ExtensionParts) (octets : List ℕ) → SpellsExtension x octets → Shape x octets
shape x octets h = go k.critical
  where
    k : IsExtensionContents x h.contents
    k = h.spelled

    first : k.first ≡ tlv oid false x.identifier
    first = k.identifier.value.octets ∙ ap (λ (c : List ℕ). tlv oid false c) k.identifier.spelled.0

    third : k.third ≡ tlv octet_string false x.content ++ []
    third = k.content.octets ∙ sym (append-nil (tlv octet_string false x.content))

    few : length x.identifier < 2 ^ 32
    few = subst (λ (c : List ℕ). length c < 2 ^ 32) k.identifier.spelled.0 k.identifier.value.fits

    go : SpellsCritical x.critical k.second → Shape x octets
    go (inr (absent, nothing)) =
        let same : h.contents ≡ spell (primitives (Alone x)) = k.parts ∙ ap (λ (y : List ℕ). k.first ++ (y ++ k.third))
        nothing ∙ ap (λ (y : List ℕ). y ++ k.third) first ∙ ap (λ (y : List ℕ). tlv oid false x.identifier ++ y) third
        in
        inl (
          absent,
          indexed octets h.contents (Alone x) h.value.octets h.value.fits same
              ((k.identifier.value.tag, few), ((k.content.tag, k.content.fits), tt)),
        )
    go (inl b) =
        let flag : k.second ≡ tlv boolean false (boolean_contents x.critical) = b.value.octets ∙ ap
        (λ (c : List ℕ). tlv boolean false c) b.spelled in
        let same : h.contents ≡ spell (primitives (Marked x)) =
        k.parts ∙ ap (λ (y : List ℕ). y ++ (k.second ++ k.third)) first ∙ ap
        (λ (y : List ℕ). tlv oid false x.identifier ++ (y ++ k.third)) flag
        ∙ ap (λ (y : List ℕ). tlv oid false x.identifier ++ (tlv boolean false (boolean_contents x.critical) ++ y))
        third in
        let short : length (boolean_contents x.critical) < 2 ^ 32 = subst (λ (c : List ℕ). length c < 2 ^ 32) b.spelled
        b.value.fits in
        inr (indexed octets h.contents (Marked x) h.value.octets h.value.fits same
        ((k.identifier.value.tag, few), ((b.value.tag, short), ((k.content.tag, k.content.fits), tt))))

-- ---- the numbers of the parts

abbrev pub AreMembers : List ℕ → List ℕ → Type 0
AreMembers octets numbers = (index : List Entry) → IsIndex octets index → numbers ≡ member_numbers (Some 0) index

-- one call of an iterator over numbers
abbrev pub Steps : List ℕ → Option ℕ → List ℕ → Type 0
Steps before r after = MatchOption r ((before ≡ []) × (after ≡ [])) (λ n. before ≡ n ∷ after)

numbers : (x : ExtensionParts) (octets ns : List ℕ) → Shape x octets → AreMembers octets ns
    → (ns ≡ 1 ∷ 2 ∷ []) ⊎ (ns ≡ 1 ∷ 2 ∷ 3 ∷ [])
numbers x octets ns (inl s) h = inl (h _ s.1.index)
numbers x octets ns (inr s) h = inr (h _ s.index)

tail-of : (n m : ℕ) (a b : List ℕ) → n ∷ a ≡ m ∷ b → (n ≡ m) × (a ≡ b)
tail-of n m a b e = ((cc), (cc))

got : (n : ℕ) (ns before after : List ℕ) (r : Option ℕ) → before ≡ n ∷ ns → Steps before r after
    → (r ≡ Some n) × (after ≡ ns)
got n ns before after None e h = let k = sym h.0 ∙ e in absurd (cc)
got n ns before after (Some m) e h = let k = tail-of m n after ns (sym h ∙ e) in (ap Some k.0, k.1)

end-of : (before after : List ℕ) (r : Option ℕ) → before ≡ [] → Steps before r after → r ≡ None
end-of before after None e h = refl
end-of before after (Some m) e h = let k = sym h ∙ e in absurd (cc)

pub is-some : {T : Type 0} (r : Option T) (t : T) → r ≡ Some t → IsSome r
is-some r t e = subst IsSome (sym e) refl

-- ---- their contents

abbrev pub HasContents : List ℕ → ℕ → List ℕ → Type 0
HasContents octets n c = (index : List Entry) × (e : Entry) × IsIndex octets index × (slice_get index n ≡ Some e) ×
    (slice_range octets e.contents e.past ≡ c)

-- what is borrowed under a number
abbrev pub Lends : List ℕ → ℕ → List ℕ → Type 0
Lends octets n found = (index : List Entry) (e : Entry) → IsIndex octets index → slice_get index n ≡ Some e → found ≡
    slice_range octets e.contents e.past

pub borrowed : (octets : List ℕ) (n m : ℕ) (r : Option ℕ) (c found : List ℕ) → r ≡ Some n → r ≡ Some m
    → HasContents octets m c → Lends octets n found → found ≡ c
borrowed octets n m r c found e f h l =
    let same : n ≡ m = cc in
    l h.0 h.1 h.2 (ap (λ (k : ℕ). slice_get h.0 k) same ∙ h.3) ∙ h.4

module _ (x : ExtensionParts) (octets : List ℕ) (h : SpellsExtension x octets) where
  pub has-first : HasEntry octets 0
  has-first = elim (shape x octets h) [
    | inl s ↦ record {
      index = first_entry sequence (Alone x) ∷ member_entries sequence (Alone x);
      is = s.1.index;
      within = omega arith;
    }
    | inr s ↦ record {
      index = first_entry sequence (Marked x) ∷ member_entries sequence (Marked x);
      is = s.index;
      within = omega arith;
    }
  ]

  pub named : HasContents octets 1 x.identifier
  named = elim (shape x octets h) [
    | inl s ↦ (_, _, s.1.index, refl, s.1.contents.0)
    | inr s ↦ (_, _, s.index, refl, s.contents.0)
  ]

  module _ (ns : List ℕ) (all : AreMembers octets ns) (r₁ : Option ℕ) (after₁ : List ℕ) (step₁ : Steps ns r₁ after₁)
    where
      pub first-number : r₁ ≡ Some 1
      first-number = elim (numbers x octets ns (shape x octets h) all) [
        | inl e ↦ (got 1 (2 ∷ []) ns after₁ r₁ e step₁).0
        | inr e ↦ (got 1 (2 ∷ 3 ∷ []) ns after₁ r₁ e step₁).0
      ]

      module _ (r₂ : Option ℕ) (after₂ : List ℕ) (step₂ : Steps after₁ r₂ after₂) where
        pub second-number : r₂ ≡ Some 2
        second-number = elim (numbers x octets ns (shape x octets h) all) [
          | inl e ↦ (got 2 [] after₁ after₂ r₂ (got 1 (2 ∷ []) ns after₁ r₁ e step₁).1 step₂).0
          | inr e ↦ (got 2 (3 ∷ []) after₁ after₂ r₂ (got 1 (2 ∷ 3 ∷ []) ns after₁ r₁ e step₁).1 step₂).0
        ]

        -- the third call finds an OCTET STRING after a BOOLEAN, or nothing after the OCTET STRING
        abbrev pub Others : Option ℕ → Type 0
        Others r₃ =
            ((r₃ ≡ None) × (x.critical ≡ false) × HasContents octets 2 x.content)
            ⊎ ((r₃ ≡ Some 3) × HasContents octets 2 (boolean_contents x.critical) × HasContents octets 3 x.content)

        pub others-of : (r₃ : Option ℕ) (after₃ : List ℕ) → Steps after₂ r₃ after₃ → Others r₃
        others-of r₃ after₃ step₃ = elim (shape x octets h) [
          | inl s ↦
              let e : ns ≡ 1 ∷ 2 ∷ [] = all _ s.1.index in
              let one = got 1 (2 ∷ []) ns after₁ r₁ e step₁ in
              let two = got 2 [] after₁ after₂ r₂ one.1 step₂ in
              inl (end-of after₂ after₃ r₃ two.1 step₃, s.0, (_, _, s.1.index, refl, s.1.contents.1.0))
          | inr s ↦
              let e : ns ≡ 1 ∷ 2 ∷ 3 ∷ [] = all _ s.index in
              let one = got 1 (2 ∷ 3 ∷ []) ns after₁ r₁ e step₁ in
              let two = got 2 (3 ∷ []) after₁ after₂ r₂ one.1 step₂ in
              let three = got 3 [] after₂ after₃ r₃ two.1 step₃ in
              inr (three.0, (_, _, s.index, refl, s.contents.1.0), (_, _, s.index, refl, s.contents.1.1.0))
        ]
