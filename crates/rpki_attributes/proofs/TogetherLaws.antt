-- Attributes that are read in sequence, and what they say together.
use Rattle.std.proofs.Common.{◌≡◌, ◌∙◌, ◌+◌, ◌≤◌, ◌++◌, ℕ, Bool, true, false, List, [], ◌∷◌, length, Option, None, Some}
use Rattle.std.proofs.Common.{refl, ap, subst, arith, length-append, append-nil, IsTrue}
use Rattle.std.specs.Prelude.{◌||◌, ◌&&◌, if◌then◌else◌, bytes_eq}
use Rattle.rpki_der.specs.TagName.{sequence}
use Rattle.rpki_der.specs.Reading.{Accepts, Refuses, SpellsNothing}
use Rattle.rpki_der.specs.Format.{Format}
use Rattle.rpki_der.specs.LeafFormats.{any_oid}
use Rattle.rpki_der.proofs.LeafValueLaws.{leaf-nowhere}
use Rattle.rpki_time.specs.TimeValue.{time}
use Rattle.rpki_attributes.specs.declared.known_attributes.KnownAttributes.{KnownAttributes}
use Rattle.rpki_attributes.specs.SignedAttributes.{Attribute, AttributeValues, AreSigned, FindsOne, values_known}
use Rattle.rpki_attributes.specs.SignedAttributes.{values_of}
use Rattle.rpki_attributes.specs.SignedAttributes.{attribute, attribute_parts, each_attribute, is_known, are_known}
use Rattle.rpki_attributes.specs.SignedAttributes.{content_type, message_digest, signing_time, binary_signing_time}
use Rattle.rpki_attributes.specs.SignedAttributes.{digest_value, binary_time, IsOnce, IsAtMostOnce}
use Rattle.rpki_attributes.specs.SignedAttributesView.{AreTogether}
use Rattle.rpki_x509.specs.InPlace.{IsWholeOf}

abbrev Each : List Attribute → List ℕ → Type 0
Each = each_attribute.spells

-- ---- how many there are

module _ {V : Type 0} (F : Format V) where
  one-value : (vs : List (List ℕ)) (v : V) → IsOnce F vs v → length vs ≤ 1
  one-value [] v h = absurd h
  one-value (c ∷ []) v h = omega arith
  one-value (c ∷ d ∷ ds) v h = absurd h

  one-at-most : (vs : List (List ℕ)) (o : Option V) → IsAtMostOnce F vs o → length vs ≤ 1
  one-at-most vs None h = omega (arith, ap length h)
  one-at-most vs (Some v) h = one-value vs v h

-- one more list, if the attribute is of the type
kept-if : (is : Bool) (c : List ℕ) (cs : List (List ℕ)) → length cs ≤ length (if is then c ∷ cs else cs)
kept-if true c cs = omega arith
kept-if false c cs = omega arith

counted : (n : ℕ) (a b c d : Bool) (x : List ℕ) (ws bs cs ds : List (List ℕ)) → IsTrue (a || (b || (c || d)))
    → n ≤ length ws + (length bs + (length cs + length ds))
    → n + 1 ≤ length (if a then x ∷ ws else ws) + (length (if b then x ∷ bs else bs)
    + (length (if c then x ∷ cs else cs) + length (if d then x ∷ ds else ds)))
counted n true b c d x ws bs cs ds one le = omega (arith, le, kept-if b x bs, kept-if c x cs, kept-if d x ds)
counted n false true c d x ws bs cs ds one le = omega (arith, le, kept-if c x cs, kept-if d x ds)
counted n false false true d x ws bs cs ds one le = omega (arith, le, kept-if d x ds)
counted n false false false true x ws bs cs ds one le = omega (arith, le)
counted n false false false false x ws bs cs ds one le = absurd (cc)

both : (a b : Bool) → IsTrue (a && b) → IsTrue a × IsTrue b
both true true h = (h, h)
both true false h = absurd (cc)
both false b h = absurd (cc)

-- as many as there are of the four types
of-four : (xs : List Attribute) → IsTrue (are_known xs)
    → length xs ≤ length (values_of content_type xs) + (length (values_of message_digest xs)
    + (length (values_of signing_time xs) + length (values_of binary_signing_time xs)))
of-four [] h = omega arith
of-four (x ∷ xs) h =
    let known = both (is_known x.0) (are_known xs) h in
    let more = counted (length xs) (bytes_eq x.0 content_type) (bytes_eq x.0 message_digest) (bytes_eq x.0 signing_time)
    (bytes_eq x.0 binary_signing_time) x.1 (values_of content_type xs) (values_of message_digest xs)
    (values_of signing_time xs) (values_of binary_signing_time xs) known.0 (of-four xs known.1) in
    omega (arith, more)

four-at-most : (strict : Bool) (xs : List Attribute) (v : AttributeValues) → AreSigned strict xs v → length xs ≤ 4
four-at-most strict xs v h =
    omega (
      arith,
      of-four xs h.known,
      one-value any_oid (values_of content_type xs) v.content_type h.content_type,
      one-value digest_value (values_of message_digest xs) v.message_digest h.message_digest,
      one-at-most time (values_of signing_time xs) v.signing_time h.signing_time,
      one-at-most binary_time (values_of binary_signing_time xs) v.binary_signing_time h.binary_signing_time,
    )

-- ---- attributes at the front

-- these attributes, and no others, begin s, and r follows
pub data Begins : List ℕ → List Attribute → List ℕ → Type 0 where
  NoneYet : {s : List ℕ} → Begins s [] s
  OneMore : {s m r : List ℕ} {x : Attribute} {xs : List Attribute} → Accepts attribute.spells s x m → Begins m xs r
      → Begins s (x ∷ xs) r

-- others that are all of s are these, and then those of the rest
pub others : (s r : List ℕ) (xs : List Attribute) → Begins s xs r → (ys : List Attribute) → Each ys s
    → (zs : List Attribute) × (ys ≡ xs ++ zs) × Each zs r
others s r [] NoneYet ys h = (ys, refl, h)
others s r (x ∷ xs) (OneMore a b) [] h = absurd (leaf-nowhere sequence true attribute_parts.spells s x _ h a.spells)
others s r (x ∷ xs) (OneMore a b) (y ∷ ys) h =
    let e = a.only y h.0 h.1 in
    let k = others _ r xs b ys (subst (Each ys) e.1 h.2) in
    (k.0, ap (λ (w : Attribute). w ∷ ys) e.0 ∙ ap (λ (ws : List Attribute). x ∷ ws) k.1, k.2)

pub all-these : (s r : List ℕ) (xs : List Attribute) → Begins s xs r → r ≡ [] → Each xs s
all-these s r [] NoneYet end = end
all-these s r (x ∷ xs) (OneMore a b) end = (_, a.spells, all-these _ r xs b end)

pub none-left : (r : List ℕ) → r ≡ [] → (zs : List Attribute) → Each zs r → zs ≡ []
none-left r end [] h = refl
none-left r end (z ∷ zs) h = absurd (leaf-nowhere sequence true attribute_parts.spells r z h.0 end h.1)

-- ---- what they say together

module _ (strict : Bool) where
  pub none-first : (s : List ℕ) → Refuses attribute.spells s → SpellsNothing (AreTogether strict) s
  none-first s none v h = not h.attributes h.each h.say where
    not : (ys : List Attribute) → Each ys s → AreSigned strict ys v → ⊥
    not [] each say = say.content_type
    not (y ∷ ys) each say = none y each.0 each.1

  module _ (s r : List ℕ) (xs : List Attribute) (b : Begins s xs r) where
    -- what follows them is no attribute
    pub none-next : (r ≡ [] → ⊥) → Refuses attribute.spells r → SpellsNothing (AreTogether strict) s
    none-next some none v h = let k = others s r xs b h.attributes h.each in not k.0 k.2 where
      not : (zs : List Attribute) → Each zs r → ⊥
      not [] each = some each
      not (z ∷ zs) each = none z each.0 each.1

    -- more follow than there may be
    pub too-many : length xs ≡ 4 → (r ≡ [] → ⊥) → SpellsNothing (AreTogether strict) s
    too-many four some v h =
        let k = others s r xs b h.attributes h.each in more k.0 k.1 k.2 where
          more : (zs : List Attribute) → h.attributes ≡ xs ++ zs → Each zs r → ⊥
          more [] e each = some each
          more (z ∷ zs) e each =
              omega (
                arith,
                four,
                four-at-most strict h.attributes v h.say,
                ap length e,
                length-append xs (z ∷ zs),
              )

    said : r ≡ [] → (v : AttributeValues) → AreTogether strict v s → AreSigned strict xs v
    said end v h =
        let k = others s r xs b h.attributes h.each in
        let same = k.1 ∙ ap (λ (zs : List Attribute). xs ++ zs) (none-left r end k.0 k.2) ∙ append-nil xs in
        subst (λ (ys : List Attribute). AreSigned strict ys v) same h.say

    -- they are all
    pub all-said : r ≡ [] → (o : Option KnownAttributes) → FindsOne values_known (AreSigned strict xs) o
        → IsWholeOf values_known (AreTogether strict) s o
    all-said end (Some x) h = (
      record { attributes = xs; each = all-these s r xs b end; say = h.0 },
      λ w k. h.1 w (said end w k),
    )
    all-said end None h = λ v k. h v (said end v k)
