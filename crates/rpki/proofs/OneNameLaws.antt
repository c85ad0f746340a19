-- A name's octets have one reading.
use Rattle.std.proofs.Common.{◌≡◌, ℕ, Bool, true, false, List, [], ◌∷◌, ◌++◌, refl, sym, ap, subst, ◌∙◌}
use Rattle.rpki_der.specs.Prelude.{TagName, sequence, set, oid, tlv, Spells, SpellsLeaf, IsOidOf}
use Rattle.rpki_der.proofs.EncodeLaws.{tlv-same-then}
use Rattle.rpki_der.proofs.ComposedLaws.{spelled-whole}
use Rattle.rpki.specs.Name.{Attribute, attribute_of, IsAttribute, SpellsAttribute, SpellsEach, SpellsSome}
use Rattle.rpki.specs.Name.{SpellsRelative, SpellsName}
use Rattle.rpki_der.proofs.LeafValueLaws.{leaf-nowhere}

-- contents spell one value at most
abbrev IsOne : {V : Type 0} → (V → List ℕ → Type 0) → Type 0
IsOne {V} C = (c : List ℕ) (v w : V) → C v c → C w c → v ≡ w

-- a list begins with one spelling at most
abbrev BeginsOnce : {V : Type 0} → (V → List ℕ → Type 0) → Type 0
BeginsOnce {V} G = (s : List ℕ) (v w : V) (q r : List ℕ) → Spells G s v q → Spells G s w r → (v ≡ w) × (q ≡ r)

one-leaf : {V : Type 0} (t : TagName) (f : Bool) (C : V → List ℕ → Type 0) → IsOne C → BeginsOnce (SpellsLeaf t f C)
one-leaf {V} t f C one s v w q r g h =
    let a = g.spelled in
    let b = h.spelled in
    let left : s ≡ tlv t f a.contents ++ q = g.parts ∙ ap (λ (l : List ℕ). l ++ q) a.value.octets in
    let right : s ≡ tlv t f b.contents ++ r = h.parts ∙ ap (λ (l : List ℕ). l ++ r) b.value.octets in
    let same = tlv-same-then t f a.contents b.contents q r a.value.fits b.value.fits (sym left ∙ right) in
    (one b.contents v w (subst (C v) same.0 a.spelled) b.spelled, same.1)

one-each : {V : Type 0} (G : V → List ℕ → Type 0) → BeginsOnce G
    → ((s : List ℕ) (v : V) (r : List ℕ) → s ≡ [] → Spells G s v r → ⊥) → (vs ws : List V) (p : List ℕ)
    → SpellsEach G vs p → SpellsEach G ws p → vs ≡ ws
one-each G once nowhere [] [] p g h = refl
one-each G once nowhere [] (w ∷ ws) p g h = absurd (nowhere p w h.0 g h.1)
one-each G once nowhere (v ∷ vs) [] p g h = absurd (nowhere p v g.0 h g.1)
one-each G once nowhere (v ∷ vs) (w ∷ ws) p g h =
    let first = once p v w g.0 h.0 g.1 h.1 in
    let others = one-each G once nowhere vs ws h.0 (subst (SpellsEach G vs) first.1 g.2) h.2 in
    rw (first.0, others) refl

one-some : {V : Type 0} (t : TagName) (f : Bool) (C : V → List ℕ → Type 0) → IsOne C
    → IsOne (SpellsSome (SpellsLeaf t f C))
one-some t f C one c vs ws g h =
    one-each (SpellsLeaf t f C) (one-leaf t f C one) (leaf-nowhere t f C) vs ws c g.each h.each

one-identifier : IsOne IsOidOf
one-identifier c v w g h = sym g.0 ∙ h.0

one-attribute : IsOne IsAttribute
one-attribute c a b g h =
    let k = one-leaf oid false IsOidOf one-identifier c a.identifier b.identifier a.value b.value
    (record { front = g.identified.front; parts = g.identified.parts; spelled = g.identified.identifier })
    (record { front = h.identified.front; parts = h.identified.parts; spelled = h.identified.identifier }) in
    same a b k.0 k.1
  where
    same : (x y : Attribute) → x.identifier ≡ y.identifier → x.value ≡ y.value → x ≡ y
    same x y p q = let e : attribute_of x.identifier x.value ≡ attribute_of y.identifier y.value = rw (p, q) refl in e

pub one-name : (octets : List ℕ) (x y : List (List Attribute)) → SpellsName x octets → SpellsName y octets → x ≡ y
one-name octets x y g h =
    (one-leaf sequence true (SpellsSome SpellsRelative)
    (one-some set true (SpellsSome SpellsAttribute) (one-some sequence true IsAttribute one-attribute))
    octets x y [] [] (spelled-whole SpellsName octets x g) (spelled-whole SpellsName octets y h)).0
