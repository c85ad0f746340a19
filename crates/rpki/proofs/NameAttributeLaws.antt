-- The attributes of a name, in sequence.
use Rattle.std.proofs.Common.{◌≡◌, ◌≢◌, ◌+◌, ◌<◌, ℕ, Bool, true, false, List, [], ◌∷◌, ◌++◌, length, refl, sym, ap}
use Rattle.std.proofs.Common.{subst, ◌∙◌, arith, append-nil, length-append, Some, None}
use Rattle.rpki_der.specs.declared.error.DecodeError.{DecodeError}
use Rattle.rpki_der.specs.declared.error.DecodeError.TheVariants.{OutOfMemory}
use Rattle.rpki_der.specs.Prelude.{TagName, sequence, set, oid, Spells, Accepts, Refuses, Refusal, SpellsContents}
use Rattle.rpki_der.specs.Prelude.{SpellsLeaf, IsContentsFault, IsLeafFault, IsOidOf, IsValue, Members, Empty, spell}
use Rattle.rpki_der.specs.Prelude.{HaveHeaders, count, SpellsWanted, IsAnyTag, IsWantedFault}
use Rattle.rpki_der.specs.Members.Members.{Primitive, Constructed}
use Rattle.rpki_der.proofs.MembersLaws.{none-left}
use Rattle.rpki_der.proofs.EncodeLaws.{tlv-at-least}
use Rattle.rpki_der.proofs.LeavesLaws.{leaf-value, leaf-no-memory, contents-no-memory}
use Rattle.rpki_der.proofs.LeafValueLaws.{leaf-nowhere, leaf-shorter, contents-shorter}
use Rattle.rpki_der.proofs.ComposedLaws.{all-read, spelled-whole}
use Rattle.rpki_der.proofs.InsideLaws.{unless-memory}
use Rattle.rpki.specs.declared.repository.x509.name.attributes.AttributeView.{AttributeView}
use Rattle.rpki.specs.Name.{Attribute, attribute_of, IsAttribute, SpellsAttribute, SpellsEach}
use Rattle.rpki.specs.Name.{SpellsSome, SpellsRelative, SpellsName, IsName}
use Rattle.rpki.specs.NameAttributes.{MarkedAttribute, marked, following, marked_attributes}
use Rattle.rpki.specs.NameAttributes.{rest_of, AreLeft, IsViewOf, GivesAttribute}
use Rattle.rpki.proofs.NameLaws.{identified, unidentified}

-- ---- one value, by its header

pub value-contents : (p : List ℕ) → IsValue p → (t : TagName) × (f : Bool) × (c : List ℕ) × SpellsContents t f c p
value-contents p one = go one.members one.legal one.spelled one.counted
  where
    alone : (rest : Members) (x : List ℕ) → 1 + count rest ≡ 1 → x ++ spell rest ≡ x
    alone rest x e = rw (none-left rest (omega arith)) (append-nil x)

    go : (vs : Members) → HaveHeaders vs → p ≡ spell vs → count vs ≡ 1
        → (t : TagName) × (f : Bool) × (c : List ℕ) × SpellsContents t f c p
    go Empty h is e = absurd (omega arith)
    go (Primitive t c rest) h is e =
        (t, false, c, record { tag = h.0.0; fits = h.0.1; octets = is ∙ alone rest _ e })
    go (Constructed t ms rest) h is e =
        (t, true, spell ms, record { tag = h.0.0; fits = h.0.1; octets = is ∙ alone rest _ e })

wanted-no-memory : (s : List ℕ) (e : DecodeError) → IsWantedFault IsAnyTag s e → e ≡ OutOfMemory → ⊥
wanted-no-memory s e h z = subst (IsWantedFault IsAnyTag s) z h

wanted-whole : (p : List ℕ) (t : TagName) (f : Bool) (c : List ℕ) → SpellsContents t f c p
    → Spells (SpellsWanted IsAnyTag) p (t, f, c) []
wanted-whole p t f c h = spelled-whole (SpellsWanted IsAnyTag) p (t, f, c) (record { wanted = tt; value = h })

-- a reader of a value found it
value-read : (p r : List ℕ) (x : TagName × Bool × List ℕ) → IsValue p → Accepts (SpellsWanted IsAnyTag) p x r
    → SpellsContents x.0 x.1 x.2 p
value-read p r x one a =
    let (t, f, c, h) = value-contents p one in
    let k = a.only (t, f, c) [] (wanted-whole p t f c h) in
    (all-read (SpellsWanted IsAnyTag) p x r a (sym k.1)).0.value

value-unread : (p r : List ℕ) (e : DecodeError) → IsValue p
    → Refusal (SpellsWanted IsAnyTag) (IsWantedFault IsAnyTag) p r e → ⊥
value-unread p r e one h =
    let (t, f, c, k) = value-contents p one in
    unless-memory e (wanted-no-memory p e h.kind) h.refuses (t, f, c) [] (wanted-whole p t f c k)

-- ---- a value at the front, whose contents were found

no-contents : {V : Type 0} (t : TagName) (C : V → List ℕ → Type 0) (m r : List ℕ) (e : DecodeError)
    → Refusal (SpellsContents t true) (IsContentsFault t true) m r e → Refuses (SpellsLeaf t true C) m
no-contents t C m r e h v q g =
    let l = leaf-value t true C m v q g in
    unless-memory e (contents-no-memory t true m e h.kind) h.refuses l.0 q l.1

these-contents : {V : Type 0} (t : TagName) (C : V → List ℕ → Type 0) (m r c : List ℕ)
    → Accepts (SpellsContents t true) m c r → (v : V) (q : List ℕ) → Spells (SpellsLeaf t true C) m v q
    → (q ≡ r) × C v c
these-contents t C m r c h v q g =
    let l = leaf-value t true C m v q g in
    let k = h.only l.0 q l.1 in
    (k.1, subst (C v) k.0 l.2)

-- ---- an attribute at the front

pub no-attribute : (s r : List ℕ) (e : DecodeError)
    → Refusal (SpellsContents sequence true) (IsContentsFault sequence true) s r e → Refuses SpellsAttribute s
no-attribute = no-contents sequence IsAttribute

module _ (s r c : List ℕ) (found : Accepts (SpellsContents sequence true) s c r) where
  inside : (a : Attribute) (q : List ℕ) → Spells SpellsAttribute s a q → (q ≡ r) × IsAttribute a c
  inside = these-contents sequence IsAttribute s r c found

  pub no-identifier : (q : List ℕ) (e : DecodeError)
      → Refusal (SpellsLeaf oid false IsOidOf) (IsLeafFault oid false IsOidOf) c q e → Refuses SpellsAttribute s
  no-identifier q e h a p g =
      let none = unless-memory e (leaf-no-memory oid false IsOidOf c e h.kind) h.refuses in
      unidentified c none a (inside a p g).1.identified

  module _ (o m : List ℕ) (named : Accepts (SpellsLeaf oid false IsOidOf) c o m) where
    parts-are : (a : Attribute) → IsAttribute a c → (o ≡ a.identifier) × (m ≡ a.value) × IsValue m
    parts-are a h =
        let e : a ≡ attribute_of o m = (identified c m o named).1 a h.identified in
        let v : m ≡ a.value = sym (ap (λ (x : Attribute). x.value) e) in
        (sym (ap (λ (x : Attribute). x.identifier) e), v, subst IsValue (sym v) h.one)

    pub no-value : (q : List ℕ) (e : DecodeError)
        → Refusal (SpellsWanted IsAnyTag) (IsWantedFault IsAnyTag) m q e → Refuses SpellsAttribute s
    no-value q e h a p g = value-unread m q e (parts-are a (inside a p g).1).2 h

    pub a-view : (v : AttributeView) (x : TagName × Bool × List ℕ) (q : List ℕ)
        → Accepts (SpellsWanted IsAnyTag) m x q → v.identifier.0.now ≡ o → v.value.now ≡ m → v.tag ≡ x.0
        → v.constructed ≡ x.1 → v.contents.now ≡ x.2 → (a : Attribute) (p : List ℕ) → Spells SpellsAttribute s a p
        → IsViewOf v (marked v.begins a) × (p ≡ r)
    a-view v x q read is rest tag form octets a p g =
        let k = inside a p g in
        let e = parts-are a k.1 in (
          record {
            identifier = is ∙ e.0;
            value = rest ∙ e.1;
            contents = rw (tag, form, octets) (subst (SpellsContents x.0 x.1 x.2) e.1 (value-read m q x e.2 read));
            begins = refl;
          },
          k.0,
        )

-- ---- the rest of a name

-- An attribute is next: c is its relative distinguished name from there on, and r the others after it.
pub record IsNext (begins : Bool) (c r : List ℕ) (xs : List MarkedAttribute) : Type 0 where
  pub attribute : Attribute
  pub behind : List ℕ
  pub spelled : Spells SpellsAttribute c attribute behind
  pub others : List MarkedAttribute
  pub are : xs ≡ marked begins attribute ∷ others
  pub left : AreLeft (rest_of behind r) others

-- a further one of the relative distinguished name that was begun
pub next-within : (c r : List ℕ) (xs : List MarkedAttribute) → c ≢ [] → AreLeft (rest_of c r) xs → IsNext false c r xs
next-within c r xs some h = go h.begun h.attributes h.all
  where
    go : (begun : List Attribute) → SpellsEach SpellsAttribute begun c
        → xs ≡ following begun ++ marked_attributes h.parts → IsNext false c r xs
    go [] e is = absurd (some e)
    go (x ∷ ys) e is = record {
      attribute = x;
      behind = e.0;
      spelled = e.1;
      others = following ys ++ marked_attributes h.parts;
      are = is;
      left = record { begun = ys; parts = h.parts; attributes = e.2; relatives = h.relatives; all = refl };
    }

nothing-begun : (c : List ℕ) (begun : List Attribute) → c ≡ [] → SpellsEach SpellsAttribute begun c → begun ≡ []
nothing-begun c [] end h = refl
nothing-begun c (x ∷ xs) end h = absurd (leaf-nowhere sequence true IsAttribute c x h.0 end h.1)

none-begun : (c r : List ℕ) (xs : List MarkedAttribute) → c ≡ [] → (h : AreLeft (rest_of c r) xs)
    → xs ≡ marked_attributes h.parts
none-begun c r xs end h =
    let none : h.begun ≡ [] = nothing-begun c h.begun end h.attributes in
    h.all ∙ ap (λ (l : List Attribute). following l ++ marked_attributes h.parts) none

-- the first one of the next
pub next-begins : (c r i q : List ℕ) (xs : List MarkedAttribute) → c ≡ [] → Accepts (SpellsContents set true) r i q
    → AreLeft (rest_of c r) xs → IsNext true i q xs
next-begins c r i q xs end found h = go h.parts h.relatives (none-begun c r xs end h)
  where
    first : (ys : List Attribute) (parts : List (List Attribute)) → SpellsSome SpellsAttribute ys i
        → SpellsEach SpellsRelative parts q → xs ≡ marked_attributes (ys ∷ parts) → IsNext true i q xs
    first [] parts some others is = absurd (some.some refl)
    first (x ∷ ys) parts some others is = record {
      attribute = x;
      behind = some.each.0;
      spelled = some.each.1;
      others = following ys ++ marked_attributes parts;
      are = is;
      left = record { begun = ys; parts = parts; attributes = some.each.2; relatives = others; all = refl };
    }

    go : (parts : List (List Attribute)) → SpellsEach SpellsRelative parts r → xs ≡ marked_attributes parts
        → IsNext true i q xs
    go [] e is = absurd (contents-nowhere e)
      where
        contents-nowhere : r ≡ [] → ⊥
        contents-nowhere e = omega (arith, contents-shorter set true r i q found.spells, ap length e)
    go (ys ∷ parts) e is =
        let k = these-contents set (SpellsSome SpellsAttribute) r q i found ys e.0 e.1 in
        first ys parts k.1 (subst (SpellsEach SpellsRelative parts) k.0 e.2) is

-- none remains
pub next-none : (c r q : List ℕ) (e : DecodeError) (xs : List MarkedAttribute) → c ≡ []
    → Refusal (SpellsContents set true) (IsContentsFault set true) r q e → AreLeft (rest_of c r) xs
    → GivesAttribute xs None (rest_of c r)
next-none c r q e xs end refused h = given xs (go h.parts h.relatives (none-begun c r xs end h)) h
  where
    go : (parts : List (List Attribute)) → SpellsEach SpellsRelative parts r → xs ≡ marked_attributes parts → xs ≡ []
    go [] k is = is
    go (ys ∷ parts) k is =
        absurd (no-contents set (SpellsSome SpellsAttribute) r q e refused ys k.0 k.1)

    given : (ys : List MarkedAttribute) → ys ≡ [] → AreLeft (rest_of c r) ys → GivesAttribute ys None (rest_of c r)
    given [] is k = k
    given (y ∷ ys) is k = absurd (cc)

module _ (begins : Bool) (c r : List ℕ) (v : AttributeView) (m : List ℕ)
    (taken : (a : Attribute) (q : List ℕ) → Spells SpellsAttribute c a q → IsViewOf v (marked begins a) × (q ≡ m)) where
  pub gives-next : (xs : List MarkedAttribute) → IsNext begins c r xs → GivesAttribute xs (Some v) (rest_of m r)
  gives-next xs h = go xs h.are
    where
      k : IsViewOf v (marked begins h.attribute) × (h.behind ≡ m)
      k = taken h.attribute h.behind h.spelled

      after : AreLeft (rest_of m r) h.others
      after = subst (λ (l : List ℕ). AreLeft (rest_of l r) h.others) k.1 h.left

      go : (ys : List MarkedAttribute) → ys ≡ marked begins h.attribute ∷ h.others
          → GivesAttribute ys (Some v) (rest_of m r)
      go [] is = absurd (cc)
      go (y ∷ ys) is =
          let first : y ≡ marked begins h.attribute = cc in
          let others : ys ≡ h.others = cc in
          (subst (IsViewOf v) (sym first) k.0, subst (AreLeft (rest_of m r)) (sym others) after)

  pub left-next : (xs : List MarkedAttribute) → IsNext begins c r xs
      → (ys : List MarkedAttribute) × AreLeft (rest_of m r) ys
  left-next xs h = (
    h.others,
    subst (λ (l : List ℕ). AreLeft (rest_of l r) h.others) (taken h.attribute h.behind h.spelled).1 h.left,
  )

  pub takes-octets : (xs : List MarkedAttribute) → IsNext begins c r xs → length m < length c
  takes-octets xs h = omega (
    arith,
    leaf-shorter sequence true IsAttribute c h.attribute h.behind h.spelled,
    ap length (taken h.attribute h.behind h.spelled).1,
  )

pub none-given : (begins : Bool) (c r : List ℕ) (xs : List MarkedAttribute) → Refuses SpellsAttribute c
    → IsNext begins c r xs → ⊥
none-given begins c r xs none h = none h.attribute h.behind h.spelled

-- a SET takes more octets than its contents
pub set-shorter : (r i q : List ℕ) → Spells (SpellsContents set true) r i q → length i + length q < length r
set-shorter r i q h = omega (
  arith,
  ap length h.spelled.octets,
  tlv-at-least set true i,
  ap length h.parts,
  length-append h.front q,
)

-- ---- all of a name

pub inside-name : (octets c q : List ℕ) (parts : List (List Attribute))
    → Accepts (SpellsContents sequence true) octets c q → SpellsName parts octets → SpellsSome SpellsRelative parts c
inside-name octets c q parts found h =
    (these-contents sequence (SpellsSome SpellsRelative) octets q c found parts []
    (spelled-whole SpellsName octets parts h)).1

pub no-name : (octets q : List ℕ) (e : DecodeError)
    → Refusal (SpellsContents sequence true) (IsContentsFault sequence true) octets q e → IsName octets → ⊥
no-name octets q e h n =
    no-contents sequence (SpellsSome SpellsRelative) octets q e h n.0 [] (spelled-whole SpellsName octets n.0 n.1)

pub all-left : (e c : List ℕ) (parts : List (List Attribute)) → e ≡ [] → SpellsSome SpellsRelative parts c
    → AreLeft (rest_of e c) (marked_attributes parts)
all-left e c parts end h =
    record { begun = []; parts = parts; attributes = end; relatives = h.each; all = refl }
