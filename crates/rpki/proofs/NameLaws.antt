-- Lists of values, in sequence, as a reader of each in turn finds them; and what names are.
use Rattle.std.proofs.Common.{◌≡◌, ◌≢◌, ℕ, ◌+◌, Bool, true, false, List, [], ◌∷◌, ◌++◌, ◌-◌}
use Rattle.std.proofs.Common.{take, length, refl, sym, ap, subst, ◌∙◌, append_assoc, arith, length-append}
use Rattle.std.proofs.lemmas.List.{append-nil, take_at, append_cancel_right}
use Rattle.rpki_der.specs.Prelude.{TagName, sequence, set, oid, Spells, Accepts, Refuses, SpellsNothing}
use Rattle.rpki_der.specs.Prelude.{SpellsLeaf, IsOidOf, IsValue, IsValueList}
use Rattle.rpki_der.specs.Standing.{StandsBefore}
use Rattle.rpki_der.proofs.MembersLaws.{value-some}
use Rattle.rpki_der.specs.Prelude.{SpellsAnyValue, values_append, no_values}
use Rattle.rpki_der.proofs.LeafValueLaws.{leaf-value-alone, composed-value-alone, leaf-nowhere}
use Rattle.rpki_der.proofs.LeavesLaws.{leaf-value}
use Rattle.rpki.specs.Name.{Attribute, attribute_of, IsIdentifierThen, IsAttribute, SpellsAttribute, SpellsEach}
use Rattle.rpki.specs.Name.{SpellsSome, SpellsRelative, SpellsName, IsName, SpellsNameOctets}
use Rattle.rpki.specs.AnyValue.{SpellsAny}
use Rattle.rpki.specs.NameValue.{HasAfter, HasAttributeValue, HasRelativeValue, HasNameValue}
use Rattle.rpki.proofs.MemoryLaws.{value-either}

-- ---- whichever value is spelled

pub any-leaf : {V : Type 0} (t : TagName) (f : Bool) (C : V → List ℕ → Type 0) (p : List ℕ)
    → SpellsLeaf t f (SpellsAny C) tt p → SpellsAny (SpellsLeaf t f C) tt p
any-leaf t f C p h = (h.spelled.0, record { contents = h.contents; value = h.value; spelled = h.spelled.1 })

pub leaf-any : {V : Type 0} (t : TagName) (f : Bool) (C : V → List ℕ → Type 0) (v : V) (p : List ℕ)
    → SpellsLeaf t f C v p → SpellsLeaf t f (SpellsAny C) tt p
leaf-any t f C v p h = record { contents = h.contents; value = h.value; spelled = (v, h.spelled) }

pub any-at : {V : Type 0} (t : TagName) (f : Bool) (C : V → List ℕ → Type 0) (s : List ℕ) (v : V) (r : List ℕ)
    → Spells (SpellsLeaf t f C) s v r → Spells (SpellsLeaf t f (SpellsAny C)) s tt r
any-at t f C s v r h = record { front = h.front; parts = h.parts; spelled = leaf-any t f C v h.front h.spelled }

-- ---- a list of values of one tag and form

abbrev pub IsEach : {V : Type 0} → TagName → Bool → (V → List ℕ → Type 0) → List ℕ → Type 0
IsEach {V} t f C p = (vs : List V) × SpellsEach (SpellsLeaf t f C) vs p

-- such a list, one longer
each-more : {V : Type 0} (G : V → List ℕ → Type 0) (vs : List V) (p front : List ℕ) (v : V) → SpellsEach G vs p
    → G v front → SpellsEach G (vs ++ (v ∷ [])) (p ++ front)
each-more G [] p front v h k = (
  [],
  record
      { front = front; parts = ap (λ (q : List ℕ). q ++ front) h ∙ sym (append-nil front); spelled = k },
  refl,
)
each-more G (w ∷ vs) p front v h k = (
  h.0 ++ front,
  record {
    front = h.1.front;
    parts = ap (λ (q : List ℕ). q ++ front) h.1.parts ∙ append_assoc
        h.1.front h.0 front;
    spelled = h.1.spelled;
  },
  each-more G vs h.0 front v h.2 k,
)

-- m is what follows parts of G that begin s, in sequence
pub data Passed {V : Type 0} (G : V → List ℕ → Type 0) : List ℕ → List ℕ → Type 0 where
  Here : {s : List ℕ} → Passed G s s
  Next : {s m : List ℕ} (v : V) (r : List ℕ) → Accepts G s v r → Passed G r m → Passed G s m

-- the same of one part more
passed-more : {V : Type 0} (G : V → List ℕ → Type 0) (s m r : List ℕ) (v : V) → Passed G s m → Accepts G m v r
    → Passed G s r
passed-more G s m r v Here a = Next v r a Here
passed-more G s m r v (Next w q b p) a = Next w q b (passed-more G q m r v p a)

-- the rest follows such a list, and is one exactly where the whole is
pub record Remains {V : Type 0} (t : TagName) (f : Bool) (C : V → List ℕ → Type 0) (c m : List ℕ) : Type 0 where
  pub whole : IsEach t f C m → IsEach t f C c
  pub rest : IsEach t f C c → IsEach t f C m
  pub before : HasAfter (SpellsLeaf t f C) (λ (r : List ℕ). r ≡ m) c
  pub passed : Passed (SpellsLeaf t f (SpellsAny C)) c m

pub remains-all : {V : Type 0} (t : TagName) (f : Bool) (C : V → List ℕ → Type 0) (c : List ℕ) → Remains t f C c c
remains-all t f C c = record { whole = λ h. h; rest = λ h. h; before = ([], [], c, refl, refl, refl); passed = Here }

pub remains-then : {V : Type 0} (t : TagName) (f : Bool) (C : V → List ℕ → Type 0) (c m r : List ℕ) → (m ≡ [] → ⊥)
    → Remains t f C c m → Accepts (SpellsLeaf t f (SpellsAny C)) m tt r → Remains t f C c r
remains-then {V} t f C c m r some h a = record {
  whole = λ k. h.whole (longer k);
  rest = λ k. shorter (h.rest k);
  before = further;
  passed = passed-more
      (SpellsLeaf t f (SpellsAny C)) c m r tt h.passed a;
}
  where
    further : HasAfter (SpellsLeaf t f C) (λ (q : List ℕ). q ≡ r) c
    further =
        let (vs, front, q, each, parts, same) = h.before in
        let g = any-leaf t f C a.spells.front a.spells.spelled in (
          vs ++ (g.0 ∷ []),
          front ++ a.spells.front,
          r,
          each-more (SpellsLeaf t f C) vs front a.spells.front g.0 each g.1,
          parts ∙ ap (λ (p : List ℕ). front ++ p) (same ∙ a.spells.parts) ∙ sym (append_assoc front a.spells.front r),
          refl,
        )

    longer : IsEach t f C r → IsEach t f C m
    longer k =
        let g = any-leaf t f C a.spells.front a.spells.spelled in
        (g.0 ∷ k.0, (r, record { front = a.spells.front; parts = a.spells.parts; spelled = g.1 }, k.1))

    following : (vs : List V) → SpellsEach (SpellsLeaf t f C) vs m → IsEach t f C r
    following [] e = absurd (some e)
    following (v ∷ vs) k =
        (vs, subst (SpellsEach (SpellsLeaf t f C) vs) (a.only tt k.0 (any-at t f C m v k.0 k.1)).1 k.2)

    shorter : IsEach t f C m → IsEach t f C r
    shorter k = following k.0 k.1

-- no such value is at the front of the rest
pub remains-refused : {V : Type 0} (t : TagName) (f : Bool) (C : V → List ℕ → Type 0) (c m : List ℕ) → (m ≡ [] → ⊥)
    → Remains t f C c m → Refuses (SpellsLeaf t f (SpellsAny C)) m
    → SpellsNothing (SpellsAny (SpellsSome (SpellsLeaf t f C))) c
remains-refused {V} t f C c m some h none x k = let g = h.rest (k.0, k.1.each) in none-of g.0 g.1
  where
    none-of : (vs : List V) → SpellsEach (SpellsLeaf t f C) vs m → ⊥
    none-of [] e = some e
    none-of (v ∷ vs) g = none tt g.0 (any-at t f C m v g.0 g.1)

-- nothing remains
pub remains-nothing : {V : Type 0} (t : TagName) (f : Bool) (C : V → List ℕ → Type 0) (c m : List ℕ) → (c ≡ [] → ⊥)
    → m ≡ [] → Remains t f C c m → SpellsAny (SpellsSome (SpellsLeaf t f C)) tt c
remains-nothing {V} t f C c m some end h =
    let g = h.whole ([], end) in (g.0, record { some = not-empty g.0 g.1; each = g.1 })
  where
    not-empty : (vs : List V) → SpellsEach (SpellsLeaf t f C) vs c → vs ≢ []
    not-empty vs k e = some (subst (λ (ws : List V). SpellsEach (SpellsLeaf t f C) ws c) e k)

-- where there is nothing, there is no such list
pub nothing-spelled : {V : Type 0} (t : TagName) (f : Bool) (C : V → List ℕ → Type 0) (c : List ℕ) → c ≡ []
    → SpellsNothing (SpellsAny (SpellsSome (SpellsLeaf t f C))) c
nothing-spelled {V} t f C c end x k = none-of k.0 k.1
  where
    none-of : (vs : List V) → SpellsSome (SpellsLeaf t f C) vs c → ⊥
    none-of [] g = g.some refl
    none-of (v ∷ vs) g = leaf-nowhere t f C c v g.each.0 end g.each.1

-- ---- the identifier of an attribute, and what follows it

pub identified : (c m : List ℕ) (o : List ℕ) → Accepts (SpellsLeaf oid false IsOidOf) c o m
    → IsIdentifierThen (attribute_of o m) c × ((w : Attribute) → IsIdentifierThen w c → w ≡ attribute_of o m)
identified c m o a = (
  record { front = a.spells.front; parts = a.spells.parts; identifier = a.spells.spelled },
  λ w h.
      let one = a.only w.identifier w.value (record { front = h.front; parts = h.parts; spelled = h.identifier }) in
      same w one.0 one.1,
)
  where
    same : (w : Attribute) → w.identifier ≡ o → w.value ≡ m → w ≡ attribute_of o m
    same w p q = let g : attribute_of w.identifier w.value ≡ attribute_of o m = rw (p, q) refl in g

pub unidentified : (c : List ℕ) → Refuses (SpellsLeaf oid false IsOidOf) c → SpellsNothing IsIdentifierThen c
unidentified c none w h =
    none w.identifier w.value (record { front = h.front; parts = h.parts; spelled = h.identifier })

-- an attribute begins with its identifier
pub attribute-identified : (s : List ℕ) (a : Attribute) (r : List ℕ) → Spells SpellsAttribute s a r
    → Spells (SpellsLeaf sequence true IsIdentifierThen) s a r
attribute-identified s a r h = record {
  front = h.front;
  parts = h.parts;
  spelled = record
      { contents = h.spelled.contents; value = h.spelled.value; spelled = h.spelled.spelled.identified };
}

-- what follows the identifier of an attribute is a value
pub identified-value : (c m : List ℕ) (o : List ℕ) → Accepts (SpellsLeaf oid false IsOidOf) c o m → (w : Attribute)
    → IsAttribute w c → IsValue m
identified-value c m o a w h = subst (λ (v : Attribute). IsValue v.value) ((identified c m o a).1 w h.identified) h.one

-- ---- values, in sequence, and a name, which is one value

pub each-values : {V : Type 0} (G : V → List ℕ → Type 0) → ((v : V) (p : List ℕ) → G v p → IsValue p)
    → (vs : List V) (p : List ℕ) → SpellsEach G vs p → IsValueList p
each-values G one [] p h = (0, rw h no_values)
each-values G one (v ∷ vs) p h =
    let first : IsValue h.1.front = one v h.1.front h.1.spelled in
    let others = each-values G one vs h.0 h.2 in
    (1 + others.0, rw h.1.parts (values_append 1 others.0 h.1.front h.0 first others.1))

attribute-value : (a : Attribute) (p : List ℕ) → SpellsAttribute a p → IsValue p
attribute-value a p h = composed-value-alone sequence IsAttribute a p inside h
  where
    inside : (c : List ℕ) → IsAttribute a c → IsValueList c
    inside c g = (
      2,
      rw g.identified.parts
          (values_append 1 1 g.identified.front a.value
          (leaf-value-alone oid IsOidOf a.identifier g.identified.front g.identified.identifier) g.one),
    )

relative-value : (xs : List Attribute) (p : List ℕ) → SpellsRelative xs p → IsValue p
relative-value xs p h = composed-value-alone set (SpellsSome SpellsAttribute) xs p
    (λ c g. each-values SpellsAttribute attribute-value xs c g.each) h

pub name-value : (parts : List (List Attribute)) (p : List ℕ) → SpellsName parts p → IsValue p
name-value parts p h = composed-value-alone sequence (SpellsSome SpellsRelative) parts p
    (λ c g. each-values SpellsRelative relative-value parts c g.each) h

-- ---- a name, captured

abbrev pub AnyName : Unit {0} → List ℕ → Type 0
AnyName = SpellsLeaf sequence true (SpellsAny (SpellsSome SpellsRelative))

pub name-of : (p : List ℕ) → AnyName tt p → IsName p
name-of p h = any-leaf sequence true (SpellsSome SpellsRelative) p h

pub octets-any : (s v r : List ℕ) → Spells SpellsNameOctets s v r → Spells AnyName s tt r
octets-any s v r h =
    let g = h.spelled.named in
    record {
      front = h.front;
      parts = h.parts;
      spelled = rw h.spelled.same
          (leaf-any sequence true (SpellsSome SpellsRelative) g.0 v g.1);
    }

-- ---- a name, whose octets are borrowed

-- the octets in front of the rest
front-of : (s f r o p : List ℕ) → s ≡ f ++ r → o ≡ s → p ≡ r → take (length o - length p) o ≡ f
front-of s f r o p parts a b =
    let n : length o - length p ≡ length f = omega (arith, ap length a, ap length b, ap length parts, length-append f r)
    in
    rw n (rw a (rw parts (take_at f r (length f) refl)))

pub borrowed-name : (s r o p : List ℕ) → Accepts AnyName s tt r → o ≡ s → p ≡ r → IsName (take (length o - length p) o)
borrowed-name s r o p a x y =
    subst IsName (sym (front-of s a.spells.front r o p a.spells.parts x y)) (name-of a.spells.front a.spells.spelled)

pub name-borrowed : (s r o p : List ℕ) → Accepts AnyName s tt r → o ≡ s → p ≡ r
    → Accepts SpellsNameOctets s (take (length o - length p) o) r
name-borrowed s r o p a x y =
    let f = a.spells.front in
    let same : take (length o - length p) o ≡ f = front-of s f r o p a.spells.parts x y in
    subst (λ (v : List ℕ). Accepts SpellsNameOctets s v r) (sym same) (record {
      spells = record {
        front = f;
        parts = a.spells.parts;
        spelled = record
            { same = refl; named = name-of f a.spells.spelled };
      };
      only = λ w q h.
          let g = a.only tt q (octets-any s w q h) in
          let whole : h.front ++ r ≡ f ++ r = ap (λ (l : List ℕ). h.front ++ l) (sym g.1) ∙ sym h.parts ∙ a.spells.parts
          in
          (sym h.spelled.same ∙ append_cancel_right h.front f r whole, g.1);
    })

-- they are before the rest
pub name-stands : {s v r : List ℕ} → Spells SpellsNameOctets s v r → StandsBefore s v r
name-stands {s} {v} {r} h = record {
  before = [];
  parts = h.parts ∙ ap (λ (f : List ℕ). f ++ r) h.spelled.same;
}

-- a name has an attribute, which has a value

attribute-found : (s : List ℕ) (a : Attribute) (r : List ℕ) → Spells SpellsAttribute s a r → HasAttributeValue s
attribute-found s a r h =
    let l = leaf-value sequence true IsAttribute s a r h in
    (l.0, r, l.1, (a, l.2.identified, value-either a.value l.2.one))

relative-found : (s : List ℕ) (xs : List Attribute) (r : List ℕ) → Spells SpellsRelative s xs r → HasRelativeValue s
relative-found s xs r h =
    let l = leaf-value set true (SpellsSome SpellsAttribute) s xs r h in (l.0, r, l.1, first xs l.2)
  where
    first : {c : List ℕ} (xs : List Attribute) → SpellsSome SpellsAttribute xs c
        → HasAfter SpellsAttribute HasAttributeValue c
    first [] k = absurd (k.some refl)
    first {c} (x ∷ xs) k = ([], [], c, refl, refl, attribute-found c x k.each.0 k.each.1)

pub name-found : (s r : List ℕ) → Spells AnyName s tt r → HasNameValue s
name-found s r h = let l = leaf-value sequence true (SpellsAny (SpellsSome SpellsRelative)) s tt r h in
    (l.0, r, l.1, first l.2.0 l.2.1)
  where
    first : {c : List ℕ} (parts : List (List Attribute)) → SpellsSome SpellsRelative parts c
        → HasAfter SpellsRelative HasRelativeValue c
    first [] k = absurd (k.some refl)
    first {c} (x ∷ parts) k = ([], [], c, refl, refl, relative-found c x k.each.0 k.each.1)

-- ---- whether one value remains

pub no-value-where-nothing : (s : List ℕ) → ((s ≡ [] → ⊥) → ⊥) → SpellsNothing SpellsAnyValue s
no-value-where-nothing s h x v = h (λ e. omega (arith, value-some v, ap length e))
