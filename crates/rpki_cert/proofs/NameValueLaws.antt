-- The attributes of a name, checked against a rule in sequence.
use Rattle.std.proofs.Common.{◌≡◌, List, [], ◌∷◌, ◌++◌, refl, sym, ap, subst, ◌∙◌, append_assoc, append-nil, ℕ}
use Rattle.std.proofs.Common.{Bool, false, IsTrue, ◌↔◌}
use Rattle.std.specs.Prelude.{Some, None, All, map}
use Rattle.std.proofs.lemmas.List.{map-append}
use Rattle.std.proofs.lemmas.List.Elements.{All-append, All-nil, All-cons, All-contains, Contains-push}
use Rattle.std.proofs.lemmas.List.Elements.{Contains-append_left}
use Rattle.rpki.specs.declared.repository.x509.name.attributes.AttributeView.{AttributeView}
use Rattle.rpki.specs.Name.{Attribute, attribute_of}
use Rattle.rpki.specs.NameAttributes.{MarkedAttribute, following, marked_relative, marked_attributes, NameRest, AreLeft}
use Rattle.rpki.specs.NameAttributes.{IsViewOf, GivesAttribute}
use Rattle.rpki.specs.StrictName.{attributes}
use Rattle.rpki_der.specs.declared.error.DecodeError.{DecodeError}
use Rattle.rpki_der.specs.Prelude.{TagName, Accepts, Refusal, SpellsLeaf, IsLeafFault}
use Rattle.rpki_der.proofs.ComposedLaws.{all-read, spelled-whole}
use Rattle.rpki.proofs.InspectionLaws.{whole-read, whole-unread}

-- ---- a whole value of which P holds, from what a reader of a beginning returned

module _ {V : Type 0} (G : V → List ℕ → Type 0) (P : V → Type 0) (s r : List ℕ) (v : V) (a : Accepts G s v r) where
  pub sized-holds : ((w : V) × G w s × P w) → P v
  sized-holds g = subst P (a.only g.0 [] (spelled-whole G s g.0 g.1)).0 g.2

  pub sized-whole : (b : Bool) → P v → IsTrue b ↔ (r ≡ []) → IsTrue b ↔ ((w : V) × G w s × P w)
  sized-whole b p h = (λ e. (v, (all-read G s v r a (h.0 e)).0, p), λ g. (whole-read G s r v b a h).1 (g.0, g.1))

pub sized-unread : {V : Type 0} (t : TagName) (f : Bool) (C : V → List ℕ → Type 0) (P : V → Type 0) (s r : List ℕ)
    (e : DecodeError) → Refusal (SpellsLeaf t f C) (IsLeafFault t f C) s r e
    → IsTrue false ↔ ((w : V) × SpellsLeaf t f C w s × P w)
sized-unread t f C P s r e h =
    let none = whole-unread t f C s r e h in
    (λ z. absurd (let w = z in cc), λ g. none.1 (g.0, g.1))

-- ---- the attributes of a name

-- without the marks
abbrev pub unmarked : List MarkedAttribute → List Attribute
unmarked xs = map (λ x. x.attribute) xs

following-unmarked : (xs : List Attribute) → unmarked (following xs) ≡ xs
following-unmarked [] = refl
following-unmarked (x ∷ xs) = ap (λ (l : List Attribute). x ∷ l) (following-unmarked xs)

relative-unmarked : (xs : List Attribute) → unmarked (marked_relative xs) ≡ xs
relative-unmarked [] = refl
relative-unmarked (x ∷ xs) = ap (λ (l : List Attribute). x ∷ l) (following-unmarked xs)

name-unmarked : (parts : List (List Attribute)) → unmarked (marked_attributes parts) ≡ attributes parts
name-unmarked [] = refl
name-unmarked (xs ∷ parts) =
    map-append (λ x. x.attribute) (marked_relative xs) (marked_attributes parts)
    ∙ ap (λ (l : List Attribute). l ++ unmarked (marked_attributes parts)) (relative-unmarked xs)
    ∙ ap (λ (l : List Attribute). xs ++ l) (name-unmarked parts)

-- of the attributes xs those in front obey P, and the others remain
pub record HaveObeyed (P : Attribute → Type 0) (xs : List MarkedAttribute) (rest : NameRest) : Type 0 where
  pub done : List MarkedAttribute
  pub todo : List MarkedAttribute
  pub split : xs ≡ done ++ todo
  pub left : AreLeft rest todo
  pub obeyed : All P (unmarked done)

-- the view of an attribute stands for it
viewed : (v : AttributeView) (x : MarkedAttribute) → IsViewOf v x
    → attribute_of v.identifier.0.now v.value.now ≡ x.attribute
viewed v x h =
    let e : attribute_of v.identifier.0.now v.value.now ≡ attribute_of x.attribute.identifier x.attribute.value =
    rw (h.identifier, h.value) refl in
    e

pub none-yet : (P : Attribute → Type 0) (xs : List MarkedAttribute) (rest : NameRest) → AreLeft rest xs
    → HaveObeyed P xs rest
none-yet P xs rest h = record { done = []; todo = xs; split = refl; left = h; obeyed = All-nil P }

module _ (P : Attribute → Type 0) (xs : List MarkedAttribute) (rest : NameRest) (h : HaveObeyed P xs rest) where
  -- none remains
  pub all-obeyed : (after : NameRest)
      → ((ys : List MarkedAttribute) → AreLeft rest ys → GivesAttribute ys None after) → All P (unmarked xs)
  all-obeyed after none = go h.todo h.split (none h.todo h.left)
    where
      go : (todo : List MarkedAttribute) → xs ≡ h.done ++ todo → GivesAttribute todo None after → All P (unmarked xs)
      go [] e k = subst (λ (l : List MarkedAttribute). All P (unmarked l)) (sym (e ∙ append-nil h.done)) h.obeyed
      go (y ∷ ys) e k = absurd k

  module _ (v : AttributeView) (after : NameRest)
      (given : (ys : List MarkedAttribute) → AreLeft rest ys → GivesAttribute ys (Some v) after) where
    -- the next one obeys too
    pub one-more : P (attribute_of v.identifier.0.now v.value.now) → HaveObeyed P xs after
    one-more obeys = go h.todo h.split (given h.todo h.left)
      where
        go : (todo : List MarkedAttribute) → xs ≡ h.done ++ todo → GivesAttribute todo (Some v) after
            → HaveObeyed P xs after
        go [] e k = absurd k
        go (y ∷ ys) e k = record {
          done = h.done ++ y ∷ [];
          todo = ys;
          split = e ∙ sym (append_assoc h.done (y ∷ []) ys);
          left = k.1;
          obeyed = subst (All P) (sym (map-append (λ x. x.attribute) h.done (y ∷ [])))
              (All-append P (unmarked h.done) (y.attribute ∷ []) h.obeyed
              (All-cons P y.attribute [] (subst P (viewed v y k.0) obeys) (All-nil P)));
        }

    -- the next one is one of them
    pub is-one : All P (unmarked xs) → P (attribute_of v.identifier.0.now v.value.now)
    is-one all = go h.todo h.split (given h.todo h.left)
      where
        go : (todo : List MarkedAttribute) → xs ≡ h.done ++ todo → GivesAttribute todo (Some v) after
            → P (attribute_of v.identifier.0.now v.value.now)
        go [] e k = absurd k
        go (y ∷ ys) e k =
            let split : unmarked xs ≡ (unmarked h.done ++ y.attribute ∷ []) ++ unmarked ys =
            ap unmarked e ∙ map-append (λ x. x.attribute) h.done (y ∷ ys)
            ∙ sym (append_assoc (unmarked h.done) (y.attribute ∷ []) (unmarked ys)) in
            subst P (sym (viewed v y k.0))
            (All-contains P ((unmarked h.done ++ y.attribute ∷ []) ++ unmarked ys) y.attribute (subst (All P) split all)
            (Contains-append_left (unmarked h.done ++ y.attribute ∷ []) (unmarked ys) y.attribute
            (Contains-push (unmarked h.done) y.attribute)))

-- of the attributes of a name
pub of-parts : (P : Attribute → Type 0) (parts : List (List Attribute)) → All P (unmarked (marked_attributes parts))
    → All P (attributes parts)
of-parts P parts = subst (All P) (name-unmarked parts)

pub to-parts : (P : Attribute → Type 0) (parts : List (List Attribute)) → All P (attributes parts)
    → All P (unmarked (marked_attributes parts))
to-parts P parts = subst (All P) (sym (name-unmarked parts))
