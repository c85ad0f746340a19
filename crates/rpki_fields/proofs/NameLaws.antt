-- What is written of the attributes of a name.
use Rattle.std.proofs.Common.{◌≡◌, ℕ, true, List, [], ◌∷◌, ◌++◌, refl, sym, ap, ◌∙◌, append_assoc, Some, None, drop}
use Rattle.std.proofs.lemmas.List.{append-nil}
use Rattle.std.proofs.lemmas.Grind.{flat_map-append}
use Rattle.std.specs.List.{flat_map}
use Rattle.rpki_der.specs.Front.{front_contents}
use Rattle.rpki_der.proofs.FrontLaws.{contents-alone}
use Rattle.rpki.specs.declared.repository.x509.name.attributes.AttributeView.{AttributeView}
use Rattle.rpki.specs.Name.{Attribute, attribute_of, SpellsEach, SpellsRelative, SpellsName}
use Rattle.rpki.specs.NameAttributes.{MarkedAttribute, following, marked_relative, marked_attributes, NameRest, AreLeft}
use Rattle.rpki.specs.NameAttributes.{GivesAttribute}
use Rattle.rpki_fields.specs.NameText.{marked_text, plus_attribute, comma_relative, IsNameText}

-- ---- all of the attributes

abbrev pub shown : MarkedAttribute → List ℕ
shown x = marked_text x.begins x.attribute

abbrev pub written : List MarkedAttribute → List ℕ
written xs = flat_map shown xs

following-written : (xs : List Attribute) → written (following xs) ≡ flat_map plus_attribute xs
following-written [] = refl
following-written (x ∷ xs) = ap (λ (l : List ℕ). plus_attribute x ++ l) (following-written xs)

relative-written : (xs : List Attribute) (p : List ℕ) → SpellsRelative xs p
    → written (marked_relative xs) ≡ comma_relative xs
relative-written [] p h = absurd (h.spelled.some refl)
relative-written (x ∷ xs) p h = ap (λ (l : List ℕ). marked_text true x ++ l) (following-written xs)

each-written : (parts : List (List Attribute)) (p : List ℕ) → SpellsEach SpellsRelative parts p
    → written (marked_attributes parts) ≡ flat_map comma_relative parts
each-written [] p h = refl
each-written (xs ∷ parts) p h =
    flat_map-append shown (marked_relative xs) (marked_attributes parts)
    ∙ ap (λ (l : List ℕ). l ++ written (marked_attributes parts)) (relative-written xs h.1.front h.1.spelled)
    ∙ ap (λ (l : List ℕ). comma_relative xs ++ l) (each-written parts h.0 h.2)

-- ---- the attributes so far

-- of the attributes xs this was written of those in front, and the others remain
pub record AreWritten (xs : List MarkedAttribute) (rest : NameRest) (text : List ℕ) : Type 0 where
  pub done : List MarkedAttribute
  pub todo : List MarkedAttribute
  pub split : xs ≡ done ++ todo
  pub left : AreLeft rest todo
  pub are : text ≡ flat_map shown done

pub none-written : (xs : List MarkedAttribute) (rest : NameRest) (text : List ℕ) → AreLeft rest xs → text ≡ []
    → AreWritten xs rest text
none-written xs rest text h e = record { done = []; todo = xs; split = refl; left = h; are = e }

module _ (xs : List MarkedAttribute) (rest : NameRest) (text : List ℕ) (h : AreWritten xs rest text) where
  pub all-written : (after : NameRest)
      → ((ys : List MarkedAttribute) → AreLeft rest ys → GivesAttribute ys None after) → text ≡ written xs
  all-written after none = go h.todo h.split (none h.todo h.left)
    where
      go : (todo : List MarkedAttribute) → xs ≡ h.done ++ todo → GivesAttribute todo None after → text ≡ written xs
      go [] e k = h.are ∙ ap written (sym (e ∙ append-nil h.done))
      go (y ∷ ys) e k = absurd k

  module _ (v : AttributeView) (after : NameRest)
      (given : (ys : List MarkedAttribute) → AreLeft rest ys → GivesAttribute ys (Some v) after) where
    pub contents-front : v.contents.now ≡ front_contents v.value.now
    contents-front = go h.todo (given h.todo h.left)
      where
        go : (todo : List MarkedAttribute) → GivesAttribute todo (Some v) after
            → v.contents.now ≡ front_contents v.value.now
        go [] k = absurd k
        go (y ∷ ys) k = sym (ap front_contents k.0.value ∙ contents-alone _ _ _ _ k.0.contents)

    pub more-written : (more : List ℕ)
        → more ≡ text ++ marked_text v.begins (attribute_of v.identifier.0.now v.value.now) → AreWritten xs after more
    more-written more is = go h.todo h.split (given h.todo h.left)
      where
        go : (todo : List MarkedAttribute) → xs ≡ h.done ++ todo → GivesAttribute todo (Some v) after
            → AreWritten xs after more
        go [] e k = absurd k
        go (y ∷ ys) e k =
            let same : marked_text v.begins (attribute_of v.identifier.0.now v.value.now) ≡ shown y =
            rw (k.0.begins, k.0.identifier, k.0.value) refl in
            record {
              done = h.done ++ y ∷ [];
              todo = ys;
              split = e ∙ sym (append_assoc h.done (y ∷ []) ys);
              left = k.1;
              are = is ∙ ap (λ (l : List ℕ). text ++ l) same ∙ ap (λ (l : List ℕ). l ++ shown y) h.are
                  ∙ ap (λ (l : List ℕ). flat_map shown h.done ++ l) (sym (append-nil (shown y)))
                  ∙ sym (flat_map-append shown h.done (y ∷ []));
            }

-- the whole name
pub name-written : (octets all text : List ℕ) (parts : List (List Attribute)) → SpellsName parts octets
    → all ≡ written (marked_attributes parts) → text ≡ drop 2 all → IsNameText octets text
name-written octets all text parts h e is =
    (parts, h, is ∙ ap (drop 2) (e ∙ each-written parts h.contents h.spelled.each))
