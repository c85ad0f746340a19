-- Why octets begin with no signed attributes.
use Rattle.std.proofs.Common.{◌≡◌, ◌≢◌, ◌∙◌, ◌++◌, ◌⊎◌, ℕ, Bool, true, List, [], ◌∷◌, refl, subst, ap, inl}
use Rattle.std.proofs.Common.{append-nil}
use Rattle.std.specs.Prelude.{codes}
use Rattle.rpki_der.specs.declared.error.DecodeError.{DecodeError}
use Rattle.rpki_der.specs.declared.error.DecodeError.TheVariants.{OutOfMemory}
use Rattle.rpki_der.specs.Reading.{Spells, Accepts, Refuses, Refusal, SpellsNothing, TakesNoMemory, Finds}
use Rattle.rpki_der.specs.Values.{SpellsContents, IsContentsFault}
use Rattle.rpki_der.specs.FirstFault.FirstFault.{AtPart, Later}
use Rattle.rpki_der.specs.FirstFault.RepeatedFault.{AtMember, AfterMember}
use Rattle.rpki_der.proofs.FirstFaultLaws.{memory-where}
use Rattle.rpki_der.proofs.LeavesLaws.{contents-no-memory}
use Rattle.rpki_der.proofs.ReadingLaws.{UnlessMemory-from}
use Rattle.rpki.specs.UnknownAlgorithm.{IsContentWith}
use Rattle.rpki_x509.proofs.InPlaceLaws.{contents-refused, outside, not-inside}
use Rattle.rpki_attributes.specs.SignedAttributes.{Attribute, AttributesParts, SayAll, attribute, attributes_tag}
use Rattle.rpki_attributes.specs.SignedAttributes.{attribute_list, each_attribute, signed_attributes, with_octets}
use Rattle.rpki_attributes.specs.SignedAttributesView.{AreOnly}
use Rattle.rpki_attributes.proofs.AttributesLaws.{octets-too}
use Rattle.rpki_attributes.proofs.AttributesViewLaws.{attribute-no-memory, attribute-refused}
use Rattle.rpki_attributes.proofs.TogetherLaws.{Begins, all-these, none-left, others}
use Rattle.rpki_attributes.proofs.TogetherLaws.Begins.{NoneYet, OneMore}

-- ---- attributes, in sequence

-- one more, after these
pub one-more : (s m r : List ℕ) (xs : List Attribute) (x : Attribute) → Begins s xs m → Accepts attribute.spells m x r
    → Begins s (xs ++ x ∷ []) r
one-more s m r [] x NoneYet a = OneMore a NoneYet
one-more s m r (y ∷ ys) x (OneMore b k) a = OneMore b (one-more _ m r ys x k a)

-- what follows these is no attribute
list-fault : (s r q : List ℕ) (xs : List Attribute) (e : DecodeError) → Begins s xs r → (r ≡ [] → ⊥)
    → Refusal attribute.spells attribute.fault r q e → each_attribute.fault s e
list-fault s r q [] e NoneYet some h =
    AtMember some h.refuses
    (memory-where (λ t. attribute.fault t OutOfMemory ⊎ Finds attribute.spells t) attribute.fault s e
    (λ z. inl (subst (attribute.fault s) z h.kind)) h.kind)
list-fault s r q (x ∷ xs) e (OneMore a b) some h = AfterMember x _ a (list-fault _ r q xs e b some h)

pub list-at : (s r q : List ℕ) (xs : List Attribute) (e : DecodeError) → Begins s xs r → (r ≡ [] → ⊥)
    → Refusal attribute.spells attribute.fault r q e → TakesNoMemory each_attribute.fault s e
list-at s r q xs e b some h = record {
  other = λ z. attribute-no-memory r (subst (attribute.fault r) z h.kind);
  kind = list-fault s r q xs e b some h;
}

pub list-whole : (s r : List ℕ) (xs : List Attribute) → Begins s xs r → r ≡ [] → AreOnly s
list-whole s r xs b end = (
  xs,
  all-these s r xs b end,
  λ ys h.
      let k = others s r xs b ys h in
      k.1 ∙ ap (λ (zs : List Attribute). xs ++ zs) (none-left r end k.0 k.2) ∙ append-nil xs,
)

pub list-nothing : (s r q : List ℕ) (xs : List Attribute) (e : DecodeError) → Begins s xs r → (r ≡ [] → ⊥)
    → Refusal attribute.spells attribute.fault r q e → SpellsNothing each_attribute.spells s
list-nothing s r q xs e b some h ys k = let l = others s r xs b ys k in not l.0 l.2 where
  not : (zs : List Attribute) → each_attribute.spells zs r → ⊥
  not [] each = some each
  not (z ∷ zs) each = attribute-refused r q e h z each.0 each.1

-- ---- all of it

module _ (strict : Bool) (s : List ℕ) where
  abbrev pub IsFault : DecodeError → Type 0
  IsFault = TakesNoMemory (signed_attributes strict).fault s

  bare : Refuses attribute_list.spells s → Refuses (with_octets attribute_list).spells s
  bare none x r h = none x.1 r (record { front = h.front; parts = h.parts; spelled = h.spelled.1 })

  -- the tag isn't there
  pub tag-fault : (r : List ℕ) (e : DecodeError)
      → Refusal (SpellsContents attributes_tag true) (IsContentsFault attributes_tag true) s r e → IsFault e
  tag-fault r e h = let none = contents-refused attributes_tag s r e h in record {
    other = λ z. contents-no-memory attributes_tag true s e h.kind z;
    kind =
        AtPart (UnlessMemory-from e (bare (outside attributes_tag each_attribute.spells s none)))
        (AtPart (UnlessMemory-from e none) h.kind);
  }

  module _ (c r : List ℕ) (a : Accepts (SpellsContents attributes_tag true) s c r) where
    -- one is no attribute
    pub member-fault : (e : DecodeError) → SpellsNothing each_attribute.spells c
        → TakesNoMemory each_attribute.fault c e → IsFault e
    member-fault e none h = record {
      other = h.other;
      kind =
          AtPart (UnlessMemory-from e (bare (not-inside attributes_tag each_attribute.spells s c r a none)))
          (Later c r a h.kind);
    }

    whole-list : (xs : List Attribute) → each_attribute.spells xs c
        → ((ys : List Attribute) → each_attribute.spells ys c → ys ≡ xs) → Accepts attribute_list.spells s xs r
    whole-list xs each only = record {
      spells = record {
        front = a.spells.front;
        parts = a.spells.parts;
        spelled = record { contents = c; value = a.spells.spelled; spelled = each };
      };
      only = λ ys q h.
          let e = a.only h.spelled.contents q (record { front = h.front; parts = h.parts; spelled = h.spelled.value })
          in (only ys (subst (each_attribute.spells ys) e.0 h.spelled.spelled), e.1);
    }

    -- they are others
    pub others-fault : Refuses (signed_attributes strict).spells s → AreOnly c → (e : DecodeError) → e ≢ OutOfMemory
        → IsContentWith (codes "signed attributes that no signed object has") e → IsFault e
    others-fault none only e other text =
        let l = whole-list only.0 only.1 only.2 in
        let o = octets-too attribute_list s r only.0 l in
        let not : (v : AttributesParts) → SayAll strict v (l.spells.front, only.0) → ⊥ =
        λ v say. none v r (record {
          front = o.spells.front;
          parts = o.spells.parts;
          spelled = record { value = (l.spells.front, only.0); spelled = o.spells.spelled; stands = say };
        }) in
        record { other = other; kind = Later (l.spells.front, only.0) r o (inl (not, text)) }
