-- The signed attributes of a signer.
use Rattle.std.proofs.Common.{◌≡◌, ℕ, Bool, List, ◌++◌, inl, inr, refl, sym, ap, ◌∙◌}
use Rattle.std.proofs.lemmas.List.{append_cancel_right}
use Rattle.std.specs.Prelude.{codes}
use Rattle.rpki_der.specs.declared.error.DecodeError.{DecodeError}
use Rattle.rpki_der.specs.declared.error.DecodeError.TheVariants.{OutOfMemory}
use Rattle.rpki_der.specs.Format.{Format}
use Rattle.rpki_der.specs.Reading.{Spells, Accepts, Refusal}
use Rattle.rpki_der.proofs.ReadingLaws.{UnlessMemory-weaker, UnlessMemory-from}
use Rattle.rpki.specs.UnknownAlgorithm.{IsContentWith}
use Rattle.rpki_attributes.specs.SignedAttributes.{Attribute, AttributeValues, AttributesParts, AreSigned, SayAll}
use Rattle.rpki_attributes.specs.SignedAttributes.{AreOthers}
use Rattle.rpki_attributes.specs.SignedAttributes.{message_of, with_octets, attribute_list, signed_attributes}
use Rattle.rpki_x509.proofs.StandingForLaws.{none-there, none-stands, one-stands}

abbrev pub parts_from : List ℕ → AttributeValues → AttributesParts
parts_from message values = record { message = message; values = values }

-- ---- a value with its octets

module _ {V : Type 0} (F : Format V) (s r : List ℕ) where
  bare : {x : List ℕ × V} {q : List ℕ} (h : Spells (with_octets F).spells s x q) → Spells F.spells s x.1 q
  bare h = record { front = h.front; parts = h.parts; spelled = h.spelled.1 }

  pub octets-refused : (e : DecodeError) → Refusal F.spells F.fault s r e
      → Refusal (with_octets F).spells (with_octets F).fault s r e
  octets-refused e h = record {
    unchanged = h.unchanged;
    refuses = UnlessMemory-weaker e (λ none x q k. none x.1 q (bare k)) h.refuses;
    kind = h.kind;
  }

  pair : (x : List ℕ × V) (p : List ℕ) (v : V) → x.0 ≡ p → x.1 ≡ v → x ≡ (p, v)
  pair x p v e f = ap (λ (q : List ℕ). (q, x.1)) e ∙ ap (λ (w : V). (p, w)) f

  pub octets-too : (v : V) (a : Accepts F.spells s v r) → Accepts (with_octets F).spells s (a.spells.front, v) r
  octets-too v a = record {
    spells = record { front = a.spells.front; parts = a.spells.parts; spelled = (refl, a.spells.spelled) };
    only = λ x q h.
        let e = a.only x.1 q (bare h) in
        let both : h.front ++ r ≡ a.spells.front ++ r =
        ap (λ (z : List ℕ). h.front ++ z) (sym e.1) ∙ (sym h.parts ∙ a.spells.parts) in
        (pair x a.spells.front v (h.spelled.0 ∙ append_cancel_right h.front a.spells.front r both) e.0, e.1);
  }

-- ---- the attributes, and what they say

module _ (strict : Bool) (s : List ℕ) where
  abbrev pub Unread : DecodeError → Type 0
  Unread e = Refusal (signed_attributes strict).spells (signed_attributes strict).fault s s e

  -- there are no attributes
  pub no-list : (r : List ℕ) (e : DecodeError) → Refusal attribute_list.spells attribute_list.fault s r e → Unread e
  no-list r e h =
      none-there (SayAll strict) (with_octets attribute_list).spells (with_octets attribute_list).fault
      (AreOthers strict)
      (octets-refused attribute_list s r e h)

  module _ (r : List ℕ) (xs : List Attribute) (a : Accepts attribute_list.spells s xs r) where
    -- they are others
    pub others : ((v : AttributeValues) → AreSigned strict xs v → ⊥) → (e : DecodeError)
        → IsContentWith (codes "signed attributes that no signed object has") e → Unread e
    others none e text =
        let not : (v : AttributesParts) → SayAll strict v (a.spells.front, xs) → ⊥ = λ v h. none v.values h.values in
        none-stands (SayAll strict) (with_octets attribute_list).spells (with_octets attribute_list).fault
        (AreOthers strict)
        (octets-too attribute_list s r xs a) (UnlessMemory-from e not) (inl (not, text))

    module _ (v : AttributeValues) (say : AreSigned strict xs v) where
      abbrev the-parts : AttributesParts
      the-parts = parts_from (message_of a.spells.front) v

      says : SayAll strict the-parts (a.spells.front, xs)
      says = record { message = refl; values = say }

      -- there is no memory to keep them
      pub not-kept : Unread OutOfMemory
      not-kept =
          none-stands (SayAll strict) (with_octets attribute_list).spells (with_octets attribute_list).fault
          (AreOthers strict) (octets-too attribute_list s r xs a) tt (inr ((the-parts, says), refl))

      -- they are kept
      pub all-kept : ((w : AttributeValues) → AreSigned strict xs w → w ≡ v) → (message : List ℕ)
          → message ≡ message_of a.spells.front
          → Accepts (signed_attributes strict).spells s (parts_from message v) r
      all-kept only message is =
          one-stands (SayAll strict) (with_octets attribute_list).spells (with_octets attribute_list).fault
          (AreOthers strict) (parts_from message v) (octets-too attribute_list s r xs a)
          (record { message = is; values = say })
          (λ w h. ap (λ (m : List ℕ). parts_from m w.values) (h.message ∙ sym is)
          ∙ ap (λ (x : AttributeValues). parts_from message x) (only w.values h.values))
