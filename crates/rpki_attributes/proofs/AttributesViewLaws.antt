-- Signed attributes that are read in place.
use Rattle.std.proofs.Common.{◌≡◌, ◌∙◌, ◌++◌, ℕ, Bool, true, false, List, Some, refl, sym, ap, subst}
use Rattle.std.proofs.lemmas.List.{append_cancel_right}
use Rattle.rpki_der.specs.declared.error.DecodeError.{DecodeError}
use Rattle.rpki_der.specs.declared.error.DecodeError.TheVariants.{OutOfMemory}
use Rattle.rpki_der.specs.TagName.{sequence, set, oid}
use Rattle.rpki_der.specs.Leaves.{IsOidOf}
use Rattle.rpki_der.specs.Reading.{Spells, Accepts, Refuses, Refusal, SpellsNothing}
use Rattle.rpki_der.specs.Values.{SpellsContents}
use Rattle.rpki_der.specs.FirstFault.{IsEndFault}
use Rattle.rpki_der.specs.Format.{only}
use Rattle.rpki_der.specs.LeafFormats.{any_oid}
use Rattle.rpki_der.specs.Section.{IsSection}
use Rattle.rpki_der.proofs.LeavesLaws.{leaf-no-memory, contents-no-memory}
use Rattle.rpki_der.proofs.FirstFaultLaws.{inside-no-memory, first-no-memory, end-no-memory}
use Rattle.rpki_x509.proofs.InPlaceLaws.{refused}
use Rattle.rpki_attributes.specs.declared.signed_attrs_view.SignedAttrsView.{SignedAttrsView}
use Rattle.rpki_attributes.specs.SignedAttributes.{AttributeValues, AttributesParts, attributes_tag, each_attribute}
use Rattle.rpki_attributes.specs.SignedAttributes.{message_of, signed_attributes, values_known, attribute}
use Rattle.rpki_attributes.specs.SignedAttributes.{attribute_parts, value_set}
use Rattle.rpki_attributes.specs.SignedAttributesView.{AreTogether, TakesAttributes}
use Rattle.rpki_attributes.proofs.AttributesLaws.{parts_from}

pub attribute-no-memory : (s : List ℕ) → attribute.fault s OutOfMemory → ⊥
attribute-no-memory s =
    inside-no-memory sequence true attribute_parts.fault s
    (λ c. first-no-memory any_oid.spells any_oid.fault (λ a. (only value_set).fault) c
    (λ k. leaf-no-memory oid false IsOidOf c OutOfMemory k refl)
    (λ a q. first-no-memory value_set.spells value_set.fault (λ v. IsEndFault) q
    (λ k. contents-no-memory set true q OutOfMemory k refl) (λ v p. end-no-memory p)))

pub attribute-refused : (s r : List ℕ) (e : DecodeError) → Refusal attribute.spells attribute.fault s r e
    → Refuses attribute.spells s
attribute-refused s r e = refused attribute.spells attribute.fault s r e (attribute-no-memory s)

module _ (strict : Bool) (s c r : List ℕ) (a : Accepts (SpellsContents attributes_tag true) s c r) where
  record Contained (x : AttributesParts) (q front : List ℕ) : Type 0 where
    together : AreTogether strict x.values c
    rest : q ≡ r
    message : x.message ≡ message_of front

  contained : (x : AttributesParts) (q : List ℕ) (h : Spells (signed_attributes strict).spells s x q)
      → Contained x q h.front
  contained x q h =
      let l = h.spelled.spelled.1 in
      let e = a.only l.contents q (record { front = h.front; parts = h.parts; spelled = l.value }) in
      record {
        together = record {
          attributes = h.spelled.value.1;
          each = subst (each_attribute.spells h.spelled.value.1) e.0 l.spelled;
          say = h.spelled.stands.values;
        };
        rest = e.1;
        message = h.spelled.stands.message ∙ ap message_of h.spelled.spelled.0;
      }

  pub attributes-other : SpellsNothing (AreTogether strict) c → Refuses (signed_attributes strict).spells s
  attributes-other none x q h = none x.values (contained x q h).together

  same-front : (q : List ℕ) (h : List ℕ) → s ≡ h ++ q → q ≡ r → h ≡ a.spells.front
  same-front q h parts e =
      append_cancel_right h a.spells.front r (ap (λ (z : List ℕ). h ++ z) (sym e) ∙ sym parts ∙ a.spells.parts)

  same-parts : (x : AttributesParts) (m : List ℕ) (v : AttributeValues) → x.message ≡ m → x.values ≡ v
      → x ≡ parts_from m v
  same-parts x m v e f =
      ap (λ (y : List ℕ). parts_from y x.values) e ∙ ap (λ (w : AttributeValues). parts_from m w) f

  pub attributes-taken : (v : SignedAttrsView) → IsSection v.octets a.spells.front r
      → AreTogether strict (values_known v.values) c
      × ((w : AttributeValues) → AreTogether strict w c → w ≡ values_known v.values)
      → TakesAttributes strict s r (Some v)
  attributes-taken v at k = (
    parts_from (message_of a.spells.front) (values_known v.values),
    record {
      spells = record {
        front = a.spells.front;
        parts = a.spells.parts;
        spelled = record {
          value = (a.spells.front, k.0.attributes);
          spelled = (refl, record { contents = c; value = a.spells.spelled; spelled = k.0.each });
          stands = record { message = refl; values = k.0.say };
        };
      };
      only = λ x q h.
          let l = contained x q h in (
            same-parts x (message_of a.spells.front) (values_known v.values)
                (l.message ∙ ap message_of (same-front q h.front h.parts l.rest)) (k.1 x.values l.together),
            l.rest,
          );
    },
    record { section = at; message = ap message_of (sym at.octets); values = refl },
  )

pub attributes-outside : (strict : Bool) (s : List ℕ) → Refuses (SpellsContents attributes_tag true) s
    → Refuses (signed_attributes strict).spells s
attributes-outside strict s none x q h =
    let l = h.spelled.spelled.1 in
    none l.contents q (record { front = h.front; parts = h.parts; spelled = l.value })
