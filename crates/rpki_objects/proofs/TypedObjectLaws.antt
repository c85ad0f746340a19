-- Signed objects of one type, over the fields of an object.
use Rattle.std.proofs.Common.{◌≡◌, ◌≢◌, ◌∙◌, ℕ, Bool, List, inl, inr, refl, ap}
use Rattle.std.specs.Prelude.{codes}
use Rattle.rpki_der.specs.declared.error.DecodeError.{DecodeError}
use Rattle.rpki_der.specs.Reading.{Accepts, Refusal, UnlessMemory, SpellsNothing, IsWholeFault}
use Rattle.rpki_der.specs.Format.{Format}
use Rattle.rpki_der.proofs.ReadingLaws.{UnlessMemory-from, UnlessMemory-weaker}
use Rattle.rpki.specs.UnknownAlgorithm.{IsContentWith}
use Rattle.rpki_contents.specs.Roa.{AttestationParts, attestation, Both, fields_of}
use Rattle.rpki_objects.specs.SignedObject.{ObjectParts, ObjectFields, object_fields_of, signed_object}
use Rattle.rpki_objects.specs.TypedObject.{TypedParts, typed_of, IsTyped, IsUntyped, typed_object}
use Rattle.rpki_x509.proofs.StandingForLaws.{none-there, none-stands, one-stands}

-- fields are those of one object
abbrev object_from : ObjectFields → ObjectParts
object_from x =
    let signer = x.1.1.1.1.1 in
    record {
      content = record { content_type = x.1.1.1.0.0; content = x.1.1.1.0.1 };
      cert = x.1.1.1.1.0;
      signer = record {
        identifier = signer.1.0;
        attributes = signer.1.1.1.0;
        signature = record { algorithm = signer.1.1.1.1.0; value = signer.1.1.1.1.1 };
      };
    }

-- and those of an attestation
abbrev attestation_from : ℕ × Both → AttestationParts
attestation_from x = attestation x.0 x.1.0 x.1.1

pub one-attestation : (x y : AttestationParts) → fields_of x ≡ fields_of y → x ≡ y
one-attestation x y e = ap attestation_from e

module _ {C V : Type 0} (wanted : List ℕ) (view : C → V) (F : Format V) (strict : Bool) where
  abbrev Object : ObjectFields → List ℕ → Type 0
  Object = (signed_object strict).spells

  abbrev ObjectFault : List ℕ → DecodeError → Type 0
  ObjectFault = (signed_object strict).fault

  abbrev Stands : TypedParts C → ObjectFields → Type 0
  Stands = IsTyped wanted (λ v. F.spells (view v))

  abbrev Wrong : ObjectFields → List ℕ → DecodeError → Type 0
  Wrong x rest = IsUntyped wanted F x

  abbrev Typed : Format (TypedParts C)
  Typed = typed_object wanted view F strict

  module _ {s r : List ℕ} where
    -- there is no signed object
    pub no-object : {e : DecodeError} → Refusal Object ObjectFault s r e → Refusal Typed.spells Typed.fault s s e
    no-object h = none-there Stands Object ObjectFault Wrong h

    module _ (o : ObjectParts) (a : Accepts Object s (object_fields_of o) r) where
      -- its type is another
      pub other-type : {e : DecodeError} → (o.content.content_type ≢ wanted)
          → IsContentWith (codes "another content type") e → Refusal Typed.spells Typed.fault s s e
      other-type {e} other text =
          none-stands Stands Object ObjectFault Wrong a (UnlessMemory-from e (λ v h. other h.type)) (inl (other, text))

      module _ (type : o.content.content_type ≡ wanted) where
        -- the content is none of F
        pub not-content : {e : DecodeError}
            → UnlessMemory e (SpellsNothing F.spells o.content.content)
            × IsWholeFault F.spells F.fault o.content.content e → Refusal Typed.spells Typed.fault s s e
        not-content {e} h =
            none-stands Stands Object ObjectFault Wrong a
            (UnlessMemory-weaker e (λ none v k. none (view v.content) k.content) h.0) (inr (type, h.1))

        -- it is this one, of which the fields say all
        pub is-typed : (v : C) → ((x y : C) → view x ≡ view y → x ≡ y)
            → F.spells (view v) o.content.content × ((w : V) → F.spells w o.content.content → w ≡ view v)
            → Accepts Typed.spells s (typed_of o v) r
        is-typed v one h =
            one-stands Stands Object ObjectFault Wrong (typed_of o v) a
            (record { same = refl; type = type; content = h.0 })
            (λ w k.
            ap (λ (y : ObjectParts). typed_of y w.content) (ap object_from k.same)
            ∙ ap (λ (y : C). typed_of o y) (one w.content v (h.1 (view w.content) k.content)))
