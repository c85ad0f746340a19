use Rattle.std.proofs.Common.{Bool, List, ℕ, inl, inr, refl, ◌∙◌, ap}
use Rattle.std.specs.Prelude.{◌↔◌, ◌≡◌, IsTrue}
use Rattle.std.proofs.lemmas.Bool.{iff_false}
use Rattle.sha2.specs.Sha256.{sha256}
use Rattle.rpki_objects.specs.declared.signed_object_view.SignedObjectView.{SignedObjectView}
use Rattle.rpki_attributes.specs.SignedAttributes.{AttributeValues}
use Rattle.rpki_objects.specs.SignedObject.{ObjectParts}
use Rattle.rpki_objects.specs.SignedObjectView.{IsObjectAt}
use Rattle.rpki_c.specs.SignedObject.{HasSignedType, HasSignedDigest}
use Rattle.rpki_c.proofs.ObjectLaws.{same-told}
use Rattle.rpki_c.proofs.object_verified.test_content.Goals as goal

module _ (strict : Bool) (s : List ℕ) (x : ObjectParts) (v : SignedObjectView) (at : IsObjectAt strict s v x) (b : Bool)
  where
    type-told : IsTrue b ↔ (v.content.content_type.octets.now ≡ v.signer.signed_attrs.values.content_type.0.now)
        → IsTrue b ↔ HasSignedType x
    type-told =
        same-told b _ _ x.content.content_type _ at.parts.content.content_type.octets
        (ap (λ (w : AttributeValues). w.content_type) at.parts.signer.attributes.values)

    digest-told : (d : List ℕ) → d ≡ v.signer.signed_attrs.values.message_digest
        → IsTrue b ↔ (d ≡ sha256 v.content.content.octets.now) → IsTrue b ↔ HasSignedDigest x
    digest-told d is =
        same-told b d _ _ (sha256 x.content.content)
        (is ∙ ap (λ (w : AttributeValues). w.message_digest) at.parts.signer.attributes.values)
        (ap sha256 at.parts.content.content.octets)

pub returns-then-not-are_same : goal.returns-then-not-are_same
returns-then-not-are_same c = λ strict s x at.
    inl (
      refl,
      iff_false (type-told strict s x c.args.found.now at c.are_same.result c.are_same.ensures) c.if-not-are_same.true,
    )

pub returns-then-not-has_digest : goal.returns-then-not-has_digest
returns-then-not-has_digest c = λ strict s x at.
    let v = c.args.found.now in
    let type = type-told strict s x v at c.are_same.result c.are_same.ensures in
    let digest = digest-told strict s x v at c.has_digest.result _ c.into_array.ensures c.has_digest.ensures in
    inr (refl, type.0 c.if-not-are_same.false, iff_false digest c.if-not-has_digest.true)

pub returns : goal.returns
returns c = λ strict s x at.
    let v = c.args.found.now in
    let type = type-told strict s x v at c.are_same.result c.are_same.ensures in
    let digest = digest-told strict s x v at c.has_digest.result _ c.into_array.ensures c.has_digest.ensures in
    (type.0 c.if-not-are_same.false, digest.0 c.if-not-has_digest.false)
