-- A manifest, over its fields.
use Rattle.std.proofs.Common.{◌≡◌, ◌∙◌, List, ℕ, inl, inr, refl, sym, ap, subst}
use Rattle.rpki_der.specs.declared.error.DecodeError.{DecodeError}
use Rattle.rpki_der.specs.Reading.{Accepts, Refusal, UnlessMemory}
use Rattle.rpki_der.specs.FirstFault.FirstFault.{AtPart, Later}
use Rattle.rpki_der.proofs.ChoiceLaws.{such-read, such-refused}
use Rattle.rpki_der.proofs.ReadingLaws.{UnlessMemory-from, UnlessMemory-weaker}
use Rattle.rpki_contents.specs.ListedFile.{AreDistinct}
use Rattle.rpki_contents.specs.Manifest.{ManifestParts, parts_of, Fields, FieldsInOrder, files_of}
use Rattle.rpki_contents.specs.Manifest.{IsManifest, IsNoManifest, manifest_fields, manifest}

-- ---- fields say one manifest

abbrev parts_back : Fields → ManifestParts
parts_back x = parts_of x.0 x.1.0 x.1.1.0 x.1.1.1.1

one-manifest : (v w : ManifestParts) (x : Fields) → IsManifest v x → IsManifest w x → w ≡ v
one-manifest v w x h k = ap parts_back (k.fields ∙ sym h.fields)

unordered : (x : Fields) → (FieldsInOrder x → ⊥) → (v : ManifestParts) → IsManifest v x → ⊥
unordered x not v h = not (subst FieldsInOrder h.fields h.order)

repeated : (x : Fields) → (AreDistinct (files_of x) → ⊥) → (v : ManifestParts) → IsManifest v x → ⊥
repeated x not v h = not (subst (λ (y : Fields). AreDistinct (files_of y)) h.fields h.distinct)

is-none : (x : Fields) (e : DecodeError) → IsNoManifest x e → UnlessMemory e ((v : ManifestParts) → IsManifest v x → ⊥)
is-none x e (inl h) = UnlessMemory-from e (unordered x h.0)
is-none x e (inr (order, inl h)) = UnlessMemory-from e (repeated x h.0)
is-none x e (inr (order, inr h)) =
    subst (λ (d : DecodeError). UnlessMemory d ((v : ManifestParts) → IsManifest v x → ⊥)) (sym h.1) tt

-- ---- a reader of a manifest

module _ {s r : List ℕ} where
  -- the fields aren't there
  pub not-read : {e : DecodeError} → Refusal manifest_fields.spells manifest_fields.fault s r e
      → Refusal manifest.spells manifest.fault s s e
  not-read {e} h = record {
    unchanged = refl;
    refuses = (such-refused IsManifest manifest_fields h).refuses;
    kind = AtPart h.refuses h.kind;
  }

  module _ {x : Fields} (a : Accepts manifest_fields.spells s x r) where
    -- they say no manifest
    pub not-manifest : {e : DecodeError} → IsNoManifest x e → Refusal manifest.spells manifest.fault s s e
    not-manifest {e} h = record {
      unchanged = refl;
      refuses = UnlessMemory-weaker e
          (λ none v p k.
          let y = k.spelled.value in
          let is = a.only y p (record { front = k.front; parts = k.parts; spelled = k.spelled.spelled }) in
          none v (subst (λ (z : Fields). IsManifest v z) is.0 k.spelled.stands))
          (is-none x e h);
      kind = Later x r a h;
    }

    -- they say this manifest
    pub is-manifest : {v : ManifestParts} → IsManifest v x → Accepts manifest.spells s v r
    is-manifest {v} h = such-read IsManifest manifest_fields v a h (λ w k. one-manifest v w x h k)
