-- Signed objects of one type: the content has that type, and is such a content (RFC 6488 2.1.3, 3).
use Rattle.std.specs.Prelude.{◌≡◌, ◌≢◌, ◌⊎◌, ℕ, Bool, List, [], ◌∷◌, codes}
use Rattle.rpki_der.specs.declared.error.DecodeError.{DecodeError}
use Rattle.rpki_der.specs.Prelude.{Format, SpellsFor, FirstFault, IsWholeFault}
use Rattle.rpki.specs.UnknownAlgorithm.{IsContentWith}
use Rattle.rpki_contents.specs.Aspa.{AspaParts, aspa}
use Rattle.rpki_contents.specs.Manifest.{ManifestParts, manifest}
use Rattle.rpki_contents.specs.Roa.{AttestationParts, fields_of, roa}
use Rattle.rpki_objects.specs.declared.strictness.Strictness.{Strictness}
use Rattle.rpki_objects.specs.SignedObject.{ObjectParts, ObjectFields, object_fields_of, signed_object}

-- an object, and what its content says
pub record TypedParts (C : Type 0) : Type 0 where
  pub object : ObjectParts
  pub content : C

abbrev pub typed_of : {C : Type 0} → ObjectParts → C → TypedParts C
typed_of object content = record { object = object; content = content }

-- the type of the content, and the content, of the fields of an object
abbrev pub type_in : ObjectFields → List ℕ
type_in x = x.1.1.1.0.0

abbrev pub content_in : ObjectFields → List ℕ
content_in x = x.1.1.1.0.1

-- the fields are those of the object; their type is the one that is wanted, and G spells the content
pub record IsTyped {C : Type 0} (wanted : List ℕ) (G : C → List ℕ → Type 0) (x : TypedParts C) (read : ObjectFields) :
    Type 0 where
  pub same : object_fields_of x.object ≡ read
  pub type : type_in read ≡ wanted
  pub content : G x.content (content_in read)

-- the type is another; or the content is none of F
abbrev pub IsUntyped : {V : Type 0} → List ℕ → Format V → ObjectFields → DecodeError → Type 0
IsUntyped wanted F read e =
    ((type_in read ≢ wanted) × IsContentWith (codes "another content type") e)
    ⊎ ((type_in read ≡ wanted) × IsWholeFault F.spells F.fault (content_in read) e)

-- a signed object of this type, whose content is one of F, which says the fields of what is read
abbrev pub typed_object : {C V : Type 0} → List ℕ → (C → V) → Format V → Bool → Format (TypedParts C)
typed_object wanted view F strict = record {
  spells = SpellsFor (signed_object strict).spells (IsTyped wanted (λ v. F.spells (view v)));
  fault = FirstFault (signed_object strict).spells (signed_object strict).fault (λ x rest. IsUntyped wanted F x);
}

-- ---- the types

-- a manifest (RFC 9286 4.1): 1.2.840.113549.1.9.16.1.26
abbrev pub manifest_type : List ℕ
manifest_type = 42 ∷ 134 ∷ 72 ∷ 134 ∷ 247 ∷ 13 ∷ 1 ∷ 9 ∷ 16 ∷ 1 ∷ 26 ∷ []

abbrev pub manifest_object : Bool → Format (TypedParts ManifestParts)
manifest_object = typed_object manifest_type (λ x. x) manifest

-- a route origin attestation (RFC 9582 3): 1.2.840.113549.1.9.16.1.24
abbrev pub origin_type : List ℕ
origin_type = 42 ∷ 134 ∷ 72 ∷ 134 ∷ 247 ∷ 13 ∷ 1 ∷ 9 ∷ 16 ∷ 1 ∷ 24 ∷ []

abbrev pub origin_object : Strictness → Format (TypedParts AttestationParts)
origin_object strictness = typed_object origin_type fields_of (roa strictness.families) strictness.attributes

-- an attestation of providers (draft-ietf-sidrops-aspa-profile 2): 1.2.840.113549.1.9.16.1.49
abbrev pub aspa_type : List ℕ
aspa_type = 42 ∷ 134 ∷ 72 ∷ 134 ∷ 247 ∷ 13 ∷ 1 ∷ 9 ∷ 16 ∷ 1 ∷ 49 ∷ []

abbrev pub aspa_object : Bool → Format (TypedParts AspaParts)
aspa_object = typed_object aspa_type (λ x. x) aspa
