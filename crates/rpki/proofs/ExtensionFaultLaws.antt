-- The errors of extensions, from what the readers of their parts return.
use Rattle.std.proofs.Common.{◌≡◌, ◌⊎◌, ℕ, true, false, Option, Some, None, Ok, List, inl, inr, refl, subst}
use Rattle.rpki_der.specs.declared.error.DecodeError.{DecodeError}
use Rattle.rpki_der.specs.declared.error.DecodeError.TheVariants.{Trailing, OutOfMemory}
use Rattle.rpki_der.specs.Prelude.{oid, boolean, octet_string, sequence, Accepts, Refusal, ReadsWhere}
use Rattle.rpki_der.specs.Prelude.{SpellsNothing}
use Rattle.rpki_der.specs.Prelude.{UnlessMemory, Finds, SpellsContents, SpellsLeaf, HasTag}
use Rattle.rpki_der.specs.Prelude.{IsContentsFault, IsLeafFault, IsOuterFault, IsOidOf, IsBoolean}
use Rattle.rpki_der.specs.Prelude.{OptionalFault, IsEndFault, AtPart, Later, SpellsValue}
use Rattle.rpki_der.proofs.ReadingLaws.{Refusal-or-memory-where, only-memory}
use Rattle.rpki_der.proofs.LeavesLaws.{leaf-no-memory, contents-no-memory}
use Rattle.rpki_der.proofs.ComposedLaws.{outer-refused, inner-refused}
use Rattle.rpki_der.proofs.FirstFaultLaws.{first-no-memory, optional-no-memory, end-no-memory}
use Rattle.rpki_der.proofs.FirstFaultLaws.{inside-outer-exactly}
use Rattle.rpki.specs.ExtensionValue.{ExtensionParts, IsExtensionContents, SpellsExtension}
use Rattle.rpki.specs.ExtensionFault.{content, extension_fields, extension, kept_extension, HasExtensionParts}
use Rattle.rpki.specs.ExtensionFault.{captured_extension}
use Rattle.rpki.proofs.ExtensionLaws.{value-there}

-- what follows an optional part has the error
pub behind-optional : {X V : Type 0} (B : List ℕ → Type 0) (view : X → V) (G : V → List ℕ → Type 0)
    (K L : List ℕ → DecodeError → Type 0) (s r : List ℕ) (p : Option X) (e : DecodeError)
    → ReadsWhere B view G K s r (Ok p) → L r e → OptionalFault B G K L s e
behind-optional B view G K L s r None e h l = inl (h.0, subst (λ (x : List ℕ). L x e) h.1 l)
behind-optional B view G K L s r (Some x) e h l = inr (h.0, Later (view x) r h.1 l)

-- nothing is allocated
content-never : (s : List ℕ) → content.fault s OutOfMemory → ⊥
content-never s =
    first-no-memory (SpellsContents octet_string false) (IsContentsFault octet_string false) (λ o. IsEndFault) s
    (λ h. contents-no-memory octet_string false s OutOfMemory h refl) (λ o r. end-no-memory r)

parts-never : (c : List ℕ) → extension_fields.fault c OutOfMemory → ⊥
parts-never c =
    let F = OptionalFault (HasTag boolean) (SpellsLeaf boolean false IsBoolean) (IsLeafFault boolean false IsBoolean)
    content.fault in
    first-no-memory (SpellsLeaf oid false IsOidOf) (IsLeafFault oid false IsOidOf) (λ i. F) c
    (λ h. leaf-no-memory oid false IsOidOf c OutOfMemory h refl)
    (λ i r. optional-no-memory (HasTag boolean) (SpellsLeaf boolean false IsBoolean)
    (IsLeafFault boolean false IsBoolean) content.fault r
    (λ h. leaf-no-memory boolean false IsBoolean r OutOfMemory h refl) content-never)

pub extension-outer : (s : List ℕ) (e : DecodeError) → extension.fault s e → IsOuterFault sequence true s e
extension-outer s e = inside-outer-exactly sequence true extension_fields.fault s e parts-never

-- the SEQUENCE isn't there
pub no-sequence : (s q : List ℕ) (e : DecodeError)
    → Refusal (SpellsContents sequence true) (IsContentsFault sequence true) s q e
    → Refusal SpellsExtension extension.fault s s e
no-sequence s q e h = record {
  unchanged = refl;
  refuses =
      (outer-refused sequence true IsExtensionContents s q s e refl h).refuses;
  kind = AtPart h.refuses h.kind;
}

-- its contents spell nothing
pub no-parts : (s c q : List ℕ) (e : DecodeError) → Accepts (SpellsContents sequence true) s c q
    → UnlessMemory e (SpellsNothing IsExtensionContents c) × extension_fields.fault c e
    → Refusal SpellsExtension extension.fault s s e
no-parts s c q e a h = record {
  unchanged = refl;
  refuses =
      (inner-refused sequence true IsExtensionContents s c q s e refl a h.0).refuses;
  kind = Later c q a h.1;
}

-- it isn't there, for a reader that keeps it
pub extension-refused : (s r : List ℕ) (e : DecodeError) → Refusal SpellsExtension extension.fault s r e
    → Refusal SpellsExtension kept_extension.fault s s e
extension-refused s r e h =
    Refusal-or-memory-where (Finds SpellsExtension) extension.fault s s e
    (λ k. absurd ((extension-outer s OutOfMemory k).other refl))
    (record { unchanged = refl; refuses = h.refuses; kind = h.kind })

-- the same of a reader that captures it, and captures it where octets follow its parts
pub uncaptured : (s r : List ℕ) (e : DecodeError) → Refusal SpellsExtension extension.fault s r e
    → Refusal SpellsExtension captured_extension.fault s s e
uncaptured s r e h =
    Refusal-or-memory-where HasExtensionParts extension.fault s s e
    (λ k. absurd ((extension-outer s OutOfMemory k).other refl))
    (record { unchanged = refl; refuses = h.refuses; kind = h.kind })

pub behind-parts : (s r : List ℕ) (e : DecodeError) → Refusal SpellsExtension extension.fault s r Trailing
    → (e ≡ OutOfMemory) ⊎ (e ≡ Trailing) → Refusal SpellsExtension captured_extension.fault s s e
behind-parts s r e h (inl z) = rw z (record { unchanged = refl; refuses = tt; kind = inr h.kind })
behind-parts s r e h (inr z) = rw z (record { unchanged = refl; refuses = h.refuses; kind = h.kind })

-- it is there, and isn't captured
pub unkept : {s q r : List ℕ} {x : ExtensionParts} (K : List ℕ → DecodeError → Type 0) (e : DecodeError)
    → Accepts SpellsExtension s x q → Refusal SpellsValue K s r e
    → Refusal SpellsExtension captured_extension.fault s r e
unkept {s} {q} {r} {x} K e a h =
    rw (only-memory e h.refuses (value-there a))
    (record { unchanged = h.unchanged; refuses = tt; kind = inl (x, q, a.spells) })
