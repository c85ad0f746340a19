-- Why octets begin with no content of a signed object, and are no part of one.
use Rattle.std.proofs.Common.{◌≡◌, ◌≢◌, ℕ, true, false, List, [], refl, subst}
use Rattle.rpki_der.specs.declared.error.DecodeError.{DecodeError}
use Rattle.rpki_der.specs.declared.error.DecodeError.TheVariants.{Trailing, OutOfMemory}
use Rattle.rpki_der.specs.TagName.{TagName, oid, octet_string, sequence}
use Rattle.rpki_der.specs.Leaves.{IsOidOf}
use Rattle.rpki_der.specs.Reading.{Accepts, Refuses, Refusal, SpellsNothing, TakesNoMemory, Finds}
use Rattle.rpki_der.specs.Values.{SpellsContents, SpellsLeaf, IsContentsFault}
use Rattle.rpki_der.specs.FirstFault.FirstFault.{AtPart, Later}
use Rattle.rpki_der.specs.Format.{Format, only}
use Rattle.rpki_der.specs.LeafFormats.{any_oid}
use Rattle.rpki_der.proofs.ComposedLaws.{all-read, nothing-after, nothing-whole}
use Rattle.rpki_der.proofs.FirstFaultLaws.{memory-where}
use Rattle.rpki_der.proofs.LeavesLaws.{leaf-no-memory, contents-no-memory}
use Rattle.rpki_der.proofs.ReadingLaws.{UnlessMemory-from}
use Rattle.rpki_x509.proofs.InPlaceLaws.{contents-refused, outside, not-inside, not-first, not-then, primitive-none}
use Rattle.rpki_objects.specs.SignedObject.{zero_tag, kept_octets, explicit_content, content_fields, encapsulated}
use Rattle.rpki_objects.specs.SignedObjectView.{TakesContent}
use Rattle.rpki_objects.proofs.ObjectWrongLaws.{oid-refused}

-- ---- all of s

-- s spells nothing of F, and e says why
abbrev pub IsNoneOf : {V : Type 0} → Format V → List ℕ → DecodeError → Type 0
IsNoneOf F s e = SpellsNothing F.spells s × TakesNoMemory (only F).fault s e

module _ {V : Type 0} (F : Format V) (s r : List ℕ) where
  pub none-at : (e : DecodeError) → e ≢ OutOfMemory → Refuses F.spells s → F.fault s e → IsNoneOf F s e
  none-at e other none k = (
    nothing-whole F.spells s none,
    record { other = other; kind = AtPart (UnlessMemory-from e none) k },
  )

  pub none-after : (v : V) → Accepts F.spells s v r → (r ≡ [] → ⊥) → IsNoneOf F s Trailing
  none-after v a some = (
    nothing-after F.spells s r v a some,
    record { other = λ z. absurd (cc); kind = Later v r a (some, refl) },
  )

-- a value around contents of C, of which there is one
module _ {V : Type 0} (t : TagName) (C : V → List ℕ → Type 0) (s c r : List ℕ)
    (a : Accepts (SpellsContents t true) s c r) where
  pub around-read : (v : V) → C v c → ((w : V) → C w c → w ≡ v) → Accepts (SpellsLeaf t true C) s v r
  around-read v h one = record {
    spells = record {
      front = a.spells.front;
      parts = a.spells.parts;
      spelled = record { contents = c; value = a.spells.spelled; spelled = h };
    };
    only = λ w q k.
        let e = a.only k.spelled.contents q (record { front = k.front; parts = k.parts; spelled = k.spelled.value })
        in (one w (subst (C w) e.0 k.spelled.spelled), e.1);
  }

-- ---- the OCTET STRING of a content, and of a signature

pub octets-none : (s r : List ℕ) (e : DecodeError)
    → Refusal (SpellsContents octet_string false) (IsContentsFault octet_string false) s r e → IsNoneOf kept_octets s e
octets-none s r e h =
    let other : e ≢ OutOfMemory = λ z. contents-no-memory octet_string false s e h.kind z in (
      primitive-none octet_string s r e h,
      record {
        other = other;
        kind =
            AtPart h.refuses
            (memory-where (Finds (SpellsContents octet_string false)) (IsContentsFault octet_string false) s e
            (λ z. absurd (other z)) h.kind);
      },
    )

-- ---- under the explicit tag

module _ (s r : List ℕ) where
  pub tag-none : (e : DecodeError)
      → Refusal (SpellsContents zero_tag true) (IsContentsFault zero_tag true) s r e → IsNoneOf explicit_content s e
  tag-none e h =
      none-at explicit_content s r e (λ z. contents-no-memory zero_tag true s e h.kind z)
      (outside zero_tag kept_octets.spells s (contents-refused zero_tag s r e h)) (AtPart h.refuses h.kind)

  module _ (c : List ℕ) (a : Accepts (SpellsContents zero_tag true) s c r) where
    pub inner-none : (e : DecodeError) → IsNoneOf kept_octets c e → IsNoneOf explicit_content s e
    inner-none e h =
        none-at explicit_content s r e h.1.other (not-inside zero_tag kept_octets.spells s c r a h.0)
        (Later c r a h.1.kind)

    abbrev One : List ℕ → Type 0
    One v = kept_octets.spells v c × ((w : List ℕ) → kept_octets.spells w c → w ≡ v)

    explicit-read : (v : List ℕ) → One v → Accepts explicit_content.spells s v r
    explicit-read v h = around-read zero_tag kept_octets.spells s c r a v h.0 h.1

    pub explicit-all : (v : List ℕ) → One v → r ≡ []
        → explicit_content.spells v s × ((w : List ℕ) → explicit_content.spells w s → w ≡ v)
    explicit-all v h end = all-read explicit_content.spells s v r (explicit-read v h) end

    pub explicit-more : (v : List ℕ) → One v → (r ≡ [] → ⊥) → IsNoneOf explicit_content s Trailing
    explicit-more v h some = none-after explicit_content s r v (explicit-read v h) some

-- ---- a content with its type

-- no content begins s, and e says why
abbrev pub NoContent : List ℕ → DecodeError → Type 0
NoContent s e = Refuses encapsulated.spells s × TakesNoMemory encapsulated.fault s e

pub content-outside : (s r : List ℕ) (e : DecodeError)
    → Refusal (SpellsContents sequence true) (IsContentsFault sequence true) s r e → NoContent s e
content-outside s r e h = (
  outside sequence content_fields.spells s (contents-refused sequence s r e h),
  record { other = λ z. contents-no-memory sequence true s e h.kind z; kind = AtPart h.refuses h.kind },
)

module _ (s c r : List ℕ) (a : Accepts (SpellsContents sequence true) s c r) where
  pub content-untyped : (m : List ℕ) (e : DecodeError) → Refusal any_oid.spells any_oid.fault c m e → NoContent s e
  content-untyped m e h =
      let other : e ≢ OutOfMemory = λ z. leaf-no-memory oid false IsOidOf c e h.kind z in (
        not-inside sequence content_fields.spells s c r a
            (not-first any_oid.spells explicit_content.spells c (oid-refused c m e h)),
        record {
          other = other;
          kind =
              Later c r a (AtPart h.refuses
              (memory-where (Finds any_oid.spells) any_oid.fault c e (λ z. absurd (other z)) h.kind));
        },
      )

  pub content-none : (t m : List ℕ) (e : DecodeError) → Accepts any_oid.spells c t m → IsNoneOf explicit_content m e
      → NoContent s e
  content-none t m e b h = (
    not-inside sequence content_fields.spells s c r a (not-then any_oid.spells explicit_content.spells c m t b h.0),
    record { other = h.1.other; kind = Later c r a (Later t m b h.1.kind) },
  )
