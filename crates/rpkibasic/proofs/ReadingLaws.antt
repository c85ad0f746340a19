-- Extensions, in sequence, as they are read and written.
use Rattle.std.proofs.Common.{◌≡◌, ◌≢◌, ℕ, true, List, [], ◌∷◌, ◌++◌, refl, sym, ap, subst, ◌∙◌, append_assoc}
use Rattle.std.proofs.lemmas.List.{append-nil}
use Rattle.rpki_der.specs.declared.error.DecodeError.{DecodeError}
use Rattle.rpki_der.specs.declared.error.DecodeError.TheVariants.{Truncated, BadTag, BadLength, Unexpected, Content}
use Rattle.rpki_der.specs.declared.error.DecodeError.TheVariants.{Trailing, OutOfMemory}
use Rattle.rpki_der.specs.TagName.{sequence}
use Rattle.rpki_der.specs.Reading.{Spells, Accepts, Refuses, Refusal}
use Rattle.rpki.specs.ExtensionValue.{ExtensionParts, IsExtensionContents, SpellsExtension}
use Rattle.rpki_der.proofs.LeafValueLaws.{leaf-nowhere}
use Rattle.rpki.specs.ExtensionFault.{extension, captured_extension}
use Rattle.rpkibasic.specs.Fault.{refusal}
use Rattle.rpkibasic.specs.Run.{SpellsOnly, SpellsExtensions, StopsAt, IsExtensionFault, UnlessMemory}

-- these extensions were read, and the rest is extensions exactly where the whole is, after these
pub record HaveRead (input : List ℕ) (xs : List ExtensionParts) (rest : List ℕ) : Type 0 where
  pub front : List ℕ
  pub parts : input ≡ front ++ rest
  pub read : SpellsExtensions xs front
  pub others : (ys : List ExtensionParts) → SpellsExtensions ys input
      → (zs : List ExtensionParts) × (ys ≡ xs ++ zs) × SpellsExtensions zs rest

pub none-read : (input : List ℕ) → HaveRead input [] input
none-read input = record { front = []; parts = refl; read = refl; others = λ ys h. (ys, refl, h) }

nowhere : (s : List ℕ) (x : ExtensionParts) (r : List ℕ) → s ≡ [] → Spells SpellsExtension s x r → ⊥
nowhere s x r e h = leaf-nowhere sequence true IsExtensionContents s x r e h

-- one more
more-read : (xs : List ExtensionParts) (p front : List ℕ) (x : ExtensionParts) → SpellsExtensions xs p
    → SpellsExtension x front → SpellsExtensions (xs ++ (x ∷ [])) (p ++ front)
more-read [] p front x h k = (
  [],
  record { front = front; parts = ap (λ (q : List ℕ). q ++ front) h ∙ sym (append-nil front); spelled = k },
  refl,
)
more-read (y ∷ ys) p front x h k = (
  h.0 ++ front,
  record {
    front = h.1.front;
    parts =
        ap (λ (q : List ℕ). q ++ front) h.1.parts ∙ append_assoc h.1.front h.0 front;
    spelled = h.1.spelled;
  },
  more-read ys h.0 front x h.2 k,
)

pub one-more : (input rest left : List ℕ) (xs : List ExtensionParts) (x : ExtensionParts) → (rest ≡ [] → ⊥)
    → HaveRead input xs rest → Accepts SpellsExtension rest x left → HaveRead input (xs ++ (x ∷ [])) left
one-more input rest left xs x some h a = record {
  front = h.front ++ a.spells.front;
  parts = h.parts ∙ ap (λ (q : List ℕ). h.front ++ q) a.spells.parts ∙ sym (append_assoc h.front a.spells.front left);
  read = more-read xs h.front a.spells.front x h.read a.spells.spelled;
  others = λ ys k. let o = h.others ys k in go ys o.0 o.1 o.2;
}
  where
    go : (ys zs : List ExtensionParts) → ys ≡ xs ++ zs → SpellsExtensions zs rest
        → (ws : List ExtensionParts) × (ys ≡ (xs ++ (x ∷ [])) ++ ws) × SpellsExtensions ws left
    go ys [] e k = absurd (some k)
    go ys (z ∷ zs) e k =
        let one = a.only z k.0 k.1 in (
          zs,
          e ∙ ap (λ (w : ExtensionParts). xs ++ (w ∷ zs)) one.0 ∙ sym (append_assoc xs (x ∷ []) zs),
          subst (SpellsExtensions zs) one.1 k.2,
        )

-- nothing remains
pub all-extensions : (input rest : List ℕ) (xs : List ExtensionParts) → rest ≡ [] → HaveRead input xs rest
    → SpellsOnly SpellsExtensions xs input
all-extensions input rest xs end h =
    let whole : input ≡ h.front = h.parts ∙ ap (λ (q : List ℕ). h.front ++ q) end ∙ append-nil h.front in
    (subst (SpellsExtensions xs) (sym whole) h.read, λ ys k. let o = h.others ys k in go ys o.0 o.1 o.2)
  where
    go : (ys zs : List ExtensionParts) → ys ≡ xs ++ zs → SpellsExtensions zs rest → ys ≡ xs
    go ys [] e k = e ∙ append-nil xs
    go ys (z ∷ zs) e k = absurd (nowhere rest z k.0 end k.1)

-- no extension begins the rest
nothing-left : (rest : List ℕ) → (rest ≡ [] → ⊥) → Refuses SpellsExtension rest → (zs : List ExtensionParts)
    → SpellsExtensions zs rest → ⊥
nothing-left rest some none [] k = some k
nothing-left rest some none (z ∷ zs) k = none z k.0 k.1

stops : (input rest : List ℕ) (xs : List ExtensionParts) (e : DecodeError) → (rest ≡ [] → ⊥) → HaveRead input xs rest
    → e ≢ OutOfMemory → Refuses SpellsExtension rest → extension.fault rest e → StopsAt input e
stops input rest xs e some h other none kind = record {
  front = h.front;
  rest = rest;
  before = xs;
  parts = h.parts;
  read = h.read;
  refused = none;
  kind = (other, kind);
  none = λ ys k. let o = h.others ys k in nothing-left rest some none o.0 o.2;
}

pub extension-fault : (input rest left : List ℕ) (xs : List ExtensionParts) (e : DecodeError) → (rest ≡ [] → ⊥)
    → HaveRead input xs rest
    → Refusal SpellsExtension captured_extension.fault rest left e
    → UnlessMemory (refusal e) (IsExtensionFault input (refusal e))
extension-fault input rest left xs Truncated some h k =
    stops input rest xs Truncated some h (λ (z : Truncated ≡ OutOfMemory). cc) k.refuses k.kind
extension-fault input rest left xs BadTag some h k =
    stops input rest xs BadTag some h (λ (z : BadTag ≡ OutOfMemory). cc) k.refuses k.kind
extension-fault input rest left xs BadLength some h k =
    stops input rest xs BadLength some h (λ (z : BadLength ≡ OutOfMemory). cc) k.refuses k.kind
extension-fault input rest left xs Unexpected some h k =
    stops input rest xs Unexpected some h (λ (z : Unexpected ≡ OutOfMemory). cc) k.refuses k.kind
extension-fault input rest left xs (Content x) some h k =
    stops input rest xs (Content x) some h (λ (z : Content x ≡ OutOfMemory). cc) k.refuses k.kind
extension-fault input rest left xs Trailing some h k =
    stops input rest xs Trailing some h (λ (z : Trailing ≡ OutOfMemory). cc) k.refuses k.kind
extension-fault input rest left xs OutOfMemory some h k = tt
