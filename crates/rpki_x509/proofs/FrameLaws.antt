-- Readers that take no memory; the value that is all of the octets; sections.
use Rattle.std.proofs.Common.{◌≡◌, ◌∙◌, ℕ, true, List, [], ◌++◌, length, refl, sym, ap, subst}
use Rattle.rpki_der.specs.declared.error.DecodeError.{DecodeError}
use Rattle.rpki_der.specs.declared.error.DecodeError.TheVariants.{Trailing, OutOfMemory}
use Rattle.rpki_der.specs.declared.section.Section.{Section}
use Rattle.rpki_der.specs.TagName.{TagName}
use Rattle.rpki_der.specs.Reading.{Accepts, Refuses, Refusal, SpellsNothing}
use Rattle.rpki_der.specs.Section.{IsSection}
use Rattle.rpki_der.specs.Values.{SpellsContents, IsContentsFault}
use Rattle.rpki_der.proofs.InsideLaws.{unless-memory}
use Rattle.rpki_der.proofs.LeavesLaws.{contents-no-memory}
use Rattle.rpki_der.proofs.ComposedLaws.{all-read, nothing-after, nothing-whole, not-read, more-left}
use Rattle.rpki.specs.Oids.{sha256_with_rsa_encryption}
use Rattle.rpki.specs.AlgorithmFault.{algorithm}
use Rattle.rpki.proofs.AlgorithmFaultLaws.{algorithm-outer}
use Rattle.rpki.specs.ExtensionValue.{SpellsExtension}
use Rattle.rpki.specs.ExtensionFault.{extension}
use Rattle.rpki.proofs.ExtensionFaultLaws.{extension-outer}
use Rattle.rpki_x509.specs.Frame.{IsFrameFault}
use Rattle.rpki_x509.specs.Signed.{SpellsRpkiAlgorithm}
use Rattle.rpki_x509.proofs.NestedLaws.{StandsBefore, front-section}

-- an error of a reader that takes no memory
pub refused : {V : Type 0} (G : V → List ℕ → Type 0) (K : List ℕ → DecodeError → Type 0) (s r : List ℕ)
    (e : DecodeError) → (K s OutOfMemory → ⊥) → Refusal G K s r e → Refuses G s
refused G K s r e never h = unless-memory e (λ z. never (subst (K s) z h.kind)) h.refuses

pub extension-refused : (s r : List ℕ) (e : DecodeError) → Refusal SpellsExtension extension.fault s r e
    → Refuses SpellsExtension s
extension-refused s r e h = refused SpellsExtension extension.fault s r e
    (λ k. (extension-outer s OutOfMemory k).other refl) h

pub algorithm-refused : (s r : List ℕ) (e : DecodeError)
    → Refusal SpellsRpkiAlgorithm (algorithm sha256_with_rsa_encryption).fault s r e → Refuses SpellsRpkiAlgorithm s
algorithm-refused s r e h = refused SpellsRpkiAlgorithm (algorithm sha256_with_rsa_encryption).fault s r e
    (λ k. (algorithm-outer sha256_with_rsa_encryption s OutOfMemory k).other refl) h

-- ---- the value that is all

pub only-all : (t : TagName) (s c r : List ℕ) → Accepts (SpellsContents t true) s c r → r ≡ []
    → SpellsContents t true c s × ((w : List ℕ) → SpellsContents t true w s → w ≡ c)
only-all t s c r a end = all-read (SpellsContents t true) s c r a end

pub only-more : (t : TagName) (s c r : List ℕ) → Accepts (SpellsContents t true) s c r → (r ≡ [] → ⊥)
    → SpellsNothing (SpellsContents t true) s
only-more t s c r a some = nothing-after (SpellsContents t true) s r c a some

pub only-none : (t : TagName) (s r : List ℕ) (e : DecodeError)
    → Refusal (SpellsContents t true) (IsContentsFault t true) s r e → SpellsNothing (SpellsContents t true) s
only-none t s r e h = nothing-whole (SpellsContents t true) s
    (unless-memory e (λ z. contents-no-memory t true s e h.kind z) h.refuses)

-- the errors
pub frame-none : (t : TagName) (s r : List ℕ) (e : DecodeError)
    → Refusal (SpellsContents t true) (IsContentsFault t true) s r e → IsFrameFault t s e
frame-none t s r e h = (not-read (SpellsContents t true) (IsContentsFault t true) s r e h).1

pub frame-more : (t : TagName) (s c r : List ℕ) → Accepts (SpellsContents t true) s c r → (r ≡ [] → ⊥)
    → (e : DecodeError) → e ≡ Trailing → IsFrameFault t s e
frame-more t s c r a some e is = subst (IsFrameFault t s) (sym is)
    (more-left (SpellsContents t true) (IsContentsFault t true) s c r a some).1

-- ---- sections

pub section-front : (s f r o p behind : List ℕ) (q : Section) → s ≡ f ++ r → o ≡ s → p ≡ r → StandsBefore o p q
    → r ≡ behind → IsSection q f behind
section-front s f r o p behind q e a b is last =
    let h = front-section s f r o p q e a b is in
    record { octets = h.octets; following = h.following ∙ ap length (b ∙ last) }
