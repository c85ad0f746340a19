-- The parts of signed data that are read in place: the signature, all of them, and the error.
use Rattle.std.proofs.Common.{◌≡◌, ◌∙◌, ℕ, Bool, false, List, [], ◌++◌, length, refl, sym, ap, subst, append_assoc}
use Rattle.std.proofs.Common.{inl, inr}
use Rattle.std.specs.Prelude.{codes}
use Rattle.rpki_der.specs.declared.error.DecodeError.{DecodeError}
use Rattle.rpki_der.specs.declared.error.DecodeError.TheVariants.{Trailing}
use Rattle.rpki_der.specs.FirstFault.FirstFault.{AtPart, Later}
use Rattle.rpki_der.specs.TagName.{bit_string}
use Rattle.rpki_der.specs.Reading.{Accepts, Refusal, SpellsNothing}
use Rattle.rpki_der.specs.Values.{SpellsLeaf, IsLeafFault}
use Rattle.rpki_der.specs.Leaves.{Bits, IsBits, bits_of}
use Rattle.rpki_der.specs.Members.{SpellsValue}
use Rattle.rpki_der.proofs.InsideLaws.{unless-memory}
use Rattle.rpki_der.proofs.LeavesLaws.{leaf-no-memory}
use Rattle.rpki_der.proofs.ComposedLaws.{all-read, nothing-after, nothing-whole, spelled-whole}
use Rattle.rpki.specs.SignedData.{SignedParts, parts_of, IsSignedContents}
use Rattle.rpki.specs.UnknownAlgorithm.{IsContentWith}
use Rattle.rpki_x509.specs.declared.signed_parts.Parts.{Parts}
use Rattle.rpki_x509.specs.Signed.{SpellsRpkiAlgorithm, SpellsUsed, IsSignatureFault}
use Rattle.rpki_x509.specs.SignedParts.{ArePartsIn}
use Rattle.rpki_x509.proofs.FrameLaws.{section-front}
use Rattle.rpki_x509.proofs.NestedLaws.{StandsBefore}

-- ---- the signature

abbrev pub SpellsBits : Bits → List ℕ → Type 0
SpellsBits = SpellsLeaf bit_string false IsBits

pub signature-all : (s r w : List ℕ) (b : Bits) → Accepts SpellsBits s b r → b.unused ≡ 0 → r ≡ [] → w ≡ b.octets
    → SpellsUsed w s × ((v : List ℕ) → SpellsUsed v s → v ≡ w)
signature-all s r w b a none end is =
    let one = all-read SpellsBits s b r a end in
    let used : SpellsBits (bits_of 0 b.octets) s = subst (λ (u : ℕ). SpellsBits (bits_of u b.octets) s) none one.0 in (
      subst (λ (o : List ℕ). SpellsBits (bits_of 0 o) s) (sym is) used,
      λ v k. ap (λ (x : Bits). x.octets) (one.1 (bits_of 0 v) k) ∙ sym is,
    )

pub signature-unused : (s r : List ℕ) (b : Bits) → Accepts SpellsBits s b r → (b.unused ≡ 0 → ⊥)
    → SpellsNothing SpellsUsed s
signature-unused s r b a some v k = some (sym
    (ap (λ (x : Bits). x.unused) (a.only (bits_of 0 v) [] (spelled-whole SpellsBits s (bits_of 0 v) k)).0))

pub signature-more : (s r : List ℕ) (b : Bits) → Accepts SpellsBits s b r → (r ≡ [] → ⊥) → SpellsNothing SpellsUsed s
signature-more s r b a some v k = nothing-after SpellsBits s r b a some (bits_of 0 v) k

pub signature-none : (s r : List ℕ) (e : DecodeError) → Refusal SpellsBits (IsLeafFault bit_string false IsBits) s r e
    → SpellsNothing SpellsUsed s
signature-none s r e h v k = nothing-whole SpellsBits s
    (unless-memory e (λ z. leaf-no-memory bit_string false IsBits s e h.kind z) h.refuses) (bits_of 0 v) k

-- ---- the parts

pub parts-read : (s m n d w o p : List ℕ) (b : Bool) (v : Parts) → Accepts SpellsValue s d m → v.signed.octets.now ≡ d
    → o ≡ m → v.signed.following ≡ length o
    → Accepts SpellsRpkiAlgorithm m b n → v.signature_algorithm ≡ b → p ≡ n → StandsBefore o p v.algorithm
    → SpellsUsed w n → v.signature.octets.now ≡ w → v.signature.following ≡ 0
    → (x : SignedParts Bool) × (h : IsSignedContents SpellsRpkiAlgorithm x s) × ArePartsIn x s h v
parts-read s m n d w o p b v a is i size c same j text g sign last =
    let whole : s ≡ d ++ m = a.spells.parts ∙ ap (λ (x : List ℕ). x ++ m) a.spells.spelled.same in
    let third : s ≡ (d ++ c.spells.front) ++ n =
    whole ∙ ap (λ (x : List ℕ). d ++ x) c.spells.parts ∙ sym (append_assoc d c.spells.front n) in (
      parts_of d b w,
      record {
        text = c.spells.front;
        bits = n;
        parts = third;
        one = a.spells.spelled.value;
        named =
            c.spells.spelled;
        signature = record { unused = 0; string = g };
      },
      record {
        signed = record { octets = is; following = size ∙ ap length (i ∙ c.spells.parts) };
        same = same;
        algorithm = section-front m c.spells.front n o p n v.algorithm c.spells.parts i j text refl;
        signature = record { octets = sign; following = last };
        used = refl;
      },
    )

-- ---- the error of the signature

pub bits-none : (s r : List ℕ) (e : DecodeError) → Refusal SpellsBits (IsLeafFault bit_string false IsBits) s r e
    → IsSignatureFault s e
bits-none s r e h = inl (AtPart h.refuses h.kind)

pub bits-more : (s r : List ℕ) (b : Bits) → Accepts SpellsBits s b r → (r ≡ [] → ⊥) → IsSignatureFault s Trailing
bits-more s r b a some = inl (Later b r a (some, refl))

pub bits-unused : (s r : List ℕ) (b : Bits) (e : DecodeError) → Accepts SpellsBits s b r → r ≡ [] → (b.unused ≡ 0 → ⊥)
    → IsContentWith (codes "signature has unused bits") e → IsSignatureFault s e
bits-unused s r b e a end some text = inr (b, (all-read SpellsBits s b r a end).0, some, text)
