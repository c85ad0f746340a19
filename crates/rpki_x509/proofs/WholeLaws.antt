-- Signed data whose signature has no unused bits: the octet that counts them, in front of the signature's.
use Rattle.std.proofs.Common.{◌≡◌, ◌∙◌, ◌+◌, ◌↔◌, ℕ, Bool, true, false, inl, inr, List, ◌∷◌, ◌++◌, length, arith}
use Rattle.std.proofs.Common.{refl, sym, ap, append_assoc, length-append, IsTrue}
use Rattle.std.specs.Prelude.{codes}
use Rattle.std.proofs.lemmas.Bool.{false≢true}
use Rattle.rpki_der.specs.declared.error.DecodeError.{DecodeError}
use Rattle.rpki_der.specs.TagName.{sequence, bit_string}
use Rattle.rpki_der.specs.Header.{identifier_octets, length_octets}
use Rattle.rpki_der.specs.Reading.{Spells, Accepts, Refusal}
use Rattle.rpki_der.proofs.ReadingLaws.{UnlessMemory-weaker, UnlessMemory-from}
use Rattle.rpki.specs.SignedData.{SignedParts, SpellsSigned}
use Rattle.rpki.specs.SignedFault.{signed_sequence}
use Rattle.rpki.specs.UnknownAlgorithm.{IsContentWith}
use Rattle.rpki_x509.specs.Signed.{SpellsRpkiAlgorithm, rpki_algorithm, SpellsWhole, IsWholeSignedFault}

-- ---- the octet in front of the last ones

longer : (s front end : List ℕ) (octet : ℕ) → s ≡ front ++ octet ∷ end → length s ≡ length front + (length end + 1)
longer s front end octet e = omega (arith, ap length e, length-append front (octet ∷ end))

-- ---- of signed data that is the count of unused bits

abbrev Signed : SignedParts Bool → List ℕ → Type 0
Signed = SpellsSigned SpellsRpkiAlgorithm

regroup : (a b c e : List ℕ) → a ++ (b ++ (c ++ e)) ≡ (a ++ (b ++ c)) ++ e
regroup a b c e = simp append_assoc

seam : (x : SignedParts Bool) (p : List ℕ) (h : Signed x p)
    → (front : List ℕ) × (p ≡ front ++ h.spelled.signature.unused ∷ x.value)
seam x p h =
    let k = h.spelled in
    let string = k.signature.string in
    let outer = identifier_octets sequence true ++ length_octets (length h.contents) in
    let inner = identifier_octets bit_string false ++ length_octets (length string.contents) in
    let first = x.signed ++ k.text in
    let last = k.signature.unused ∷ x.value in
    let bits : k.bits ≡ inner ++ last = string.value.octets ∙ ap (λ (c : List ℕ). inner ++ c) string.spelled.contents in
    let all : p ≡ outer ++ (first ++ (inner ++ last)) =
    h.value.octets ∙ ap (λ (c : List ℕ). outer ++ c) (k.parts ∙ ap (λ (b : List ℕ). first ++ b) bits) in
    (outer ++ (first ++ inner), all ∙ regroup outer first inner last)

-- in octets that begin with signed data
pub seam-in : (s : List ℕ) (x : SignedParts Bool) (r : List ℕ) (h : Spells Signed s x r)
    → (front : List ℕ) × (s ≡ front ++ h.spelled.spelled.signature.unused ∷ (x.value ++ r))
seam-in s x r h =
    let (front, e) = seam x h.front h.spelled in (
      front,
      h.parts ∙ ap (λ (p : List ℕ). p ++ r) e
          ∙ append_assoc front (h.spelled.spelled.signature.unused ∷ x.value) r,
    )

-- ---- a reader of it

abbrev as-signed : (s : List ℕ) (x : SignedParts Bool) (r : List ℕ) → Spells SpellsWhole s x r → Spells Signed s x r
as-signed s x r h = record { front = h.front; parts = h.parts; spelled = h.spelled.signed }

pub no-signed : (s r : List ℕ) (e : DecodeError)
    → Refusal Signed (signed_sequence SpellsRpkiAlgorithm rpki_algorithm.fault).fault s r e
    → Refusal SpellsWhole IsWholeSignedFault s s e
no-signed s r e h = record {
  unchanged = refl;
  refuses =
      UnlessMemory-weaker e (λ none x q k. none x q (as-signed s x q k)) h.refuses;
  kind = inl h.kind;
}

-- what is read of the octet in front of the signature's and of what follows
abbrev pub TellsUsed : List ℕ → ℕ → Bool → Type 0
TellsUsed s last used = (front : List ℕ) (octet : ℕ) (end : List ℕ) → s ≡ front ++ octet ∷ end → length end ≡ last
    → IsTrue used ↔ (octet ≡ 0)

module _ (s r : List ℕ) (x : SignedParts Bool) (a : Accepts Signed s x r) (last : ℕ)
    (size : last ≡ length x.value + length r) (used : Bool) (tells : TellsUsed s last used) where
  ends : (y : SignedParts Bool) (q : List ℕ) → y ≡ x → q ≡ r → length (y.value ++ q) ≡ last
  ends y q e f = length-append y.value q ∙ ap (λ (z : SignedParts Bool). length z.value + length q) e
      ∙ ap (λ (t : List ℕ). length x.value + length t) f ∙ sym size

  pub signed-unused : (e : DecodeError) → (IsTrue used → ⊥) → IsContentWith (codes "signature has unused bits") e
      → Refusal SpellsWhole IsWholeSignedFault s s e
  signed-unused e other text = record {
    unchanged = refl;
    refuses = UnlessMemory-from e (λ y q k.
        let same = a.only y q (as-signed s y q k) in
        let (front, parts) = seam-in s y q (as-signed s y q k) in
        other ((tells front _ (y.value ++ q) parts (ends y q same.0 same.1)).1 k.spelled.used));
    kind = inr ((x, r, a.spells), text);
  }

  pub signed-whole : IsTrue used → Accepts SpellsWhole s x r
  signed-whole is =
      let (front, parts) = seam-in s x r a.spells in
      record {
        spells = record {
          front = a.spells.front;
          parts = a.spells.parts;
          spelled =
              record {
                signed = a.spells.spelled;
                used =
                    (tells front _ (x.value ++ r) parts (ends x r refl refl)).0 is;
              };
        };
        only = λ w q k. a.only w q (as-signed s w q k);
      }

pub not-true : (b : Bool) → b ≡ false → IsTrue b → ⊥
not-true b other is = false≢true (sym other ∙ is)
