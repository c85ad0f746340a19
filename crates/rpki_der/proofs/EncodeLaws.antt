-- Laws of what is written.
use Rattle.std.proofs.Common.{◌≡◌, ℕ, ◌+◌, ◌<◌, ◌≤◌, ◌^◌, Bool, true, false, List, [], ◌∷◌, ◌++◌, length, refl, sym, ap}
use Rattle.std.proofs.Common.{◌∙◌, arith, append_assoc, length-append, inl, inr}
use Rattle.std.proofs.lemmas.Bool.{cases_lt}
use Rattle.std.proofs.lemmas.List.{append_cancel_left}
use Rattle.rpki_der.specs.TagName.{TagName, IsTag}
use Rattle.rpki_der.specs.Header.{digits, identifier_octets, length_octets, tlv}
use Rattle.rpki_der.specs.HeaderReading.{length_at}
use Rattle.rpki_der.specs.Values.{SpellsContents, SpellsLeaf}
use Rattle.rpki_der.specs.Members.{Members, spell, count, AreValues}
use Rattle.rpki_der.specs.Members.Members.{Empty, Primitive, Constructed}
use Rattle.rpki_der.specs.Leaves.{Bits, AreBits, IsBits, bits_of}
use Rattle.rpki_der.specs.Contents.{bits_contents}
use Rattle.rpki_der.proofs.HeaderWritingLaws.{identifier-few, length-few}
use Rattle.rpki_der.proofs.StepLaws.{pair-is}
use Rattle.rpki_der.proofs.LengthLaws.{length-again, len-short, len-long}

-- ---- how many octets

-- a header has from two to ten octets
pub header_at_most : (t : TagName) (f : Bool) (n : ℕ) → length (identifier_octets t f ++ length_octets n) ≤ 10
header_at_most t f n =
    let a = (identifier-few t f).few in
    let b = (length-few n).few in
    omega (arith, length-append (identifier_octets t f) (length_octets n))

pub tlv_at_most : (t : TagName) (f : Bool) (c : List ℕ) → length (tlv t f c) ≤ length c + 10
tlv_at_most t f c =
    let h = header_at_most t f (length c) in
    omega (arith, length-append (identifier_octets t f ++ length_octets (length c)) c)

pub tlv-at-least : (t : TagName) (f : Bool) (c : List ℕ) → length c + 2 ≤ length (tlv t f c)
tlv-at-least t f c =
    let a = (identifier-few t f).some in
    let b = (length-few (length c)).some in
    omega (
      arith,
      length-append (identifier_octets t f ++ length_octets (length c)) c,
      length-append
          (identifier_octets t f) (length_octets (length c)),
    )

-- a value is never empty
pub tlv-some : (t : TagName) (f : Bool) (c : List ℕ) → tlv t f c ≡ [] → ⊥
tlv-some t f c e = let h = tlv-at-least t f c in let g = ap length e in omega arith

-- ---- what a value says

-- a value of a legal tag, whose length can be announced, is one that is read
pub tlv-legal : (t : TagName) (f : Bool) (c : List ℕ) → IsTag t → length c < 2 ^ 32 → SpellsContents t f c (tlv t f c)
tlv-legal t f c tag fits = record { tag = tag; fits = fits; octets = refl }

pub leaf-legal : {V : Type 0} (t : TagName) (f : Bool) (C : V → List ℕ → Type 0) (v : V) (c : List ℕ) → IsTag t
    → length c < 2 ^ 32 → C v c → SpellsLeaf t f C v (tlv t f c)
leaf-legal t f C v c tag fits spelled = record { contents = c; value = tlv-legal t f c tag fits; spelled = spelled }

-- fronts of one length are equal, and so is what follows
same-fronts : (a b x y : List ℕ) → length a ≡ length b → a ++ x ≡ b ++ y → (a ≡ b) × (x ≡ y)
same-fronts [] [] x y l e = (refl, e)
same-fronts [] (c ∷ b) x y l e = absurd (omega arith)
same-fronts (c ∷ a) [] x y l e = absurd (omega arith)
same-fronts (c ∷ a) (d ∷ b) x y l e =
    let h : c ≡ d = cc in
    let t : a ++ x ≡ b ++ y = cc in
    let r = same-fronts a b x y (omega arith) t in
    (let p = r.0 in cc, r.1)

-- after one tag in one form, equal octets have equal contents, and the same follows
pub tlv-same-then : (t : TagName) (f : Bool) (c d x y : List ℕ) → length c < 2 ^ 32 → length d < 2 ^ 32
    → tlv t f c ++ x ≡ tlv t f d ++ y → (c ≡ d) × (x ≡ y)
tlv-same-then t f c d x y small small' e =
    let h : length_octets (length c) ++ (c ++ x) ≡ length_octets (length d) ++ (d ++ y) =
    append_cancel_left (identifier_octets t f) _ _ (simp append_assoc at e) in
    let r = sym (length-again (length c) (c ++ x) small) ∙ ap length_at h ∙ length-again (length d) (d ++ y) small' in
    let p = pair-is (length c) (length d) (c ++ x) (d ++ y) r in
    same-fronts c d x y p.0 p.1

pub tlv-same : (t : TagName) (f : Bool) (c d : List ℕ) → length c < 2 ^ 32 → length d < 2 ^ 32 → tlv t f c ≡ tlv t f d
    → c ≡ d
tlv-same t f c d small small' e = (tlv-same-then t f c d [] [] small small' (ap (λ (w : List ℕ). w ++ []) e)).0

-- length octets with the same beginning are equally many
lengths-alike : (m n : ℕ) (x y : List ℕ) → length_octets m ++ x ≡ length_octets n ++ y
    → length (length_octets m) ≡ length (length_octets n)
lengths-alike m n x y e =
    elim (cases_lt m 128) [
      | inl short ↦ elim (cases_lt n 128) [
        | inl short' ↦ rw (len-short m short, len-short n short') refl
        | inr long' ↦
            let h : m ∷ x ≡ (128 + length (digits 256 0 4 n)) ∷ (digits 256 0 4 n ++ y) = rw
            (len-short m short, len-long n long') at e in
            let first : m ≡ 128 + length (digits 256 0 4 n) = cc in absurd (omega arith)
      ]
      | inr long ↦ elim (cases_lt n 128) [
        | inl short' ↦
            let h : (128 + length (digits 256 0 4 m)) ∷ (digits 256 0 4 m ++ x) ≡ n ∷ y = rw
            (len-long m long, len-short n short') at e in
            let first : 128 + length (digits 256 0 4 m) ≡ n = cc in absurd (omega arith)
        | inr long' ↦
            let h : (128 + length (digits 256 0 4 m)) ∷ (digits 256 0 4 m ++ x) ≡ (128 + length (digits 256 0 4 n)) ∷
            (digits 256 0 4 n ++ y) = rw (len-long m long, len-long n long') at e in
            let first : 128 + length (digits 256 0 4 m) ≡ 128 + length (digits 256 0 4 n) = cc in
            rw (len-long m long, len-long n long') (omega arith)
      ]
    ]

-- the same where the length of one can be announced: so can that of the other
pub tlv-same-one : (t : TagName) (f : Bool) (c d : List ℕ) → length d < 2 ^ 32 → tlv t f c ≡ tlv t f d → c ≡ d
tlv-same-one t f c d small e =
    let h : length_octets (length c) ++ c ≡ length_octets (length d) ++ d = append_cancel_left (identifier_octets t f) _
    _ (simp append_assoc at e) in
    let k = lengths-alike (length c) (length d) c d h in
    let sizes : length (length_octets (length c)) + length c ≡ length (length_octets (length d)) + length d =
    sym (length-append (length_octets (length c)) c) ∙ ap length h ∙ length-append (length_octets (length d)) d in
    tlv-same t f c d (omega arith) small e

-- values of one tag and form whose contents are equally long begin alike
pub tlv-front : (t : TagName) (f : Bool) (n : ℕ)
    → (front : List ℕ) × ((c : List ℕ) → length c ≡ n → tlv t f c ≡ front ++ c)
tlv-front t f n = (
  identifier_octets t f ++ length_octets n,
  λ c e. ap
      (λ (k : ℕ). (identifier_octets t f ++ length_octets k) ++ c) e,
)

-- ---- contents

pub bits-spelled : (b : Bits) → AreBits b → IsBits b (bits_contents b)
bits-spelled b legal = record { legal = legal; contents = refl }

pub bits-same : (a b : Bits) → bits_contents a ≡ bits_contents b → a ≡ b
bits-same a b e =
    let u : a.unused ≡ b.unused = cc in
    let v : a.octets ≡ b.octets = cc in
    ap (λ (n : ℕ). bits_of n a.octets) u ∙ ap (λ (s : List ℕ). bits_of b.unused s) v

-- ---- lists of values

-- each value has an octet at least
members-at-most : (ms : Members) → count ms ≤ length (spell ms)
members-at-most Empty = omega arith
members-at-most (Primitive t c rest) =
    omega (arith, members-at-most rest, tlv-at-least t false c, length-append (tlv t false c) (spell rest))
members-at-most (Constructed t ms rest) =
    omega (
      arith,
      members-at-most rest,
      tlv-at-least t true (spell ms),
      length-append (tlv t true (spell ms))
          (spell rest),
    )

pub count_at_most : (k : ℕ) (octets : List ℕ) → AreValues k octets → k ≤ length octets
count_at_most k octets h = rw (h.spelled, ← h.counted) (members-at-most h.members)
