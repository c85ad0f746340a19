-- Identifier octets.
use Rattle.std.proofs.Common.{◌≡◌, ℕ, zero, suc, ◌/◌, ◌%◌, ◌<◌, ◌≤◌, ◌⊎◌, Bool, true, false, eqb, ◌&&◌, List, [], ◌∷◌}
use Rattle.std.proofs.Common.{◌++◌, Result, Ok, Err, refl, sym, ap, ◌∙◌, arith, inl, inr}
use Rattle.std.proofs.lemmas.Bool.{cases_eq, cases_lt, ne_eqb, eq-eqb, lt-ltb, le-ltb, and_left, and_right, and_from}
use Rattle.rpki_der.specs.declared.error.DecodeError.{DecodeError}
use Rattle.rpki_der.specs.declared.error.DecodeError.TheVariants.{Truncated, BadTag}
use Rattle.rpki_der.specs.declared.tag.Class.{Class}
use Rattle.rpki_der.specs.declared.tag.Class.TheVariants.{Universal, Application, Context, Private}
use Rattle.rpki_der.specs.TagName.{TagName, IsTag, tag_of}
use Rattle.rpki_der.specs.Header.{class_number, form_number, lead, identifier_octets}
use Rattle.rpki_der.specs.KindLaws.{class-takes, form-takes}
use Rattle.rpki_der.specs.HeaderReading.{◌>>=◌, class_at, number_at, identifier_at}
use Rattle.rpki_der.proofs.StepLaws.{IsBytes, IsBytes-rest, IsBytes-cons, pair-is, bind-ok, bind-err}
use Rattle.rpki_der.proofs.TagNumberLaws.{groups, number-again, number-takes, number-stays, number-completes}
use Rattle.rpki_der.proofs.TagNumberLaws.{number-errors}
use Rattle.rpki_der.proofs.DigitLaws.{digits-zero}
use Rattle.std.proofs.Math.Nat.{pow-zero}

-- ---- the first octet

pub class-again : (c : Class) → class_at (class_number c) ≡ c
class-again Universal = refl
class-again Application = refl
class-again Context = refl
class-again Private = refl

class-below : (c : Class) → class_number c < 4
class-below Universal = omega arith
class-below Application = omega arith
class-below Context = omega arith
class-below Private = omega arith

universal-is : (n : ℕ) → class_at n ≡ Universal → n ≡ 0
universal-is zero e = refl
universal-is (suc zero) e = absurd cc
universal-is (suc (suc zero)) e = absurd cc
universal-is (suc (suc (suc n))) e = absurd cc

form-again : (f : Bool) → eqb (form_number f) 1 ≡ f
form-again true = refl
form-again false = refl

form-below : (f : Bool) → form_number f < 2
form-below true = omega arith
form-below false = omega arith

-- the octet is made of its three parts
lead-takes : (b : ℕ) → b < 256 → lead (tag_of (class_at (b / 64)) (b % 32)) (eqb (b / 32 % 2) 1) (b % 32) ≡ b
lead-takes b lt =
    let c = class-takes (b / 64) (omega arith) in
    let f = form-takes (b / 32 % 2) (omega arith) in
    omega arith

pub record LeadParts (t : TagName) (f : Bool) (bits : ℕ) : Type 0 where
  pub class : class_at (lead t f bits / 64) ≡ t.class
  pub form : eqb (lead t f bits / 32 % 2) 1 ≡ f
  pub low : lead t f bits % 32 ≡ bits

lead-again : (t : TagName) (f : Bool) (low : ℕ) → low < 32 → LeadParts t f low
lead-again t f low lt =
    let c = class-below t.class in
    let g = form-below f in
    let class : lead t f low / 64 ≡ class_number t.class = omega arith in
    let form : lead t f low / 32 % 2 ≡ form_number f = omega arith in
    record {
      class = ap class_at class ∙ class-again t.class;
      form = ap (λ (n : ℕ). eqb n 1) form ∙ form-again f;
      low = omega arith;
    }

-- ---- what is read, by the first octet

pub identifier-empty : identifier_at [] ≡ Err Truncated
unfolding identifier_at
identifier-empty = refl

abbrev found : ℕ → ℕ → List ℕ → Result ((TagName × Bool) × List ℕ) DecodeError
found b n s = Ok ((tag_of (class_at (b / 64)) n, eqb (b / 32 % 2) 1), s)

pub identifier-low : (b : ℕ) (s : List ℕ) → b % 32 < 31 → (eqb (b / 64) 0 && eqb (b % 32) 0) ≡ false
    → identifier_at (b ∷ s) ≡ found b (b % 32) s
unfolding identifier_at
identifier-low b s lt named = rw (lt-ltb (b % 32) 31 lt, named) refl

pub identifier-none : (b : ℕ) (s : List ℕ) → b % 32 < 31 → (eqb (b / 64) 0 && eqb (b % 32) 0) ≡ true
    → identifier_at (b ∷ s) ≡ Err BadTag
unfolding identifier_at
identifier-none b s lt unnamed = rw (lt-ltb (b % 32) 31 lt, unnamed) refl

pub identifier-high : (b : ℕ) (s : List ℕ) → 31 ≤ b % 32
    → identifier_at (b ∷ s) ≡ (number_at 4 0 s >>= λ n. found b n.0 n.1)
unfolding identifier_at
identifier-high b s ge = rw (le-ltb (b % 32) 31 ge) refl

-- the three kinds of a first octet
pub data Kind (b : ℕ) : Type 0 where
  low : b % 32 < 31 → (eqb (b / 64) 0 && eqb (b % 32) 0) ≡ false → (b / 64 ≡ 0 → 0 < b % 32) → Kind b
  none : b % 32 < 31 → (eqb (b / 64) 0 && eqb (b % 32) 0) ≡ true → Kind b
  high : 31 ≤ b % 32 → Kind b

kind : (b : ℕ) → Kind b
kind b =
    elim (cases_lt (b % 32) 31) [
      | inl lt ↦
          elim (cases_eq (b / 64) 0) [
            | inl z ↦
                elim (cases_eq (b % 32) 0) [
                  | inl w ↦ none lt (and_from _ _ (eq-eqb (b / 64) 0 z) (eq-eqb (b % 32) 0 w))
                  | inr ne ↦ low lt (and_right _ _ (ne_eqb (b % 32) 0 ne)) (λ z. omega arith)
                ]
            | inr ne ↦ low lt (and_left _ _ (ne_eqb (b / 64) 0 ne)) (λ z. absurd (ne z))
          ]
      | inr ge ↦ high ge
    ]

-- ---- the laws

identifier-short-is : (t : TagName) (f : Bool) → t.number < 31 → identifier_octets t f ≡ lead t f t.number ∷ []
unfolding identifier_octets
identifier-short-is t f lt = rw (lt-ltb t.number 31 lt) refl

identifier-long-is : (t : TagName) (f : Bool) → 31 ≤ t.number → identifier_octets t f ≡ lead t f 31 ∷ groups t.number
unfolding identifier_octets
identifier-long-is t f ge = rw (le-ltb t.number 31 ge) refl

-- identifier octets that were read
pub record IsIdentifier (i : TagName × Bool) (s r : List ℕ) : Type 0 where
  pub legal : IsTag i.0
  pub octets : s ≡ identifier_octets i.0 i.1 ++ r

found-is : (b n : ℕ) (s : List ℕ) (i : TagName × Bool) (r : List ℕ) → found b n s ≡ Ok (i, r)
    → ((tag_of (class_at (b / 64)) n, eqb (b / 32 % 2) 1) ≡ i) × (s ≡ r)
found-is b n s i r e = pair-is (tag_of (class_at (b / 64)) n, eqb (b / 32 % 2) 1) i s r e

takes-high : (b : ℕ) (s : List ℕ) (n : ℕ) (q : List ℕ) (i : TagName × Bool) (r : List ℕ) → IsBytes (b ∷ s) → 31 ≤ b % 32
    → number_at 4 0 s ≡ Ok (n, q) → found b n q ≡ Ok (i, r) → IsIdentifier i (b ∷ s) r
takes-high b s n q i r bytes ge read e =
    let byte : b < 256 = bytes 0 in
    let h = number-takes 4 0 0 s n q (omega arith) (omega (arith, pow-zero 128)) (IsBytes-rest b s bytes) read in
    let f = found-is b n q i r e in
    let t = tag_of (class_at (b / 64)) n in
    let low = h.low in
    let legal : IsTag t = record { below = h.high; named = λ u. omega arith } in
    let numbered : s ≡ groups n ++ q = rw (digits-zero 128 128 3) at h.octets in
    let lead31 : lead t (eqb (b / 32 % 2) 1) 31 ≡ b =
    let whole = lead-takes b byte in let at31 : b % 32 ≡ 31 = omega arith in rw at31 at whole in
    let octets : b ∷ s ≡ identifier_octets t (eqb (b / 32 % 2) 1) ++ q =
    rw (identifier-long-is t (eqb (b / 32 % 2) 1) h.low, lead31) (ap (λ (x : List ℕ). b ∷ x) numbered) in
    rw (← f.0, ← f.1) (record { legal = legal; octets = octets })

pub identifier-takes : (s : List ℕ) (i : TagName × Bool) (r : List ℕ) → IsBytes s → identifier_at s ≡ Ok (i, r)
    → IsIdentifier i s r
identifier-takes [] i r bytes e = absurd (let h = identifier-empty in cc)
identifier-takes (b ∷ s) i r bytes e =
    let byte : b < 256 = bytes 0 in
    elim (kind b) [
      | low lt is named ↦
          let f = found-is b (b % 32) s i r (sym (identifier-low b s lt is) ∙ e) in
          let t = tag_of (class_at (b / 64)) (b % 32) in
          let legal : IsTag t = record { below = omega arith; named = λ u. named (universal-is (b / 64) u) } in
          let octets : b ∷ s ≡ identifier_octets t (eqb (b / 32 % 2) 1) ++ s =
          rw (identifier-short-is t (eqb (b / 32 % 2) 1) lt) (ap (λ (x : ℕ). x ∷ s) (sym (lead-takes b byte))) in
          rw (← f.0, ← f.1) (record { legal = legal; octets = octets })
      | none lt is ↦ absurd (let h = identifier-none b s lt is in cc)
      | high ge ↦
          let m = bind-ok (number_at 4 0 s) (λ n. found b n.0 n.1) (i, r) (sym (identifier-high b s ge) ∙ e) in
          takes-high b s m.0.0 m.0.1 i r bytes ge m.1 m.2
    ]

-- universal 0 isn't written
class-zero : (c : Class) → class_number c ≡ 0 → c ≡ Universal
class-zero Universal e = refl
class-zero Application e = absurd (omega arith)
class-zero Context e = absurd (omega arith)
class-zero Private e = absurd (omega arith)

named-again : (t : TagName) (f : Bool) → IsTag t → t.number < 31
    → (eqb (lead t f t.number / 64) 0 && eqb (lead t f t.number % 32) 0) ≡ false
named-again t f legal lt =
    let g = form-below f in
    elim (cases_eq (class_number t.class) 0) [
      | inl z ↦
          let some = legal.named (class-zero t.class z) in
          and_right _ _ (ne_eqb (lead t f t.number % 32) 0 (λ w. omega arith))
      | inr ne ↦ and_left _ _ (ne_eqb (lead t f t.number / 64) 0 (λ w. ne (omega arith)))
    ]

pub identifier-again : (t : TagName) (f : Bool) (s : List ℕ) → IsTag t
    → identifier_at (identifier_octets t f ++ s) ≡ Ok ((t, f), s)
identifier-again t f s legal =
    elim (cases_lt t.number 31) [
      | inl lt ↦
          let p = lead-again t f t.number (omega arith) in
          let b = lead t f t.number in
          let is : (eqb (b / 64) 0 && eqb (b % 32) 0) ≡ false = named-again t f legal lt in
          rw (identifier-short-is t f lt) (identifier-low b s (rw p.low lt) is ∙ rw (p.class, p.form, p.low) refl)
      | inr ge ↦
          let p = lead-again t f 31 (omega arith) in
          let b = lead t f 31 in
          rw (identifier-long-is t f ge)
          (identifier-high b (groups t.number ++ s) (rw p.low (omega arith)) ∙ rw
          (number-again t.number s ge legal.below, p.class, p.form) refl)
    ]

pub identifier-stays : (s t : List ℕ) → identifier_at s ≡ Err BadTag → identifier_at (s ++ t) ≡ Err BadTag
identifier-stays [] t e = absurd (let h = identifier-empty in cc)
identifier-stays (b ∷ s) t e =
    elim (kind b) [
      | low lt is named ↦ absurd (let h = identifier-low b s lt is in cc)
      | none lt is ↦ identifier-none b (s ++ t) lt is
      | high ge ↦
          elim (bind-err (number_at 4 0 s) (λ n. found b n.0 n.1) BadTag (sym (identifier-high b s ge) ∙ e)) [
            | inl h ↦ identifier-high b (s ++ t) ge ∙ rw (number-stays 4 0 s t h) refl
            | inr h ↦ absurd (let g = h.2 in cc)
          ]
    ]

pub identifier-completes : (s : List ℕ) → identifier_at s ≡ Err Truncated
    → (i : TagName × Bool) × (t : List ℕ) × IsBytes t × (identifier_at (s ++ t) ≡ Ok (i, []))
identifier-completes [] e = (
  (tag_of Application 0, false),
  64 ∷ [],
  IsBytes-cons 64 [] (omega arith)
      (λ i. omega arith),
  identifier-low 64 [] (omega arith) refl,
)
identifier-completes (b ∷ s) e =
    elim (kind b) [
      | low lt is named ↦ absurd (let h = identifier-low b s lt is in cc)
      | none lt is ↦ absurd (let h = identifier-none b s lt is in cc)
      | high ge ↦
          elim (bind-err (number_at 4 0 s) (λ n. found b n.0 n.1) Truncated (sym (identifier-high b s ge) ∙ e)) [
            | inl h ↦
                let g = number-completes 4 0 s h in (
                  (tag_of (class_at (b / 64)) g.0, eqb (b / 32 % 2) 1),
                  127 ∷ [],
                  IsBytes-cons 127 [] (omega arith)
                      (λ i. omega arith),
                  identifier-high b (s ++ 127 ∷ []) ge ∙ rw g.1 refl,
                )
            | inr h ↦ absurd (let g = h.2 in cc)
          ]
    ]

pub identifier-errors : (s : List ℕ) (e : DecodeError) → identifier_at s ≡ Err e → (e ≡ Truncated) ⊎ (e ≡ BadTag)
identifier-errors [] e h = inl (let g = identifier-empty in cc)
identifier-errors (b ∷ s) e h =
    elim (kind b) [
      | low lt is named ↦ absurd (let g = identifier-low b s lt is in cc)
      | none lt is ↦ inr (let g = identifier-none b s lt is in cc)
      | high ge ↦
          elim (bind-err (number_at 4 0 s) (λ n. found b n.0 n.1) e (sym (identifier-high b s ge) ∙ h)) [
            | inl g ↦ number-errors 4 0 s e g
            | inr g ↦ absurd (let k = g.2 in cc)
          ]
    ]
