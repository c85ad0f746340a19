-- The octets of a header that is written.
use Rattle.std.proofs.Common.{◌≡◌, ℕ, zero, suc, ◌+◌, ◌-◌, ◌/◌, ◌%◌, ◌<◌, ◌≤◌, ◌⊎◌, Bool, List, [], ◌∷◌, ◌++◌, length}
use Rattle.std.proofs.Common.{refl, sym, ap, ◌∙◌, arith, inl, inr, append_assoc, append-nil, length-append}
use Rattle.std.proofs.lemmas.Bool.{cases_lt, lt-ltb, le-ltb}
use Rattle.rpki_der.specs.TagName.{TagName}
use Rattle.rpki_der.specs.Header.{digits, lead, identifier_octets, length_octets}
use Rattle.rpki_der.proofs.DigitLaws.{digits-zero, digits-last, length-digits}

-- ---- digits

digits-no-room : (b m n : ℕ) → digits b m 0 n ≡ []
unfolding digits
digits-no-room b m n = refl

pub digits-none : (b m k n : ℕ) → (k ≡ 0) ⊎ ((k ≡ 0 → ⊥) × (n ≡ 0)) → digits b m k n ≡ []
digits-none b m k n (inl e) = rw e (digits-no-room b m n)
digits-none b m k n (inr e) = rw e.1 (digits-zero b m k)

-- the last digit after the others
pub digits-more : (b m k n : ℕ) → (k ≡ 0 → ⊥) → (n ≡ 0 → ⊥)
    → digits b m k n ≡ digits b m (k - 1) (n / b) ++ (m + n % b) ∷ []
digits-more b m zero n room ne = absurd (room refl)
digits-more b m (suc k) n room ne = let e : suc k - 1 ≡ k = omega arith in rw e (digits-last b m k n ne)

-- ---- octets after octets

pub pushed-nothing : (old back : List ℕ) → back ≡ [] → old ≡ old ++ back
pushed-nothing old back e = rw e (sym (append-nil old))

pub pushed-twice : (old mid new front back : List ℕ) → mid ≡ old ++ front → new ≡ mid ++ back
    → new ≡ old ++ (front ++ back)
pushed-twice old mid new front back e f = f ∙ ap (λ (w : List ℕ). w ++ back) e ∙ append_assoc old front back

pub pushed-thrice : (old one two new : List ℕ) (x : ℕ) (front back : List ℕ) → one ≡ old ++ x ∷ [] → two ≡ one ++ front
    → new ≡ two ++ back → new ≡ old ++ x ∷ (front ++ back)
pushed-thrice old one two new x front back d e f =
    pushed-twice old one new (x ∷ []) (front ++ back) d (pushed-twice one two new front back e f)

-- ---- the two parts of a header

pub identifier-low : (t : TagName) (f : Bool) → t.number < 31 → identifier_octets t f ≡ lead t f t.number ∷ []
unfolding identifier_octets
identifier-low t f lt = rw (lt-ltb t.number 31 lt) refl

pub identifier-high : (t : TagName) (f : Bool) → 31 ≤ t.number
    → identifier_octets t f ≡ lead t f 31 ∷ (digits 128 128 3 (t.number / 128) ++ (t.number % 128) ∷ [])
unfolding identifier_octets
identifier-high t f ge = rw (le-ltb t.number 31 ge) refl

pub length-short : (n : ℕ) → n < 128 → length_octets n ≡ n ∷ []
unfolding length_octets
length-short n lt = rw (lt-ltb n 128 lt) refl

pub length-long : (n : ℕ) → 128 ≤ n → length_octets n ≡ (128 + length (digits 256 0 4 n)) ∷ digits 256 0 4 n
unfolding length_octets
length-long n ge = rw (le-ltb n 128 ge) refl

-- from one to five octets
pub record IsFive (octets : List ℕ) : Type 0 where
  pub some : 0 < length octets
  pub few : length octets ≤ 5

pub identifier-few : (t : TagName) (f : Bool) → IsFive (identifier_octets t f)
identifier-few t f =
    elim (cases_lt t.number 31) [
      | inl lt ↦ rw (identifier-low t f lt) (record { some = omega arith; few = omega arith })
      | inr ge ↦
          let h = length-digits 128 128 3 (t.number / 128) in
          let e = length-append (digits 128 128 3 (t.number / 128)) ((t.number % 128) ∷ []) in
          rw (identifier-high t f ge) (record { some = omega arith; few = omega arith })
    ]

pub length-few : (n : ℕ) → IsFive (length_octets n)
length-few n =
    elim (cases_lt n 128) [
      | inl lt ↦ rw (length-short n lt) (record { some = omega arith; few = omega arith })
      | inr ge ↦ let h =
          length-digits 256 0 4 n in rw (length-long n ge) (record { some = omega arith; few = omega arith })
    ]
