-- Digits are the shortest that write their number.
use Rattle.std.proofs.Common.{◌≡◌, ℕ, zero, suc, ◌+◌, ◌*◌, ◌/◌, ◌%◌, ◌^◌, ◌<◌, ◌≤◌, ◌↔◌, Bool, List, [], ◌∷◌, ◌++◌}
use Rattle.std.proofs.Common.{length, refl, sym, ap, ◌∙◌, arith, inl, inr, append_assoc, length-append, zero-add}
use Rattle.std.proofs.Math.Nat.{pow-zero, pow-suc, mul-le-mul_right, pow-le-pow_right, mod-lt}
use Rattle.std.proofs.lemmas.Bool.{cases_eq, cases_lt}
use Rattle.std.proofs.lemmas.Nat.{div-mul-add, div_below, div-add-mod'}
use Rattle.rpki_der.specs.TagName.{TagName, IsTag}
use Rattle.rpki_der.specs.Header.{digits, lead, identifier_octets, length_octets}
use Rattle.rpki_der.specs.ShortestForm.{number_in, AreDigits, IsShortest, IsLengthForm, continued, IsIdentifierForm}
use Rattle.rpki_der.proofs.DigitLaws.{digits-zero, digits-last}
use Rattle.rpki_der.proofs.HeaderWritingLaws.{identifier-low, identifier-high, length-short, length-long}

-- ---- numbers

next-power : (b k : ℕ) → b ^ suc k ≡ b * b ^ k
next-power b k = omega (arith, pow-suc b k)

head-below : (b d p r : ℕ) → d < b → r < p → d * p + r < b * p
head-below b d p r h k =
    let le : suc d * p ≤ b * p = mul-le-mul_right p h in
    omega arith

number-below : (b : ℕ) (ds : List ℕ) → AreDigits b ds → number_in b ds < b ^ length ds
number-below b [] h = omega (arith, pow-zero b)
number-below b (d ∷ ds) h =
    rw (next-power b (length ds)) (head-below b d (b ^ length ds) (number_in b ds) h.0 (number-below b ds h.1))

number-push : (b : ℕ) (xs : List ℕ) (d : ℕ) → number_in b (xs ++ d ∷ []) ≡ number_in b xs * b + d
number-push b [] d = rw (pow-zero b) (omega arith)
number-push b (x ∷ xs) d =
    let size : length (xs ++ d ∷ []) ≡ suc (length xs) = omega (arith, length-append xs (d ∷ [])) in
    rw (number-push b xs d, size, next-power b (length xs)) (omega arith)

digits-push-each : (b : ℕ) (xs : List ℕ) (d : ℕ) → AreDigits b xs → d < b → AreDigits b (xs ++ d ∷ [])
digits-push-each b [] d h lt = (lt, tt)
digits-push-each b (x ∷ xs) d h lt = (h.0, digits-push-each b xs d h.1 lt)

split-in : (b n : ℕ) → n / b * b + (0 + n % b) ≡ n
split-in b n = omega (arith, div-add-mod' n b)

digits-value : (b k n : ℕ) → 0 < b → n < b ^ k → number_in b (digits b 0 k n) ≡ n
digits-value b zero n pos lt =
    let e : n ≡ 0 = omega (arith, pow-zero b) in rw (e, digits-zero b 0 0) refl
digits-value b (suc k) n pos lt =
    elim (cases_eq n 0) [
      | inl e ↦ rw (e, digits-zero b 0 (suc k)) refl
      | inr ne ↦
          let below : n / b < b ^ k = div_below n b (b ^ k) pos (rw pow-suc at lt) in
          rw (
            digits-last b 0 k n ne,
            number-push b (digits b 0 k (n / b)) (0 + n % b),
            digits-value b k (n / b) pos
                below,
          ) (split-in b n)
    ]

digits-each : (b k n : ℕ) → 0 < b → AreDigits b (digits b 0 k n)
digits-each b zero n pos = unfold digits in tt
digits-each b (suc k) n pos =
    elim (cases_eq n 0) [
      | inl e ↦ rw (e, digits-zero b 0 (suc k)) tt
      | inr ne ↦ rw (digits-last b 0 k n ne)
          (digits-push-each b (digits b 0 k (n / b)) (0 + n % b) (digits-each b k (n / b) pos)
          (omega (arith, mod-lt n pos)))
    ]

-- a number is not small beside the count of its digits
digits-low : (b k n : ℕ) → 0 < b → 0 < n → n < b ^ k → b ^ length (digits b 0 k n) ≤ n * b
digits-low b zero n pos some lt = absurd (omega (arith, pow-zero b))
digits-low b (suc k) n pos some lt =
    let ne : n ≡ 0 → ⊥ = λ z. omega arith in
    let size : length (digits b 0 k (n / b) ++ (0 + n % b) ∷ []) ≡ suc (length (digits b 0 k (n / b))) = omega
    (arith, length-append (digits b 0 k (n / b)) ((0 + n % b) ∷ [])) in
    let below : n / b < b ^ k = div_below n b (b ^ k) pos (rw pow-suc at lt) in
    elim (cases_eq (n / b) 0) [
      | inl z ↦
          let one : length (digits b 0 k (n / b)) ≡ 0 = rw (z, digits-zero b 0 k) refl in
          let le : 1 * b ≤ n * b = mul-le-mul_right b some in
          rw (digits-last b 0 k n ne, size, one, next-power b 0, pow-zero b) (omega arith)
      | inr some' ↦
          let ih = digits-low b k (n / b) pos (omega arith) below in
          let whole : n / b * b ≤ n = omega (arith, split-in b n) in
          let first : b ^ length (digits b 0 k (n / b)) * b ≤ n / b * b * b = mul-le-mul_right b ih in
          let second : n / b * b * b ≤ n * b = mul-le-mul_right b whole in
          rw (digits-last b 0 k n ne, size, next-power b (length (digits b 0 k (n / b)))) (omega arith)
    ]

digits-few : (b k n : ℕ) → 0 < b → 0 < n → n < b ^ k → (es : List ℕ) → AreDigits b es → number_in b es ≡ n
    → length (digits b 0 k n) ≤ length es
digits-few b k n pos some lt es h is =
    elim (cases_lt (length es) (length (digits b 0 k n))) [
      | inr le ↦ le
      | inl less ↦
          let grown : b ^ suc (length es) ≤ b ^ length (digits b 0 k n) = pow-le-pow_right pos less in
          let low = digits-low b k n pos some lt in
          let high : n < b ^ length es = rw (← is) (number-below b es h) in
          let times : suc n * b ≤ b ^ length es * b = mul-le-mul_right b high in
          absurd (omega (arith, next-power b (length es)))
    ]

pub digits-shortest : (b k n : ℕ) → 0 < b → 0 < n → n < b ^ k → IsShortest b n (digits b 0 k n)
digits-shortest b k n pos some lt =
    record { digits = digits-each b k n pos; value = digits-value b k n pos lt; few = digits-few b k n pos some lt }

-- digits that are equally many and write the same are the same
same-digits : (b : ℕ) (xs ys : List ℕ) → AreDigits b xs → AreDigits b ys → length xs ≡ length ys
    → number_in b xs ≡ number_in b ys → xs ≡ ys
same-digits b [] [] h k l e = refl
same-digits b [] (y ∷ ys) h k l e = absurd (omega arith)
same-digits b (x ∷ xs) [] h k l e = absurd (omega arith)
same-digits b (x ∷ xs) (y ∷ ys) h k l e =
    let size : length xs ≡ length ys = omega arith in
    let p = b ^ length ys in
    let e' : x * p + number_in b xs ≡ y * p + number_in b ys = rw size at e in
    let small : number_in b xs < p = rw (← size) (number-below b xs h.1) in
    let small' : number_in b ys < p = number-below b ys k.1 in
    let heads : x ≡ y = sym (div-mul-add x p (number_in b xs) small) ∙ ap (λ (n : ℕ). n / p) e' ∙ div-mul-add y p
    (number_in b ys) small' in
    let tails : number_in b xs ≡ number_in b ys = omega (arith, ap (λ (n : ℕ). n * p) heads) in
    let rest = same-digits b xs ys h.1 k.1 size tails in
    cc

pub one-shortest : (b n : ℕ) (xs ys : List ℕ) → IsShortest b n xs → IsShortest b n ys → xs ≡ ys
one-shortest b n xs ys h k =
    same-digits b xs ys h.digits k.digits (omega (arith, h.few ys k.digits k.value, k.few xs h.digits h.value))
    (h.value ∙ sym k.value)

-- ---- lengths

pub length-forms : (n : ℕ) (p : List ℕ) → n < 2 ^ 32 → (p ≡ length_octets n) ↔ IsLengthForm n p
length-forms n p lt =
    elim (cases_lt n 128) [
      | inl short ↦ (
        λ e. inl (short, e ∙ length-short n short),
        λ h. elim h [ inl (l, e) ↦ e ∙ sym (length-short n short) | inr m ↦ absurd (let ge = m.0 in omega arith) ],
      )
      | inr ge ↦
          let ds = digits 256 0 4 n in
          let best : IsShortest 256 n ds = digits-shortest 256 4 n (omega arith) (omega arith) (omega arith) in (
            λ e. inr (ge, ds, best, e ∙ length-long n ge),
            λ h. elim h [
              | inl (l, e) ↦ absurd (omega arith)
              | inr (g, es, k, e) ↦ e ∙ ap (λ (xs : List ℕ). (128 + length xs) ∷ xs) (one-shortest 256 n es ds k best) ∙
                  sym (length-long n ge)
            ],
          )
    ]

-- ---- tags

-- digits with their marks, and then one without
marked : (b k n d : ℕ) (rest : List ℕ)
    → continued (digits b 0 k n ++ d ∷ rest) ≡ digits b 128 k n ++ continued (d ∷ rest)
marked b zero n d rest = unfold digits in refl
marked b (suc k) n d rest =
    elim (cases_eq n 0) [
      | inl e ↦ rw (e, digits-zero b 0 (suc k), digits-zero b 128 (suc k)) refl
      | inr ne ↦
          rw (digits-last b 0 k n ne, digits-last b 128 k n ne, append_assoc, append_assoc)
          (marked b k (n / b) (0 + n % b) (d ∷ rest) ∙ ap
          (λ (x : ℕ). digits b 128 k (n / b) ++ (128 + x) ∷ continued (d ∷ rest)) (zero-add (n % b)))
    ]

pub identifier-forms : (t : TagName) (f : Bool) (p : List ℕ) → IsTag t
    → (p ≡ identifier_octets t f) ↔ IsIdentifierForm t f p
identifier-forms t f p legal =
    elim (cases_lt t.number 31) [
      | inl low ↦ (
        λ e. inl (low, e ∙ identifier-low t f low),
        λ h. elim h [ inl (l, e) ↦ e ∙ sym (identifier-low t f low) | inr m ↦ absurd (let ge = m.0 in omega arith) ],
      )
      | inr ge ↦
          let n = t.number in
          let ds = digits 128 0 4 n in
          let below = legal.below in
          let best : IsShortest 128 n ds = digits-shortest 128 4 n (omega arith) (omega arith) (omega arith) in
          let parts : ds ≡ digits 128 0 3 (n / 128) ++ (0 + n % 128) ∷ [] = digits-last 128 0 3 n (λ z. omega arith) in
          let octets : continued ds ≡ digits 128 128 3 (n / 128) ++ (n % 128) ∷ [] = ap continued parts ∙ marked 128 3
          (n / 128) (0 + n % 128) [] ∙ ap (λ (x : ℕ). digits 128 128 3 (n / 128) ++ x ∷ []) (zero-add (n % 128)) in
          let is : lead t f 31 ∷ continued ds ≡ identifier_octets t f = ap (λ (xs : List ℕ). lead t f 31 ∷ xs) octets ∙
          sym (identifier-high t f ge) in (
            λ e. inr (ge, ds, best, e ∙ sym is),
            λ h. elim h [
              | inl (l, e) ↦ absurd (omega arith)
              | inr (g, es, k, e) ↦ e ∙ ap (λ (xs : List ℕ). lead t f 31 ∷ continued xs)
                  (one-shortest 128 n es ds k best) ∙ is
            ],
          )
    ]
