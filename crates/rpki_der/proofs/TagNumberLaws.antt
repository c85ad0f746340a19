-- A tag's number in digits of base 128.
use Rattle.std.proofs.Common.{◌≡◌, ℕ, zero, suc, ◌+◌, ◌-◌, ◌*◌, ◌/◌, ◌%◌, ◌^◌, ◌<◌, ◌≤◌, ◌⊎◌, List, [], ◌∷◌, ◌++◌}
use Rattle.std.proofs.Common.{length, get_or, drop, add-zero, Ok, Err, refl, sym, ap, ◌∙◌, arith, inl, inr}
use Rattle.std.proofs.Common.{append_assoc, length-append}
use Rattle.std.proofs.lemmas.Bool.{cases_eq, cases_lt, ne_eqb, eq-eqb, lt-ltb, le-ltb}
use Rattle.std.proofs.Math.Nat.{pow-zero, pow-suc}
use Rattle.std.proofs.lemmas.List.{drop_more, drop_all}
use Rattle.std.proofs.lemmas.Nat.{div-mul-add, mod-mul-add, div_below}
use Rattle.rpki_der.specs.declared.error.DecodeError.{DecodeError}
use Rattle.rpki_der.specs.declared.error.DecodeError.TheVariants.{Truncated, BadTag}
use Rattle.rpki_der.specs.Header.{digits}
use Rattle.rpki_der.specs.HeaderReading.{number_at}
use Rattle.rpki_der.proofs.StepLaws.{IsBytes, IsBytes-rest, pair-is}
use Rattle.rpki_der.proofs.DigitLaws.{digits-zero, digits-last, digits-push, digits-spare, length-digits}

-- the octets of a number after the first identifier octet
abbrev pub groups : ℕ → List ℕ
groups n = digits 128 128 3 (n / 128) ++ (n % 128) ∷ []

number-none : (n : ℕ) (s : List ℕ) → number_at 0 n s ≡ Err BadTag
unfolding number_at
number-none n s = refl

number-empty : (k n : ℕ) → number_at (suc k) n [] ≡ Err Truncated
unfolding number_at
number-empty k n = refl

-- one octet that ends the number
number-end : (k n b : ℕ) (s : List ℕ) → b < 128 → 31 ≤ n * 128 + b → number_at (suc k) n (b ∷ s) ≡ Ok (n * 128 + b, s)
unfolding number_at
number-end k n b s lt ge = rw (lt-ltb b 128 lt, le-ltb (n * 128 + b) 31 ge) refl

-- one octet that goes on
number-more : (k n b : ℕ) (s : List ℕ) → 128 ≤ b → (n * 128 + (b - 128) ≡ 0 → ⊥)
    → number_at (suc k) n (b ∷ s) ≡ number_at k (n * 128 + (b - 128)) s
unfolding number_at
number-more k n b s ge ne = rw (le-ltb b 128 ge, ne_eqb (n * 128 + (b - 128)) 0 ne) refl

number-small : (k n b : ℕ) (s : List ℕ) → b < 128 → n * 128 + b < 31 → number_at (suc k) n (b ∷ s) ≡ Err BadTag
unfolding number_at
number-small k n b s lt ge = rw (lt-ltb b 128 lt, lt-ltb (n * 128 + b) 31 ge) refl

number-long : (k n b : ℕ) (s : List ℕ) → 128 ≤ b → n * 128 + (b - 128) ≡ 0 → number_at (suc k) n (b ∷ s) ≡ Err BadTag
unfolding number_at
number-long k n b s ge eq = rw (le-ltb b 128 ge, eq-eqb (n * 128 + (b - 128)) 0 eq) refl

-- the digits before are read
number-feed : (k q i : ℕ) (s : List ℕ) → q < 128 ^ k
    → number_at (i + length (digits 128 128 k q)) 0 (digits 128 128 k q ++ s) ≡ number_at i q s
number-feed zero q i s lt =
    let e : q ≡ 0 = omega (arith, pow-zero 128) in rw (e, digits-zero 128 128 0, add-zero) refl
number-feed (suc k) q i s lt =
    elim (cases_eq q 0) [
      | inl e ↦ rw (e, digits-zero 128 128 (suc k), add-zero) refl
      | inr ne ↦
          let below : q / 128 < 128 ^ k = div_below q 128 (128 ^ k) (omega arith) (rw pow-suc at lt) in
          let same : q / 128 * 128 + (128 + q % 128 - 128) ≡ q = omega arith in
          let more = number-more i (q / 128) (128 + q % 128) s (omega arith) (λ z. ne (sym same ∙ z)) in
          let step : number_at (suc i) (q / 128) ((128 + q % 128) ∷ s) ≡ number_at i q s = rw same at more in
          let size : i + length (digits 128 128 k (q / 128) ++ (128 + q % 128) ∷ []) ≡ suc i + length
          (digits 128 128 k (q / 128)) = rw length-append (omega arith) in
          rw (digits-last 128 128 k q ne, size, append_assoc)
          (number-feed k (q / 128) (suc i) ((128 + q % 128) ∷ s) below ∙ step)
    ]

-- what is written is read again, whatever follows
pub number-again : (n : ℕ) (s : List ℕ) → 31 ≤ n → n < 2 ^ 28 → number_at 4 0 (groups n ++ s) ≡ Ok (n, s)
number-again n s ge lt =
    let room = length-digits 128 128 3 (n / 128) in
    let l = length (digits 128 128 3 (n / 128)) in
    let four : 4 ≡ suc (3 - l) + l = omega arith in
    let same : n / 128 * 128 + n % 128 ≡ n = omega arith in
    let last = number-end (3 - l) (n / 128) (n % 128) s (omega arith) (rw same ge) in
    let fed = number-feed 3 (n / 128) (suc (3 - l)) ((n % 128) ∷ s) (omega arith) in
    rw append_assoc (rw (← four) at fed ∙ (rw same at last))

-- the remaining room for digits
square : (i n : ℕ) → i ≤ 2 → n < 128 ^ i → n < 128 ^ 2
square zero n le lt = omega (arith, pow-zero 128)
square (suc zero) n le lt = omega arith
square (suc (suc zero)) n le lt = lt
square (suc (suc (suc i))) n le lt = absurd (omega arith)

cube : (i n : ℕ) → i ≤ 3 → n < 128 ^ i → n < 128 ^ 3
cube zero n le lt = omega (arith, pow-zero 128)
cube (suc zero) n le lt = omega arith
cube (suc (suc zero)) n le lt = omega arith
cube (suc (suc (suc zero))) n le lt = lt
cube (suc (suc (suc (suc i)))) n le lt = absurd (omega arith)

-- a digit more, with three places
pub more-digit : (i n b : ℕ) → i ≤ 2 → n < 128 ^ i → 128 ≤ b → b < 256 → (n * 128 + (b - 128) ≡ 0 → ⊥)
    → digits 128 128 3 (n * 128 + (b - 128)) ≡ digits 128 128 3 n ++ b ∷ []
more-digit i n b le lt ge byte ne =
    let same : 128 + (b - 128) ≡ b = omega arith in
    let pushed = digits-push 128 128 2 n (b - 128) (omega arith) ne in
    rw (pushed, same, digits-spare 128 128 2 n (omega arith) (square i n le lt)) refl

-- a number that was read
pub record IsNumber (n : ℕ) (p s r : List ℕ) : Type 0 where
  pub octets : p ++ s ≡ groups n ++ r
  pub low : 31 ≤ n
  pub high : n < 2 ^ 28

-- the octet that ends a number
ends-so : (k n b : ℕ) (s : List ℕ) (m : ℕ) (r : List ℕ) → b < 128 → n < 128 ^ 3
    → number_at (suc k) n (b ∷ s) ≡ Ok (m, r) → IsNumber m (digits 128 128 3 n) (b ∷ s) r
ends-so k n b s m r lt room e =
    elim (cases_lt (n * 128 + b) 31) [
      | inl small ↦ absurd (let h = sym (number-small k n b s lt small) ∙ e in cc)
      | inr ge ↦
          let is = pair-is (n * 128 + b) m s r (sym (number-end k n b s lt ge) ∙ e) in
          let high : n * 128 + b < 2 ^ 28 = omega arith in
          let octets : digits 128 128 3 n ++ b ∷ s ≡ groups (n * 128 + b) ++ s =
          rw (div-mul-add n 128 b lt, mod-mul-add n 128 b lt, append_assoc) refl in
          rw (← is.0, ← is.1) (record { octets = octets; low = ge; high = high })
    ]

-- the octets of a number that goes on
moves-on : (n m b : ℕ) (q s r : List ℕ) → q ≡ digits 128 128 3 n ++ b ∷ [] → IsNumber m q s r
    → IsNumber m (digits 128 128 3 n) (b ∷ s) r
moves-on n m b q s r e h = record {
  octets = sym (append_assoc (digits 128 128 3 n) (b ∷ []) s) ∙ ap
      (λ (t : List ℕ). t ++ s) (sym e) ∙ h.octets;
  low = h.low;
  high = h.high;
}

-- what is read was written so
pub number-takes : (k i n : ℕ) (s : List ℕ) (m : ℕ) (r : List ℕ) → i + k ≡ 4 → n < 128 ^ i → IsBytes s
    → number_at k n s ≡ Ok (m, r) → IsNumber m (digits 128 128 3 n) s r
number-takes zero i n s m r four lt bytes e = absurd (let h : number_at 0 n s ≡ Err BadTag = number-none n s in cc)
number-takes (suc k) i n [] m r four lt bytes e = absurd (let h = number-empty k n in cc)
number-takes (suc zero) i n (b ∷ s) m r four lt bytes e =
    elim (cases_lt b 128) [
      | inl low ↦ ends-so 0 n b s m r low (cube i n (omega arith) lt) e
      | inr ge ↦
          elim (cases_eq (n * 128 + (b - 128)) 0) [
            | inl z ↦ absurd (let h = number-long 0 n b s ge z in cc)
            | inr ne ↦ absurd (let h = number-more 0 n b s ge ne in let h' = number-none (n * 128 + (b - 128)) s in cc)
          ]
    ]
number-takes (suc (suc k)) i n (b ∷ s) m r four lt bytes e =
    elim (cases_lt b 128) [
      | inl low ↦ ends-so (suc k) n b s m r low (cube i n (omega arith) lt) e
      | inr ge ↦
          elim (cases_eq (n * 128 + (b - 128)) 0) [
            | inl z ↦ absurd (let h = number-long (suc k) n b s ge z in cc)
            | inr ne ↦
                let byte : b < 256 = bytes 0 in
                let next : n * 128 + (b - 128) < 128 ^ suc i = rw pow-suc (omega arith) in
                moves-on n m b _ s r (more-digit i n b (omega arith) lt ge byte ne)
                (number-takes (suc k) (suc i) (n * 128 + (b - 128)) s m r (omega arith) next (IsBytes-rest b s bytes)
                (sym (number-more (suc k) n b s ge ne) ∙ e))
          ]
    ]

-- a bad number stays bad
pub number-stays : (k n : ℕ) (s t : List ℕ) → number_at k n s ≡ Err BadTag → number_at k n (s ++ t) ≡ Err BadTag
number-stays zero n s t e = number-none n (s ++ t)
number-stays (suc k) n [] t e = absurd (let h = number-empty k n in cc)
number-stays (suc k) n (b ∷ s) t e =
    elim (cases_lt b 128) [
      | inl low ↦
          elim (cases_lt (n * 128 + b) 31) [
            | inl small ↦ number-small k n b (s ++ t) low small
            | inr ge ↦ absurd (let h = number-end k n b s low ge in cc)
          ]
      | inr ge ↦
          elim (cases_eq (n * 128 + (b - 128)) 0) [
            | inl z ↦ number-long k n b (s ++ t) ge z
            | inr ne ↦ number-more k n b (s ++ t) ge ne ∙ number-stays k (n * 128 + (b - 128)) s t
                (sym (number-more k n b s ge ne) ∙ e)
          ]
    ]

-- a number that isn't all there goes on to one that is
pub number-completes : (k n : ℕ) (s : List ℕ) → number_at k n s ≡ Err Truncated
    → (m : ℕ) × (number_at k n (s ++ 127 ∷ []) ≡ Ok (m, []))
number-completes zero n s e = absurd (let h = number-none n s in cc)
number-completes (suc k) n [] e = (n * 128 + 127, number-end k n 127 [] (omega arith) (omega arith))
number-completes (suc k) n (b ∷ s) e =
    elim (cases_lt b 128) [
      | inl low ↦
          elim (cases_lt (n * 128 + b) 31) [
            | inl small ↦ absurd (let h = number-small k n b s low small in cc)
            | inr ge ↦ absurd (let h = number-end k n b s low ge in cc)
          ]
      | inr ge ↦
          elim (cases_eq (n * 128 + (b - 128)) 0) [
            | inl z ↦ absurd (let h = number-long k n b s ge z in cc)
            | inr ne ↦
                let h = number-completes k (n * 128 + (b - 128)) s (sym (number-more k n b s ge ne) ∙ e) in
                (h.0, number-more k n b (s ++ 127 ∷ []) ge ne ∙ h.1)
          ]
    ]

-- no other faults
pub number-errors : (k n : ℕ) (s : List ℕ) (e : DecodeError) → number_at k n s ≡ Err e → (e ≡ Truncated) ⊎ (e ≡ BadTag)
number-errors zero n s e h = inr (let g = number-none n s in cc)
number-errors (suc k) n [] e h = inl (let g = number-empty k n in cc)
number-errors (suc k) n (b ∷ s) e h =
    elim (cases_lt b 128) [
      | inl low ↦
          elim (cases_lt (n * 128 + b) 31) [
            | inl small ↦ inr (let g = number-small k n b s low small in cc)
            | inr ge ↦ absurd (let g = number-end k n b s low ge in cc)
          ]
      | inr ge ↦
          elim (cases_eq (n * 128 + (b - 128)) 0) [
            | inl z ↦ inr (let g = number-long k n b s ge z in cc)
            | inr ne ↦ number-errors k (n * 128 + (b - 128)) s e (sym (number-more k n b s ge ne) ∙ h)
          ]
    ]

-- ---- one turn of a loop over the octets

room-is : (i : ℕ) → i < 4 → 4 - i ≡ suc (4 - (i + 1))
room-is i lt = omega arith

left-is : (s : List ℕ) (i : ℕ) → i < length s → drop i s ≡ get_or s i 0 ∷ drop (i + 1) s
left-is s i lt = drop_more s i 0 lt

pub turn-empty : (i n : ℕ) (s : List ℕ) → i < 4 → length s ≤ i → number_at (4 - i) n (drop i s) ≡ Err Truncated
turn-empty i n s lt le = rw (room-is i lt, drop_all i s le) (number-empty (4 - (i + 1)) n)

pub turn-small : (i n : ℕ) (s : List ℕ) → i < 4 → i < length s → get_or s i 0 < 128 → n * 128 + get_or s i 0 % 128 < 31
    → number_at (4 - i) n (drop i s) ≡ Err BadTag
turn-small i n s lt at low small =
    rw (room-is i lt, left-is s i at) (number-small (4 - (i + 1)) n (get_or s i 0) (drop (i + 1) s) low (omega arith))

pub turn-end : (i n : ℕ) (s : List ℕ) → i < 4 → i < length s → get_or s i 0 < 128 → 31 ≤ n * 128 + get_or s i 0 % 128
    → number_at (4 - i) n (drop i s) ≡ Ok (n * 128 + get_or s i 0 % 128, drop (i + 1) s)
turn-end i n s lt at low ge =
    let same : n * 128 + get_or s i 0 % 128 ≡ n * 128 + get_or s i 0 = omega arith in
    rw (room-is i lt, left-is s i at, same)
    (number-end (4 - (i + 1)) n (get_or s i 0) (drop (i + 1) s) low (omega arith))

pub turn-long : (i n : ℕ) (s : List ℕ) → i < 4 → i < length s → 128 ≤ get_or s i 0 → get_or s i 0 < 256
    → n * 128 + get_or s i 0 % 128 ≡ 0 → number_at (4 - i) n (drop i s) ≡ Err BadTag
turn-long i n s lt at high byte z =
    rw (room-is i lt, left-is s i at) (number-long (4 - (i + 1)) n (get_or s i 0) (drop (i + 1) s) high (omega arith))

pub turn-more : (i n : ℕ) (s : List ℕ) → i < 4 → i < length s → 128 ≤ get_or s i 0 → get_or s i 0 < 256
    → (n * 128 + get_or s i 0 % 128 ≡ 0 → ⊥)
    → number_at (4 - i) n (drop i s) ≡ number_at (4 - (i + 1)) (n * 128 + get_or s i 0 % 128) (drop (i + 1) s)
turn-more i n s lt at high byte ne =
    let same : n * 128 + get_or s i 0 % 128 ≡ n * 128 + (get_or s i 0 - 128) = omega arith in
    rw (room-is i lt, left-is s i at, same)
    (number-more (4 - (i + 1)) n (get_or s i 0) (drop (i + 1) s) high (λ z. ne (same ∙ z)))

pub turn-done : (i n : ℕ) (s : List ℕ) → 4 ≤ i → number_at (4 - i) n s ≡ Err BadTag
turn-done i n s le = let z : 4 - i ≡ 0 = omega arith in rw z (number-none n s)

-- the number stays small
pub turn-room : (i n d : ℕ) → i < 4 → n < 128 ^ i → d < 128 → n * 128 + d < 128 ^ (i + 1)
turn-room i n d lt room small = let one : i + 1 ≡ suc i = omega arith in rw (one, pow-suc) (omega arith)
