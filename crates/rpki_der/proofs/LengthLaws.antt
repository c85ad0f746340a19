-- A length in digits of base 256.
use Rattle.std.proofs.Common.{◌≡◌, ℕ, zero, suc, ◌+◌, ◌-◌, ◌*◌, ◌/◌, ◌%◌, ◌^◌, ◌<◌, ◌≤◌, ◌⊎◌, List, [], ◌∷◌, ◌++◌}
use Rattle.std.proofs.Common.{length, get_or, take, drop, add-zero, zero-add, Result, Ok, Err, refl, sym, ap, ◌∙◌}
use Rattle.std.proofs.Common.{arith, inl, inr, append_assoc, length-append}
use Rattle.std.proofs.Math.Nat.{pow-zero, pow-suc}
use Rattle.std.proofs.lemmas.Bool.{cases_eq, cases_lt, ne_eqb, eq-eqb, lt-ltb, le-ltb}
use Rattle.std.proofs.lemmas.List.{drop_more, drop_all, take_rest}
use Rattle.std.proofs.lemmas.Nat.{div_below}
use Rattle.rpki_der.specs.declared.error.DecodeError.{DecodeError}
use Rattle.rpki_der.specs.declared.error.DecodeError.TheVariants.{Truncated, BadLength}
use Rattle.rpki_der.specs.Header.{digits, length_octets}
use Rattle.rpki_der.specs.HeaderReading.{octets_at, length_at}
use Rattle.rpki_der.proofs.StepLaws.{IsBytes, IsBytes-rest, IsBytes-cons, pair-is}
use Rattle.rpki_der.proofs.DigitLaws.{digits-zero, digits-last, digits-push, digits-spare, length-digits, some-digits}

octets-done : (n : ℕ) (s : List ℕ) → 128 ≤ n → octets_at 0 n s ≡ Ok (n, s)
unfolding octets_at
octets-done n s ge = rw (le-ltb n 128 ge) refl

octets-small : (n : ℕ) (s : List ℕ) → n < 128 → octets_at 0 n s ≡ Err BadLength
unfolding octets_at
octets-small n s lt = rw (lt-ltb n 128 lt) refl

octets-empty : (k n : ℕ) → octets_at (suc k) n [] ≡ Err Truncated
unfolding octets_at
octets-empty k n = refl

octets-zero : (k n b : ℕ) (s : List ℕ) → n * 256 + b ≡ 0 → octets_at (suc k) n (b ∷ s) ≡ Err BadLength
unfolding octets_at
octets-zero k n b s z = rw (eq-eqb (n * 256 + b) 0 z) refl

octets-more : (k n b : ℕ) (s : List ℕ) → (n * 256 + b ≡ 0 → ⊥)
    → octets_at (suc k) n (b ∷ s) ≡ octets_at k (n * 256 + b) s
unfolding octets_at
octets-more k n b s ne = rw (ne_eqb (n * 256 + b) 0 ne) refl

-- the octets are read
octets-feed : (k q i : ℕ) (s : List ℕ) → q < 256 ^ k
    → octets_at (i + length (digits 256 0 k q)) 0 (digits 256 0 k q ++ s) ≡ octets_at i q s
octets-feed zero q i s lt =
    let e : q ≡ 0 = omega (arith, pow-zero 256) in rw (e, digits-zero 256 0 0, add-zero) refl
octets-feed (suc k) q i s lt =
    elim (cases_eq q 0) [
      | inl e ↦ rw (e, digits-zero 256 0 (suc k), add-zero) refl
      | inr ne ↦
          let below : q / 256 < 256 ^ k = div_below q 256 (256 ^ k) (omega arith) (rw pow-suc at lt) in
          let same : q / 256 * 256 + (0 + q % 256) ≡ q = omega arith in
          let more = octets-more i (q / 256) (0 + q % 256) s (λ z. ne (sym same ∙ z)) in
          let step : octets_at (suc i) (q / 256) ((0 + q % 256) ∷ s) ≡ octets_at i q s = rw same at more in
          let size : i + length (digits 256 0 k (q / 256) ++ (0 + q % 256) ∷ []) ≡ suc i + length
          (digits 256 0 k (q / 256)) = rw length-append (omega arith) in
          rw (digits-last 256 0 k q ne, size, append_assoc)
          (octets-feed k (q / 256) (suc i) ((0 + q % 256) ∷ s) below ∙ step)
    ]

-- what is written is read again, whatever follows
pub octets-again : (n : ℕ) (s : List ℕ) → 128 ≤ n → n < 2 ^ 32
    → octets_at (length (digits 256 0 4 n)) 0 (digits 256 0 4 n ++ s) ≡ Ok (n, s)
octets-again n s ge lt = (rw zero-add at (octets-feed 4 n 0 s lt)) ∙ octets-done n s ge

cube : (i n : ℕ) → i ≤ 3 → n < 256 ^ i → n < 256 ^ 3
cube zero n le lt = omega (arith, pow-zero 256)
cube (suc zero) n le lt = omega arith
cube (suc (suc zero)) n le lt = omega arith
cube (suc (suc (suc zero))) n le lt = lt
cube (suc (suc (suc (suc i)))) n le lt = absurd (omega arith)

fourth : (i n : ℕ) → i ≤ 4 → n < 256 ^ i → n < 2 ^ 32
fourth zero n le lt = omega (arith, pow-zero 256)
fourth (suc zero) n le lt = omega arith
fourth (suc (suc zero)) n le lt = omega arith
fourth (suc (suc (suc zero))) n le lt = omega arith
fourth (suc (suc (suc (suc zero)))) n le lt = omega arith
fourth (suc (suc (suc (suc (suc i))))) n le lt = absurd (omega arith)

more-octet : (i n b : ℕ) → i ≤ 3 → n < 256 ^ i → b < 256 → (n * 256 + b ≡ 0 → ⊥)
    → digits 256 0 4 (n * 256 + b) ≡ digits 256 0 4 n ++ b ∷ []
more-octet i n b le lt byte ne =
    let pushed = digits-push 256 0 3 n b byte ne in
    rw (pushed, zero-add, digits-spare 256 0 3 n (omega arith) (cube i n le lt)) refl

-- octets that were read
pub record AreOctets (n k : ℕ) (p s r : List ℕ) : Type 0 where
  pub octets : p ++ s ≡ digits 256 0 4 n ++ r
  pub count : length (digits 256 0 4 n) ≡ length p + k
  pub low : 128 ≤ n
  pub high : n < 2 ^ 32

-- what is read was written so
pub octets-take : (k i n : ℕ) (s : List ℕ) (m : ℕ) (r : List ℕ) → i + k ≤ 4 → n < 256 ^ i → IsBytes s
    → octets_at k n s ≡ Ok (m, r) → AreOctets m k (digits 256 0 4 n) s r
octets-take zero i n s m r four lt bytes e =
    elim (cases_lt n 128) [
      | inl small ↦ absurd (let h = octets-small n s small in cc)
      | inr ge ↦
          let is = pair-is n m s r (sym (octets-done n s ge) ∙ e) in
          rw (← is.0, ← is.1)
          (record {
            octets = refl;
            count = sym (add-zero (length (digits 256 0 4 n)));
            low = ge;
            high = fourth i n
                (omega arith) lt;
          })
    ]
octets-take (suc k) i n [] m r four lt bytes e = absurd (let h = octets-empty k n in cc)
octets-take (suc k) i n (b ∷ s) m r four lt bytes e =
    elim (cases_eq (n * 256 + b) 0) [
      | inl z ↦ absurd (let h = octets-zero k n b s z in cc)
      | inr ne ↦
          let byte : b < 256 = bytes 0 in
          let next : n * 256 + b < 256 ^ suc i = rw pow-suc (omega arith) in
          let grown = more-octet i n b (omega arith) lt byte ne in
          let h = octets-take k (suc i) (n * 256 + b) s m r (omega arith) next (IsBytes-rest b s bytes)
          (sym (octets-more k n b s ne) ∙ e) in
          let size = ap length grown ∙ length-append (digits 256 0 4 n) (b ∷ []) in
          let count = h.count in
          record {
            octets = sym (append_assoc (digits 256 0 4 n) (b ∷ []) s) ∙ ap (λ (t : List ℕ). t ++ s) (sym grown) ∙
                h.octets;
            count = omega arith;
            low = h.low;
            high = h.high;
          }
    ]

pub octets-stay : (k n : ℕ) (s t : List ℕ) → octets_at k n s ≡ Err BadLength → octets_at k n (s ++ t) ≡ Err BadLength
octets-stay zero n s t e =
    elim (cases_lt n 128) [
      | inl small ↦ octets-small n (s ++ t) small
      | inr ge ↦ absurd (let h = octets-done n s ge in cc)
    ]
octets-stay (suc k) n [] t e = absurd (let h = octets-empty k n in cc)
octets-stay (suc k) n (b ∷ s) t e =
    elim (cases_eq (n * 256 + b) 0) [
      | inl z ↦ octets-zero k n b (s ++ t) z
      | inr ne ↦ octets-more k n b (s ++ t) ne ∙ octets-stay k (n * 256 + b) s t (sym (octets-more k n b s ne) ∙ e)
    ]

-- octets of which some lack: 255 in their place make a length
octets-fill : (k n : ℕ) → 128 ≤ n + 128 * k → (m : ℕ) × (t : List ℕ) × IsBytes t × (octets_at k n t ≡ Ok (m, []))
octets-fill zero n big = (n, [], (λ i. omega arith), octets-done n [] (omega arith))
octets-fill (suc k) n big =
    let h = octets-fill k (n * 256 + 255) (omega arith) in
    (h.0, 255 ∷ h.1, IsBytes-cons 255 h.1 (omega arith) h.2, octets-more k n 255 h.1 (λ z. omega arith) ∙ h.3)

pub octets-complete : (k n : ℕ) (s : List ℕ) → octets_at k n s ≡ Err Truncated
    → (m : ℕ) × (t : List ℕ) × IsBytes t × (octets_at k n (s ++ t) ≡ Ok (m, []))
octets-complete zero n s e =
    elim (cases_lt n 128) [
      | inl small ↦ absurd (let h = octets-small n s small in cc)
      | inr ge ↦ absurd (let h = octets-done n s ge in cc)
    ]
octets-complete (suc k) n [] e = octets-fill (suc k) n (omega arith)
octets-complete (suc k) n (b ∷ s) e =
    elim (cases_eq (n * 256 + b) 0) [
      | inl z ↦ absurd (let h = octets-zero k n b s z in cc)
      | inr ne ↦
          let h = octets-complete k (n * 256 + b) s (sym (octets-more k n b s ne) ∙ e) in
          (h.0, h.1, h.2, octets-more k n b (s ++ h.1) ne ∙ h.3)
    ]

pub octets-errors : (k n : ℕ) (s : List ℕ) (e : DecodeError) → octets_at k n s ≡ Err e
    → (e ≡ Truncated) ⊎ (e ≡ BadLength)
octets-errors zero n s e h =
    elim (cases_lt n 128) [
      | inl small ↦ inr (let g = octets-small n s small in cc)
      | inr ge ↦ absurd (let g = octets-done n s ge in cc)
    ]
octets-errors (suc k) n [] e h = inl (let g = octets-empty k n in cc)
octets-errors (suc k) n (b ∷ s) e h =
    elim (cases_eq (n * 256 + b) 0) [
      | inl z ↦ inr (let g = octets-zero k n b s z in cc)
      | inr ne ↦ octets-errors k (n * 256 + b) s e (sym (octets-more k n b s ne) ∙ h)
    ]

-- ---- the length octets

pub length-empty : length_at [] ≡ Err Truncated
unfolding length_at
length-empty = refl

pub length-short : (b : ℕ) (s : List ℕ) → b < 128 → length_at (b ∷ s) ≡ Ok (b, s)
unfolding length_at
length-short b s lt = rw (lt-ltb b 128 lt) refl

-- neither 0x80 nor more than four octets
pub length-wrong : (b : ℕ) (s : List ℕ) → 128 ≤ b → (b ≡ 128) ⊎ (132 < b) → length_at (b ∷ s) ≡ Err BadLength
unfolding length_at
length-wrong b s ge wrong =
    elim wrong [
      | inl e ↦ rw (le-ltb b 128 ge, eq-eqb b 128 e) refl
      | inr lt ↦ rw (le-ltb b 128 ge, ne_eqb b 128 (λ z. omega arith), lt-ltb 132 b lt) refl
    ]

pub length-long : (b : ℕ) (s : List ℕ) → 128 < b → b ≤ 132 → length_at (b ∷ s) ≡ octets_at (b - 128) 0 s
unfolding length_at
length-long b s lt le = rw (le-ltb b 128 (omega arith), ne_eqb b 128 (λ z. omega arith), le-ltb 132 b le) refl

-- the three kinds of a first octet
length-cases : (b : ℕ) → (b < 128) ⊎ (((128 < b) × (b ≤ 132)) ⊎ ((128 ≤ b) × ((b ≡ 128) ⊎ (132 < b))))
length-cases b =
    elim (cases_lt b 128) [
      | inl lt ↦ inl lt
      | inr ge ↦
          elim (cases_eq b 128) [
            | inl e ↦ inr (inr (ge, inl e))
            | inr ne ↦ elim (cases_lt 132 b) [ inl lt ↦ inr (inr (ge, inr lt)) | inr le ↦ inr (inl (omega arith, le)) ]
          ]
    ]

pub len-short : (n : ℕ) → n < 128 → length_octets n ≡ n ∷ []
unfolding length_octets
len-short n lt = rw (lt-ltb n 128 lt) refl

pub len-long : (n : ℕ) → 128 ≤ n → length_octets n ≡ (128 + length (digits 256 0 4 n)) ∷ digits 256 0 4 n
unfolding length_octets
len-long n ge = rw (le-ltb n 128 ge) refl

-- what is written is read again, whatever follows
pub length-again : (n : ℕ) (s : List ℕ) → n < 2 ^ 32 → length_at (length_octets n ++ s) ≡ Ok (n, s)
length-again n s lt =
    elim (cases_lt n 128) [
      | inl short ↦ rw (len-short n short) (length-short n s short)
      | inr ge ↦
          let l = length (digits 256 0 4 n) in
          let room : l ≤ 4 = length-digits 256 0 4 n in
          let some : 0 < l = some-digits 256 0 3 n (omega arith) in
          let count : 128 + l - 128 ≡ 0 + l = omega arith in
          rw (len-long n ge, length-long (128 + l) (digits 256 0 4 n ++ s) (omega arith) (omega arith), count)
          (octets-feed 4 n 0 s lt ∙ octets-done n s ge)
    ]

-- a length that was read
pub record IsLength (n : ℕ) (s r : List ℕ) : Type 0 where
  pub octets : s ≡ length_octets n ++ r
  pub high : n < 2 ^ 32

pub length-takes : (s : List ℕ) (n : ℕ) (r : List ℕ) → IsBytes s → length_at s ≡ Ok (n, r) → IsLength n s r
length-takes [] n r bytes e = absurd (let h = length-empty in cc)
length-takes (b ∷ s) n r bytes e =
    elim (length-cases b) [
      | inl lt ↦
          let is = pair-is b n s r (sym (length-short b s lt) ∙ e) in
          rw (← is.0, ← is.1) (record { octets = rw (len-short b lt) refl; high = omega arith })
      | inr (inl long) ↦
          let h = octets-take (b - 128) 0 0 s n r (omega arith) (omega (arith, pow-zero 256)) (IsBytes-rest b s bytes)
          (sym (length-long b s long.0 long.1) ∙ e) in
          let none : digits 256 0 4 0 ≡ [] = digits-zero 256 0 4 in
          let octets : s ≡ digits 256 0 4 n ++ r = rw none at h.octets in
          let count : length (digits 256 0 4 n) ≡ 0 + (b - 128) = rw none at h.count in
          let first : 128 + length (digits 256 0 4 n) ≡ b = omega arith in
          record { octets = rw (len-long n h.low, first) (ap (λ (t : List ℕ). b ∷ t) octets); high = h.high }
      | inr (inr wrong) ↦ absurd (let h = length-wrong b s wrong.0 wrong.1 in cc)
    ]

pub length-stays : (s t : List ℕ) → length_at s ≡ Err BadLength → length_at (s ++ t) ≡ Err BadLength
length-stays [] t e = absurd (let h = length-empty in cc)
length-stays (b ∷ s) t e =
    elim (length-cases b) [
      | inl lt ↦ absurd (let h = length-short b s lt in cc)
      | inr (inl long) ↦ length-long b (s ++ t) long.0 long.1 ∙ octets-stay (b - 128) 0 s t
          (sym (length-long b s long.0 long.1) ∙ e)
      | inr (inr wrong) ↦ length-wrong b (s ++ t) wrong.0 wrong.1
    ]

pub length-completes : (s : List ℕ) → length_at s ≡ Err Truncated
    → (n : ℕ) × (t : List ℕ) × IsBytes t × (length_at (s ++ t) ≡ Ok (n, []))
length-completes [] e = (0, 0 ∷ [], IsBytes-cons 0 [] (omega arith) (λ i. omega arith), length-short 0 [] (omega arith))
length-completes (b ∷ s) e =
    elim (length-cases b) [
      | inl lt ↦ absurd (let h = length-short b s lt in cc)
      | inr (inl long) ↦
          let h = octets-complete (b - 128) 0 s (sym (length-long b s long.0 long.1) ∙ e) in
          (h.0, h.1, h.2, length-long b (s ++ h.1) long.0 long.1 ∙ h.3)
      | inr (inr wrong) ↦ absurd (let h = length-wrong b s wrong.0 wrong.1 in cc)
    ]

pub length-errors : (s : List ℕ) (e : DecodeError) → length_at s ≡ Err e → (e ≡ Truncated) ⊎ (e ≡ BadLength)
length-errors [] e h = inl (let g = length-empty in cc)
length-errors (b ∷ s) e h =
    elim (length-cases b) [
      | inl lt ↦ absurd (let g = length-short b s lt in cc)
      | inr (inl long) ↦ octets-errors (b - 128) 0 s e (sym (length-long b s long.0 long.1) ∙ h)
      | inr (inr wrong) ↦ inr (let g = length-wrong b s wrong.0 wrong.1 in cc)
    ]

-- ---- one turn of a loop over the octets

left-is : (s : List ℕ) (i : ℕ) → i < length s → drop i s ≡ get_or s i 0 ∷ drop (i + 1) s
left-is s i lt = drop_more s i 0 lt

count-is : (k i : ℕ) → i < k → k - i ≡ suc (k - (i + 1))
count-is k i lt = omega arith

pub turn-empty : (k i n : ℕ) (s : List ℕ) → i < k → length s ≤ i → octets_at (k - i) n (drop i s) ≡ Err Truncated
turn-empty k i n s lt le = rw (count-is k i lt, drop_all i s le) (octets-empty (k - (i + 1)) n)

pub turn-zero : (k i n : ℕ) (s : List ℕ) → i < k → i < length s → n * 256 + get_or s i 0 ≡ 0
    → octets_at (k - i) n (drop i s) ≡ Err BadLength
turn-zero k i n s lt at z =
    rw (count-is k i lt, left-is s i at) (octets-zero (k - (i + 1)) n (get_or s i 0) (drop (i + 1) s) z)

pub turn-more : (k i n : ℕ) (s : List ℕ) → i < k → i < length s → (n * 256 + get_or s i 0 ≡ 0 → ⊥)
    → octets_at (k - i) n (drop i s) ≡ octets_at (k - (i + 1)) (n * 256 + get_or s i 0) (drop (i + 1) s)
turn-more k i n s lt at ne =
    rw (count-is k i lt, left-is s i at) (octets-more (k - (i + 1)) n (get_or s i 0) (drop (i + 1) s) ne)

pub turn-small : (k i n : ℕ) (s : List ℕ) → k ≤ i → n < 128 → octets_at (k - i) n s ≡ Err BadLength
turn-small k i n s le small = let z : k - i ≡ 0 = omega arith in rw z (octets-small n s small)

pub turn-done : (k i n : ℕ) (s : List ℕ) → k ≤ i → 128 ≤ n → octets_at (k - i) n s ≡ Ok (n, s)
turn-done k i n s le ge = let z : k - i ≡ 0 = omega arith in rw z (octets-done n s ge)

pub turn-end : (k i n : ℕ) (s : List ℕ) (total : Result (ℕ × List ℕ) DecodeError) → i ≡ k → 128 ≤ n
    → octets_at (k - i) n (drop i s) ≡ total → total ≡ Ok (n, take (length s - k) (drop k s))
turn-end k i n s total end ge e = rw (take_rest s k, ← end) (sym e ∙ turn-done k i n (drop i s) (omega arith) ge)

pub turn-room : (i n d : ℕ) → n < 256 ^ i → d < 256 → n * 256 + d < 256 ^ (i + 1)
turn-room i n d room small = let one : i + 1 ≡ suc i = omega arith in rw (one, pow-suc) (omega arith)

pub before-room : (i n : ℕ) → i < 4 → n < 256 ^ i → n < 256 ^ 3
before-room i n lt room = cube i n (omega arith) room

-- two octets, of which the first isn't zero
pub turn-two : (s : List ℕ) → 2 ≤ length s → (get_or s 0 0 ≡ 0 → ⊥)
    → octets_at 2 0 s ≡ Ok (get_or s 0 0 * 256 + get_or s 1 0, take (length s - 2) (drop 2 s))
turn-two [] le ne = absurd (omega arith)
turn-two (a ∷ []) le ne = absurd (omega arith)
turn-two (a ∷ b ∷ s) le ne =
    let first = octets-more 1 0 a (b ∷ s) (λ z. ne (omega (arith, z))) in
    let second = octets-more 0 (0 * 256 + a) b s (λ z. ne (omega (arith, z))) in
    let all = first ∙ second ∙ octets-done ((0 * 256 + a) * 256 + b) s (omega (arith, ne)) in
    let same : 0 * 256 + a ≡ a = omega arith in
    rw (take_rest (a ∷ b ∷ s) 2) (rw same at all)
