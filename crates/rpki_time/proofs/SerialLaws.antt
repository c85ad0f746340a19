-- Numbers below 2 ^ 159, their octets and their contents.
use Rattle.std.proofs.Common.{◌≡◌, ℕ, suc, ◌+◌, ◌-◌, ◌*◌, ◌^◌, ◌<◌, ◌≤◌, ◌⊎◌, inl, inr, List, [], ◌∷◌, length, get_or}
use Rattle.std.proofs.Common.{take, drop, length-drop, add-zero, arith, refl, sym, ap, ◌∙◌, subst}
use Rattle.std.proofs.lemmas.Bool.{cases_order, cases_lt}
use Rattle.std.proofs.lemmas.List.{get_or-drop, take_rest}
use Rattle.std.proofs.Math.Nat.{pow-le-pow_right, mul-le-mul_right}
use borrow.Rule.Slice.PartMut.{mid_of}
use Rattle.rpki_der.specs.Prelude.{number_of, AreOctets, number-lt, WritesNumber, IsUnsigned, IsMinimal, IsMagnitude}
use Rattle.rpki_der.proofs.IntegerLaws.{IsUnsigned-minimal, AreOctets-drop, contents-short}
use Rattle.rpki_time.specs.Serial.{IsLong, IsSerialContents}

power-grows : (i j : ℕ) → i ≤ j → 256 ^ i ≤ 256 ^ j
power-grows i j h = pow-le-pow_right (omega arith) h

-- twenty octets with the first bit 0
below-first : (x : ℕ) (xs : List ℕ) → AreOctets xs → x < 128 → length xs ≤ 19 → number_of (x ∷ xs) < 128 * 256 ^ 19
below-first x xs o h short =
    let le : suc x * 256 ^ length xs ≤ 128 * 256 ^ length xs = mul-le-mul_right (256 ^ length xs) h in
    let grow = power-grows (length xs) 19 short in
    omega (arith, number-lt xs o)

pub below-bound : (xs : List ℕ) → AreOctets xs → length xs ≤ 20 → get_or xs 0 0 < 128 → number_of xs < 2 ^ 159
below-bound [] o short h = omega arith
below-bound (x ∷ xs) o short h =
    let e : 128 * 256 ^ 19 ≡ 2 ^ 159 = refl in
    rw (← e) (below-first x xs o.1 h (omega arith))

-- fewer octets, of any first bit
fewer-below : (xs : List ℕ) → AreOctets xs → length xs ≤ 19 → number_of xs < 2 ^ 159
fewer-below xs o short =
    let e : 128 * 256 ^ 19 ≡ 2 ^ 159 = refl in
    let grow = power-grows (length xs) 19 short in
    rw (← e) (omega (arith, number-lt xs o))

pub twenty-below : (xs : List ℕ) → length xs ≡ 20 → AreOctets xs → get_or xs 0 0 < 128 → number_of xs < 2 ^ 159
twenty-below xs len o h = below-bound xs o (omega arith) h

-- octets without zeros in front that are too long write a number that is too large
long-large : (x : ℕ) (xs : List ℕ) → 128 ≤ x → 19 ≤ length xs → 128 * 256 ^ 19 ≤ number_of (x ∷ xs)
long-large x xs high long =
    let le : 128 * 256 ^ length xs ≤ x * 256 ^ length xs = mul-le-mul_right (256 ^ length xs) high in
    let grow = power-grows 19 (length xs) long in
    omega arith

longer-large : (x : ℕ) (xs : List ℕ) → 0 < x → 20 ≤ length xs → 128 * 256 ^ 19 ≤ number_of (x ∷ xs)
longer-large x xs some long =
    let le : 1 * 256 ^ length xs ≤ x * 256 ^ length xs = mul-le-mul_right (256 ^ length xs) some in
    let grow = power-grows 20 (length xs) long in
    let e : 256 ^ 20 ≡ 256 * 256 ^ 19 = refl in
    omega arith

pub long-above : (xs : List ℕ) → IsMagnitude xs → IsLong xs → 2 ^ 159 ≤ number_of xs
long-above [] m h = absurd (omega (arith, m.nonempty))
long-above (x ∷ xs) m (inl more) =
    let e : 128 * 256 ^ 19 ≡ 2 ^ 159 = refl in
    rw (← e) (longer-large x xs (m.no_zero_in_front (omega arith)) (omega arith))
long-above (x ∷ xs) m (inr (len, high)) =
    let e : 128 * 256 ^ 19 ≡ 2 ^ 159 = refl in
    rw (← e) (long-large x xs high (omega arith))

-- contents of at most 20 octets are those of a number below 2 ^ 159
pub short-below : (n : ℕ) (c : List ℕ) → IsUnsigned n c → length c ≤ 20 → n < 2 ^ 159
short-below n c h short =
    rw (← h.writes.value) (below-bound c h.writes.octets short h.writes.first_bit)

-- contents of a number below 2 ^ 159 are those of a serial number
pub serial-short : (n : ℕ) (c : List ℕ) → IsUnsigned n c → n < 2 ^ 159 → IsSerialContents n c
serial-short n c h small = (h, contents-short n c h small)

-- what the loop over the leading octets stops at
pub kept-IsUnsigned : (n k : ℕ) (xs : List ℕ) → length xs ≡ 20 → AreOctets xs → number_of xs ≡ n → k ≤ 19
    → number_of (drop k xs) ≡ number_of xs → get_or xs k 0 < 128
    → (k < 19 → (0 < get_or xs k 0) ⊎ (128 ≤ get_or xs (k + 1) 0)) → IsUnsigned n (mid_of k (20 - k) xs)
kept-IsUnsigned n k xs len o e le same bit more =
    let left : length (drop k xs) ≡ 20 - k = omega (arith, length-drop k xs) in
    let whole : take (20 - k) (drop k xs) ≡ drop k xs = rw (← len) (take_rest xs k) in
    let first : get_or (drop k xs) 0 0 ≡ get_or xs k 0 = get_or-drop k xs 0 0 ∙ ap (λ i. get_or xs i 0) (add-zero k) in
    let second : get_or (drop k xs) 1 0 ≡ get_or xs (k + 1) 0 = get_or-drop k xs 1 0 in
    let w : WritesNumber n (drop k xs) = record
    { octets = AreOctets-drop k xs o; value = same ∙ e; nonempty = omega arith; first_bit = omega arith } in
    let m : IsMinimal (drop k xs) = record {
      nonempty = omega arith;
      first_bit = omega arith;
      nine_bits = λ long. elim (more (omega arith))
          [ inl some ↦ inl (omega arith) | inr high ↦ inr (omega arith) ];
    } in
    subst (IsUnsigned n) (sym whole) (IsUnsigned-minimal n (drop k xs) w m)

-- octets that are not too long write a number below 2 ^ 159
pub not-long : (xs : List ℕ) → AreOctets xs → (IsLong xs → ⊥) → number_of xs < 2 ^ 159
not-long xs o short = elim (cases_order (length xs) 20) [
  | inl same ↦ elim (cases_lt (get_or xs 0 0) 128) [
    | inl low ↦ below-bound xs o (omega arith) low
    | inr high ↦ absurd (short (inr (same, high)))
  ]
  | inr (inl fewer) ↦ fewer-below xs o (omega arith)
  | inr (inr more) ↦ absurd (short (inl more))
]
