-- The last octets of a number: how many they are, the number that they write, and the INTEGER of a small one.
use Rattle.std.proofs.Common.{◌≡◌, ◌≤◌, ◌<◌, ◌⊎◌, ◌+◌, ◌-◌, ◌*◌, ◌/◌, ◌%◌, ◌^◌, inl, inr, ℕ, zero, suc, Bool, true}
use Rattle.std.proofs.Common.{false, nat_lt, cond, List, ◌∷◌, length, take, drop, get_or, slice_index, refl, sym, ap}
use Rattle.std.proofs.Common.{◌∙◌, arith}
use Rattle.std.specs.Int.{bytes_high_first}
use Rattle.std.proofs.Math.Arith.{mod-mul}
use Rattle.std.proofs.Math.Nat.{pow-le-pow_right, mod-eq_of_lt, div-lt_iff_lt-mul}
use Rattle.std.proofs.lemmas.Nat.{le-div}
use Rattle.std.proofs.lemmas.Bool.{ltb-false, cases_lt}
use Rattle.std.proofs.lemmas.List.{take_all}
use borrow.Author.Tests.{ltb-true}
use Rattle.rpki_der.specs.Number.{number_of, AreOctets, low_octets}
use Rattle.rpki_der.specs.NumberLaws.{power}
use Rattle.rpki_der.specs.Integer.{WritesNumber, IsUnsigned}
use Rattle.rpki_der.proofs.IntegerLaws.{IsUnsigned-minimal}
use Rattle.rpki_resources.specs.Encoded.{as_contents}

pub octets-length : (k n : ℕ) → length (low_octets k n) ≡ k
unfolding low_octets
octets-length zero n = refl
octets-length (suc k) n = ap suc (octets-length k n)

pub are-octets : (k n : ℕ) → AreOctets (low_octets k n)
unfolding low_octets
are-octets zero n = tt
are-octets (suc k) n = (omega arith, are-octets k n)

some-power : (k : ℕ) → 0 < 256 ^ k
some-power k =
    let none : 0 ≤ k = omega arith in
    let grow : 256 ^ 0 ≤ 256 ^ k = pow-le-pow_right (omega arith) none in
    omega arith

number-rest : (k n : ℕ) → number_of (low_octets k n) ≡ n % 256 ^ k
unfolding low_octets
number-rest zero n = omega arith
number-rest (suc k) n =
    let split : n % (256 * 256 ^ k) ≡ (n / 256 ^ k % 256) * 256 ^ k + n % 256 ^ k =
    mod-mul n {m = 256} {c = 256 ^ k} (omega arith) (some-power k) in
    rw (octets-length k n, number-rest k n, power k) (sym split)

-- they write the number where it has no more
pub number-written : (k n : ℕ) → n < 256 ^ k → number_of (low_octets k n) ≡ n
number-written k n small = number-rest k n ∙ mod-eq_of_lt small

high-first : (k n : ℕ) → bytes_high_first k n ≡ low_octets k n
unfolding low_octets
high-first zero n = refl
high-first (suc zero) n =
    let one : n / 256 ^ 0 ≡ n = omega arith in
    rw one refl
high-first (suc (suc k)) n = ap (λ (w : List ℕ). (n / 256 ^ suc k % 256) ∷ w) (high-first (suc k) n)

dropped : (j k n : ℕ) → drop j (low_octets (j + k) n) ≡ low_octets k n
unfolding low_octets
dropped zero k n = let e : 0 + k ≡ k = omega arith in rw e refl
dropped (suc j) k n = let e : suc j + k ≡ suc (j + k) = omega arith in rw e (dropped j k n)

-- the last of sixteen
pub last-octets : (k n : ℕ) (xs : List ℕ) → k ≤ 16 → xs ≡ bytes_high_first 16 n
    → take (16 - (16 - k)) (drop (16 - k) xs) ≡ low_octets k n
last-octets k n xs few is =
    let whole : 16 - k + k ≡ 16 = omega arith in
    let parts : drop (16 - k) xs ≡ low_octets k n =
    ap (drop (16 - k)) (is ∙ high-first 16 n ∙ ap (λ (m : ℕ). low_octets m n) (sym whole)) ∙ dropped (16 - k) k n in
    ap (take (16 - (16 - k))) parts ∙ take_all (16 - (16 - k)) (low_octets k n) (omega (arith, octets-length k n))

pub last-octet : (k n : ℕ) → get_or (low_octets (suc k) n) k 0 ≡ n % 256
unfolding low_octets
last-octet zero n = let one : n / 256 ^ 0 ≡ n = omega arith in rw one refl
last-octet (suc k) n = last-octet k n

-- ---- the INTEGER of a number

first-below : (k n m : ℕ) → n < m * 256 ^ k → n / 256 ^ k < m
first-below k n m h = (div-lt_iff_lt-mul (some-power k)).1 h

first-octet : (k n : ℕ) → n < 128 * 256 ^ k → slice_index (low_octets (suc k) n) 0 < 128
unfolding low_octets
first-octet k n small = let low = first-below k n 128 small in omega (arith, low)

number-writes : (k n : ℕ) → n < 128 * 256 ^ k → WritesNumber n (low_octets (suc k) n)
number-writes k n small =
    let more = power k in
    let size = octets-length (suc k) n in
    record {
      octets = are-octets (suc k) n;
      value = number-written (suc k) n (omega (arith, more, small));
      nonempty = omega (arith, size);
      first_bit = first-octet k n small;
    }

nine-bits : (j n : ℕ) → n < 128 * 256 ^ suc j → 128 * 256 ^ j ≤ n
    → (0 < slice_index (low_octets (suc (suc j)) n) 0) ⊎ (128 ≤ slice_index (low_octets (suc (suc j)) n) 1)
unfolding low_octets
nine-bits j n small large =
    let first : n / 256 ^ suc j < 128 = first-below (suc j) n 128 small in
    let second : 128 ≤ n / 256 ^ j = le-div 128 n (256 ^ j) (some-power j) large in
    let more = power j in
    elim (cases_lt n (256 ^ suc j)) [
      | inl few ↦ let below : n / 256 ^ j < 256 = first-below j n 256 (omega (arith, few, more)) in inr
          (omega (arith, below, second))
      | inr many ↦ let some : 1 ≤ n / 256 ^ suc j = le-div 1 n (256 ^ suc j) (some-power (suc j))
          (omega (arith, many)) in inl (omega (arith, some, first))
    ]

-- the fewest octets that hold a number with the first bit 0 are its contents
unsigned-one : (n : ℕ) → n < 128 → IsUnsigned n (low_octets 1 n)
unsigned-one n small =
    let w = number-writes 0 n (omega arith) in
    let size = octets-length 1 n in
    IsUnsigned-minimal n (low_octets 1 n) w
    (record {
      nonempty = w.nonempty;
      first_bit = w.first_bit;
      nine_bits = λ long. absurd
          (omega (arith, size, long));
    })

unsigned-more : (j n : ℕ) → n < 128 * 256 ^ suc j → 128 * 256 ^ j ≤ n → IsUnsigned n (low_octets (suc (suc j)) n)
unsigned-more j n small large =
    let w = number-writes (suc j) n small in
    IsUnsigned-minimal n (low_octets (suc (suc j)) n) w
    (record { nonempty = w.nonempty; first_bit = w.first_bit; nine_bits = λ long. nine-bits j n small large })

pub as-unsigned : (n : ℕ) → n < 2 ^ 32 → IsUnsigned n (as_contents n)
as-unsigned n small = by_size (nat_lt n 128) refl (nat_lt n 32768) refl (nat_lt n 8388608) refl
    (nat_lt n 2147483648) refl where
      by_size : (a : Bool) → nat_lt n 128 ≡ a → (b : Bool) → nat_lt n 32768 ≡ b → (c : Bool) → nat_lt n 8388608 ≡ c
          → (d : Bool) → nat_lt n 2147483648 ≡ d
          → IsUnsigned n (low_octets (cond a 1 (cond b 2 (cond c 3 (cond d 4 5)))) n)
      by_size true e b f c g d h = unsigned-one n (ltb-true n 128 e)
      by_size false e true f c g d h = unsigned-more 0 n (omega (arith, ltb-true n 32768 f))
          (omega (arith, ltb-false n 128 e))
      by_size false e false f true g d h = unsigned-more 1 n (omega (arith, ltb-true n 8388608 g))
          (omega (arith, ltb-false n 32768 f))
      by_size false e false f false g true h = unsigned-more 2 n (omega (arith, ltb-true n 2147483648 h))
          (omega (arith, ltb-false n 8388608 g))
      by_size false e false f false g false h = unsigned-more 3 n (omega (arith, small))
          (omega (arith, ltb-false n 2147483648 h))
