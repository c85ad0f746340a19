-- Lemmas: octets that write a number.
use Rattle.std.specs.Prelude.{◌≡◌, ℕ, suc, ◌+◌, ◌*◌, ◌/◌, ◌%◌, ◌^◌, ◌<◌, ◌≤◌, List, [], ◌∷◌, length}
use Rattle.std.proofs.Common.{arith, refl}
use Rattle.std.proofs.Math.Nat.{pow-suc, mul-le-mul_right}
use Rattle.std.proofs.lemmas.Nat.{div-mul-add}
use Rattle.rpki_der.specs.Number.{number_of, AreOctets, low_octets}

pub power : (k : ℕ) → 256 ^ suc k ≡ 256 * 256 ^ k
power k = omega (arith, pow-suc 256 k)

head-below : (x p r : ℕ) → x < 256 → r < p → x * p + r < 256 * p
head-below x p r h k =
    let le : suc x * p ≤ 256 * p = mul-le-mul_right p h in
    omega arith

pub number-lt : (xs : List ℕ) → AreOctets xs → number_of xs < 256 ^ length xs
number-lt [] o = omega arith
number-lt (x ∷ xs) o =
    rw (power (length xs)) (head-below x (256 ^ length xs) (number_of xs) o.0 (number-lt xs o.1))

first-octet : (m p x r : ℕ) → x < 256 → r < p → (m * (256 * p) + (x * p + r)) / p % 256 ≡ x
first-octet m p x r h k =
    let e : m * (256 * p) + (x * p + r) ≡ (m * 256 + x) * p + r = omega arith in
    rw (e, div-mul-add (m * 256 + x) p r k) (omega arith)

pub low_octets-num : (xs : List ℕ) (m : ℕ) → AreOctets xs
    → low_octets (length xs) (m * 256 ^ length xs + number_of xs) ≡ xs
unfolding low_octets
low_octets-num [] m o = refl
low_octets-num (x ∷ xs) m o =
    let p = 256 ^ length xs in
    let e : m * (256 * p) + (x * p + number_of xs) ≡ (m * 256 + x) * p + number_of xs = omega arith in
    rw (
      power (length xs),
      first-octet m p x (number_of xs) o.0 (number-lt xs o.1),
      e,
      low_octets-num xs
          (m * 256 + x) o.1,
    )

pub low_octets-full : (xs : List ℕ) (k : ℕ) → length xs ≡ k → AreOctets xs → low_octets k (number_of xs) ≡ xs
low_octets-full xs k e o =
    let none : number_of xs ≡ 0 * 256 ^ length xs + number_of xs = omega arith in
    rw (← e, none, low_octets-num xs 0 o)
