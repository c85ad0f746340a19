-- The contents of the INTEGER of a number, from the number's own octets.
use Rattle.std.proofs.Common.{◌≡◌, ℕ, suc, ◌+◌, ◌*◌, ◌^◌, ◌<◌, ◌≤◌, inl, inr, Bool, true, false, cond, nat_lt, List, []}
use Rattle.std.proofs.Common.{◌∷◌, length, get_or, arith, ap, refl}
use Rattle.std.proofs.Math.Nat.{pow-le-pow_right, mul-le-mul_right}
use Rattle.std.proofs.lemmas.Bool.{cases_order, ltb-false, lt-ltb, le-ltb}
use borrow.Author.Tests.{ltb-true}
use Rattle.rpki_der.specs.Number.{number_of, AreOctets}
use Rattle.rpki_der.specs.NumberLaws.{number-lt}
use Rattle.rpki_der.specs.Integer.{IsUnsigned, IsMagnitude, unsigned_contents}
use Rattle.rpki_der.proofs.IntegerLaws.{without-zero, following-zero}

-- what is written is the INTEGER of the number
pub unsigned-spelled : (octets : List ℕ) → IsMagnitude octets → IsUnsigned (number_of octets) (unsigned_contents octets)
unsigned-spelled octets m = by_first (nat_lt (get_or octets 0 0) 128) refl where
  by_first : (b : Bool) → nat_lt (get_or octets 0 0) 128 ≡ b
      → IsUnsigned (number_of octets) (cond b octets (0 ∷ octets))
  by_first true e = (without-zero octets m.each m.nonempty (ltb-true (get_or octets 0 0) 128 e) m.no_zero_in_front).0
  by_first false e =
      let some = m.nonempty in
      (following-zero (0 ∷ octets) (omega arith, m.each) (omega arith) refl (ltb-false (get_or octets 0 0) 128 e)).0

-- without a zero in front, and with one
pub unsigned_bare : (octets : List ℕ) → get_or octets 0 0 < 128 → unsigned_contents octets ≡ octets
unsigned_bare octets low = ap (λ (b : Bool). cond b octets (0 ∷ octets)) (lt-ltb (get_or octets 0 0) 128 low)

pub unsigned_after_zero : (octets : List ℕ) → 128 ≤ get_or octets 0 0 → unsigned_contents octets ≡ 0 ∷ octets
unsigned_after_zero octets high = ap (λ (b : Bool). cond b octets (0 ∷ octets)) (le-ltb (get_or octets 0 0) 128 high)

-- with at most one octet more
pub unsigned-at-most : (octets : List ℕ) → length (unsigned_contents octets) ≤ length octets + 1
unsigned-at-most octets = by_first (nat_lt (get_or octets 0 0) 128) where
  by_first : (b : Bool) → length (cond b octets (0 ∷ octets)) ≤ length octets + 1
  by_first true = omega arith
  by_first false = omega arith

-- without a zero in front a number has the fewest octets
number-least : (x : ℕ) (xs : List ℕ) → 0 < x → 256 ^ length xs ≤ number_of (x ∷ xs)
number-least x xs some =
    let le : 1 * 256 ^ length xs ≤ x * 256 ^ length xs = mul-le-mul_right (256 ^ length xs) some in omega arith

power-grows : (i j : ℕ) → i ≤ j → 256 ^ i ≤ 256 ^ j
power-grows i j h = pow-le-pow_right (omega arith) h

pub magnitude-at-most : (u s : List ℕ) → IsMagnitude u → AreOctets s → 0 < length s → number_of u ≡ number_of s
    → length u ≤ length s
magnitude-at-most [] s m o some e = omega arith
magnitude-at-most (x ∷ []) s m o some e = omega arith
magnitude-at-most (x ∷ y ∷ zs) s m o some e =
    elim (cases_order (length s) (suc (suc (length zs)))) [
      | inl same ↦ omega arith
      | inr (inr more) ↦ omega arith
      | inr (inl fewer) ↦
          let small = number-lt s o in
          let large = number-least x (y ∷ zs) (m.no_zero_in_front (omega arith)) in
          let grow = power-grows (length s) (suc (length zs)) (omega arith) in
          absurd (omega arith)
    ]
