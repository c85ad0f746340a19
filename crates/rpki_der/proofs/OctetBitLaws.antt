-- The bits of an octet that headers use.
use Rattle.std.proofs.Common.{◌≡◌, ◌≢◌, ◌<◌, ◌≤◌, ◌-◌, ℕ, refl, arith, inl, inr}
use Rattle.std.specs.Int.Bits.{bit_and}
use Rattle.std.proofs.lemmas.Bool.{cases_lt}
use Rattle.std.proofs.lemmas.Nat.{and_mask}
use Rattle.std.proofs.lemmas.Grind.{and_high_numeral}

-- the top bit is clear
pub top-clear : (n : ℕ) → n < 256 → bit_and n 128 ≡ 0 → n < 128
top-clear n lt clear = omega (arith, clear, and_high_numeral n 127 refl lt)

-- the top bit is set
pub top-set : (n : ℕ) → n < 256 → bit_and n 128 ≢ 0 → 128 ≤ n
top-set n lt set = elim (cases_lt n 128) [
  | inl small ↦ absurd (set (omega (arith, small, and_high_numeral n 127 refl lt)))
  | inr big ↦ big
]

-- the bits below the top one, where that is set
pub below-top : (n : ℕ) → n < 256 → 128 ≤ n → bit_and n 127 ≡ n - 128
below-top n lt ge = rw (and_mask n 7) (omega arith)
