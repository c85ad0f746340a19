-- Contents of an object identifier, read from the left.
use Rattle.std.proofs.Common.{◌≡◌, ◌≢◌, ℕ, zero, suc, ◌+◌, ◌<◌, Bool, true, nat_lt, List, length}
use Rattle.std.proofs.Common.{get_or, IsTrue, arith}
use borrow.Author.Tests.{ltb-true}
use Rattle.rpki_der.specs.Leaves.{IsOid}

-- whether a subidentifier may begin at the place: in front, or after an octet with the top bit clear
abbrev pub begins_at : List ℕ → ℕ → Bool
begins_at s zero = true
begins_at s (suc i) = nat_lt (get_or s i 0) 128

-- no subidentifier that begins before the place begins with 80
pub record IsFine (s : List ℕ) (i : ℕ) : Type 0 where
  pub first : 0 < i → get_or s 0 0 ≢ 128
  pub shortest : (j : ℕ) → j + 1 < i → get_or s j 0 < 128 → get_or s (j + 1) 0 ≢ 128

-- a subidentifier that begins with 80
pub not-fine : (s : List ℕ) (i : ℕ) → IsTrue (begins_at s i) → i < length s → get_or s i 0 ≡ 128 → IsOid s → ⊥
not-fine s zero begins lt is h = h.first is
not-fine s (suc i) begins lt is h =
    let low : get_or s i 0 < 128 = ltb-true (get_or s i 0) 128 begins in
    let next : i + 1 ≡ suc i = omega arith in
    h.shortest i (omega arith) low (rw next is)
