-- What remains after a cursor.
use Rattle.std.proofs.Common.{◌≡◌, ◌↔◌, IsTrue, Bool, true, false, ℕ, ◌+◌, ◌-◌, ◌≤◌, List, [], ◌++◌, length, take, drop}
use Rattle.std.proofs.Common.{refl, sym, ap, ◌∙◌, arith, length-append}
use Rattle.std.specs.Prelude.{slice_range}
use Rattle.std.proofs.lemmas.List.{take-take, take_rest, drop_at, drop-take, drop-drop, length-take, length-drop}

pub length-cut : (s : List ℕ) (i j : ℕ) → i ≤ j → j ≤ length s → length (slice_range s i j) ≡ j - i
length-cut s i j le in_s = omega (arith, length-take (j - i) (drop i s), length-drop i s)

-- the whole
pub whole-cut : (s : List ℕ) (n : ℕ) → n ≡ length s → slice_range s 0 n ≡ s
whole-cut s n e = rw e (take_rest s 0)

-- what follows a front of a cut
pub following-cut : (s : List ℕ) (i j : ℕ) (front rest : List ℕ) → i ≤ j → j ≤ length s
    → slice_range s i j ≡ front ++ rest → slice_range s (j - length rest) j ≡ rest
following-cut s i j front rest le in_s e =
    let size = length-cut s i j le in_s in
    let parts = ap length e ∙ length-append front rest in
    let start : j - length rest ≡ i + length front = omega arith in
    let room : j - (i + length front) ≡ length rest = omega arith in
    let both : j - i ≡ length front + length rest = omega arith in
    let cut : take (length front + length rest) (drop i s) ≡ front ++ rest = rw (← both) e in
    let dropped : drop (length front) (take (length front + length rest) (drop i s)) ≡ rest = rw cut
    (drop_at front rest (length front) refl) in
    let moved : take (length rest) (drop (length front) (drop i s)) ≡ rest = rw (drop-take) at dropped in
    rw (start, room) (rw drop-drop at moved)

-- nothing remains exactly where the places are one
pub empty-cut : (s : List ℕ) (i j : ℕ) → i ≡ j → slice_range s i j ≡ []
empty-cut s i j e = let z : j - i ≡ 0 = omega arith in rw z refl

pub places-met : (s : List ℕ) (i j : ℕ) → i ≤ j → j ≤ length s → slice_range s i j ≡ [] → i ≡ j
places-met s i j le in_s e = let size = length-cut s i j le in_s in let none = ap length e in omega arith

pub ruleset cuts = (whole-cut, empty-cut, places-met, length-cut)

-- a rest is no longer than the cut, and ends within it
pub rest-fits : (s : List ℕ) (i j : ℕ) (front rest : List ℕ) → i ≤ j → j ≤ length s → slice_range s i j ≡ front ++ rest
    → (length rest ≤ j) × (i ≤ j - length rest)
rest-fits s i j front rest le in_s e =
    let size = length-cut s i j le in_s in
    let parts = ap length e ∙ length-append front rest in
    (omega arith, omega arith)

-- a cut in two
pub front-of-cut : (s : List ℕ) (i j n : ℕ) → i + n ≤ j → slice_range s i (i + n) ≡ take n (slice_range s i j)
front-of-cut s i j n le =
    let size : i + n - i ≡ n = omega arith in
    rw size (sym (take-take n (j - i) (drop i s) (omega arith)))

pub back-of-cut : (s : List ℕ) (i j n : ℕ) → i + n ≤ j → slice_range s (i + n) j ≡ drop n (slice_range s i j)
back-of-cut s i j n le =
    let room : j - i ≡ n + (j - (i + n)) = omega arith in
    rw (room, drop-take, drop-drop) refl

-- a place within the cut is before its end
pub seam-within : (s : List ℕ) (i j n : ℕ) → i ≤ j → j ≤ length s → n ≤ length (slice_range s i j) → i + n ≤ j
seam-within s i j n le in_s fits = let size = length-cut s i j le in_s in omega arith

-- ---- what the test for an end says

pub at-end : (b : Bool) (s : List ℕ) → b ≡ true → IsTrue b ↔ (s ≡ []) → s ≡ []
at-end b s e h = h.0 e

pub not-at-end : (b : Bool) (s : List ℕ) → b ≡ false → IsTrue b ↔ (s ≡ []) → s ≡ [] → ⊥
not-at-end b s e h end = let yes = h.1 end in cc
