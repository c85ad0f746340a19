-- The order of numbers is the order of their octets.
use Rattle.std.proofs.Common.{◌≡◌, ℕ, zero, suc, ◌+◌, ◌-◌, ◌*◌, ◌/◌, ◌%◌, ◌^◌, ◌<◌, ◌≤◌, ◌⊎◌, inl, inr, List, [], ◌∷◌}
use Rattle.std.proofs.Common.{◌++◌, length, get_or, drop, length-drop, length-append, replicate, subst, arith, refl}
use Rattle.std.proofs.Common.{sym, ap, ◌∙◌, ◌&&◌, nat_eq}
use Rattle.std.proofs.lemmas.List.{append-nil, take-replicate, nil_from_length, length-replicate}
use borrow.Rule.Slice.PartMut.{put_mid}
use Rattle.std.specs.Ordering.{nat_cmp, ordering_then}
use Rattle.std.specs.Cmp.Lexicographic.{slice_cmp, pointwise}
use Rattle.std.proofs.lemmas.Bool.{cases_order}
use Rattle.std.proofs.lemmas.Bool.Decides.{nat_tests}
use Rattle.std.proofs.Math.Nat.{mul-le-mul_right, one-le-pow}
use Rattle.rpki_der.specs.Prelude.{number_of, AreOctets, number-lt, power}
use Rattle.std.specs.Int.{bytes_high_first}
use Rattle.std.proofs.lemmas.Nat.{mod-mul-add}

-- the first parts compare and then the second, as the wholes m and n do
abbrev pub Agrees : ℕ → ℕ → ℕ → ℕ → ℕ → ℕ → Type 0
Agrees x y s t m n =
    (ordering_then (nat_cmp x y) (nat_cmp s t) ≡ nat_cmp m n) × ((nat_eq x y && nat_eq s t) ≡ nat_eq m n)

first-below : (x y s t m n : ℕ) → x < y → m < n → Agrees x y s t m n
first-below x y s t m n h k = grind (arith, nat_tests)

first-above : (x y s t m n : ℕ) → y < x → n < m → Agrees x y s t m n
first-above x y s t m n h k = grind (arith, nat_tests)

first-same : (x s t m n p : ℕ) → m ≡ p + s → n ≡ p + t → Agrees x x s t m n
first-same x s t m n p h k = grind (arith, nat_tests)

place-below : (x y p s t : ℕ) → x < y → s < p → x * p + s < y * p + t
place-below x y p s t h k =
    let le : suc x * p ≤ y * p = mul-le-mul_right p h in
    omega arith

place-cmp : (x y p s t : ℕ) → s < p → t < p → Agrees x y s t (x * p + s) (y * p + t)
place-cmp x y p s t h k =
    elim (cases_order x y) [
      | inl same ↦ rw same (first-same y s t _ _ (y * p) refl refl)
      | inr (inl lt) ↦ first-below x y s t _ _ lt (place-below x y p s t lt h)
      | inr (inr gt) ↦ first-above x y s t _ _ gt (place-below y x p t s gt k)
    ]

pub slice-cmp-number : (xs ys : List ℕ) → length xs ≡ length ys → AreOctets xs → AreOctets ys
    → (slice_cmp nat_cmp xs ys ≡ nat_cmp (number_of xs) (number_of ys)) ×
    (pointwise nat_eq xs ys ≡ nat_eq (number_of xs) (number_of ys))
slice-cmp-number [] [] e o p = (refl, refl)
slice-cmp-number (x ∷ xs) (y ∷ ys) e o p =
    let same : length xs ≡ length ys = omega arith in
    let rest = slice-cmp-number xs ys same o.1 p.1 in
    let all = place-cmp x y (256 ^ length ys) (number_of xs) (number_of ys) (rw (← same) (number-lt xs o.1))
    (number-lt ys p.1) in
    (rw (rest.0, same) all.0, rw (rest.1, same) all.1)
slice-cmp-number _ _ e o p = absurd (omega arith)

-- leading zeros write nothing
pub number-zeros : (k : ℕ) (s : List ℕ) → number_of (replicate k 0 ++ s) ≡ number_of s
number-zeros zero s = refl
number-zeros (suc k) s = omega (arith, number-zeros k s)

pub AreOctets-zeros : (k : ℕ) (s : List ℕ) → AreOctets s → AreOctets (replicate k 0 ++ s)
AreOctets-zeros zero s o = o
AreOctets-zeros (suc k) s o = (omega arith, AreOctets-zeros k s o)

pub first-zeros : (k : ℕ) (s : List ℕ) → (0 < k) ⊎ (get_or s 0 0 < 128) → get_or (replicate k 0 ++ s) 0 0 < 128
first-zeros zero s (inl h) = absurd (omega arith)
first-zeros zero s (inr h) = h
first-zeros (suc k) s h = omega arith

-- what `copy_from_slice` leaves at the end of twenty zeros
pub put-mid-zeros : (s : List ℕ) → length s ≤ 20
    → put_mid (20 - length s) (20 - (20 - length s)) (replicate 20 0) s ≡ replicate (20 - length s) 0 ++ s
put-mid-zeros s h =
    let k = 20 - length s in
    let zs : List ℕ = replicate 20 0 in
    let le : k ≤ 20 = omega arith in
    let rest : drop (20 - k) (drop k zs) ≡ [] = nil_from_length _
    (omega (arith, length-drop (20 - k) (drop k zs), length-drop k zs)) in
    rw (rest, append-nil, take-replicate {X = ℕ} k 20 0 le)

-- twenty octets with the first bit 0
abbrev pub AreTwenty : List ℕ → Type 0
AreTwenty t = (length t ≡ 20) × AreOctets t × (get_or t 0 0 < 128)

pub padded-AreTwenty : (s t : List ℕ) → t ≡ s → length s ≤ 20 → AreOctets s → (length s < 20) ⊎ (get_or s 0 0 < 128)
    → AreTwenty (put_mid (20 - length s) (20 - (20 - length s)) (replicate 20 0) t)
padded-AreTwenty s t e h o first =
    let k = 20 - length s in
    let low : (0 < k) ⊎ (get_or s 0 0 < 128) = elim first [ inl short ↦ inl (omega arith) | inr bit ↦ inr bit ] in
    let made : AreTwenty (replicate k 0 ++ s) = (
      omega (arith, length-append (replicate k 0) s, length-replicate {A = ℕ} k 0),
      AreOctets-zeros k s o,
      first-zeros k
          s low,
    ) in
    subst (λ x. AreTwenty (put_mid k (20 - k) (replicate 20 0) x)) (sym e)
    (subst AreTwenty (sym (put-mid-zeros s h)) made)

pub number-padded : (s t : List ℕ) → t ≡ s → length s ≤ 20
    → number_of (put_mid (20 - length s) (20 - (20 - length s)) (replicate 20 0) t) ≡ number_of s
number-padded s t e h =
    let k = 20 - length s in
    ap (λ x. number_of (put_mid k (20 - k) (replicate 20 0) x)) e ∙ ap number_of (put-mid-zeros s h) ∙ number-zeros k s

mod-step : (n p : ℕ) → 0 < p → n % (256 * p) ≡ n / p % 256 * p + n % p
mod-step n p h =
    let q = n / p in
    let lt : n % p < p = omega arith in
    let whole : p * q + n % p ≡ n = omega arith in
    let parts : 256 * (q / 256) + q % 256 ≡ q = omega arith in
    let low : q % 256 < 256 = omega arith in
    let le : suc (q % 256) * p ≤ 256 * p = mul-le-mul_right p low in
    let small : q % 256 * p + n % p < 256 * p = omega arith in
    let split : n ≡ (q / 256) * (256 * p) + (q % 256 * p + n % p) = omega (arith, ap (λ x. p * x) parts) in
    ap (λ x. x % (256 * p)) split ∙ mod-mul-add (q / 256) (256 * p) (q % 256 * p + n % p) small

pub length-bytes-high-first : (k n : ℕ) → length (bytes_high_first k n) ≡ k
length-bytes-high-first zero n = refl
length-bytes-high-first (suc k) n = omega (arith, length-bytes-high-first k n)

pub number-bytes-high-first : (k n : ℕ) → number_of (bytes_high_first k n) ≡ n % 256 ^ k
number-bytes-high-first zero n = omega arith
number-bytes-high-first (suc zero) n = omega arith
number-bytes-high-first (suc (suc k)) n =
    let p : 0 < 256 ^ suc k = one-le-pow (suc k) 256 (omega arith) in
    rw (length-bytes-high-first (suc k) n, number-bytes-high-first (suc k) n, power (suc k))
    (sym (mod-step n (256 ^ suc k) p))

pub number-u128 : (n : ℕ) (bs cs : List ℕ) → n < 2 ^ 128 → cs ≡ bytes_high_first 16 n → bs ≡ cs
    → number_of (bs ++ []) ≡ n
number-u128 n bs cs h e f =
    let whole : n < 256 ^ 16 = omega arith in
    rw (append-nil, f, e, number-bytes-high-first 16 n) (omega arith)
