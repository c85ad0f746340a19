-- Numbers that are all those that begin alike.
use Rattle.std.proofs.Common.{◌≡◌, ◌≤◌, ◌<◌, ◌+◌, ◌-◌, ◌*◌, ◌/◌, ◌%◌, ◌^◌, ◌↔◌, inl, inr, ℕ, zero, suc, subst, arith}
use Rattle.std.proofs.Math.Nat.{pow-suc, pow-le-pow_right}
use Rattle.std.proofs.Math.Nat.{mul-mod_left}
use Rattle.std.proofs.Math.Pow.{pow-lt}
use Rattle.std.proofs.lemmas.Nat.{pow_pos}
use Rattle.rpki_resources.proofs.BlocksLaws.{split}
use Rattle.rpki_resources.specs.Address.{IsPrefix}

pub twice : (k : ℕ) → 2 ^ suc k ≡ 2 * 2 ^ k
twice k = omega (arith, pow-suc 2 k)

half-low : (low q p : ℕ) → low ≡ q * (2 * p) → low / 2 ≡ q * p
half-low low q p h = omega arith

half-high : (high q p : ℕ) → suc high ≡ suc q * (2 * p) → suc (high / 2) ≡ suc q * p
half-high high q p h = omega arith

whole-low : (low q p : ℕ) → low % 2 ≡ 0 → low / 2 ≡ q * p → low ≡ q * (2 * p)
whole-low low q p even h = omega arith

whole-high : (high q p : ℕ) → high % 2 ≡ 1 → suc (high / 2) ≡ suc q * p → suc high ≡ suc q * (2 * p)
whole-high high q p odd h = omega arith

pub single : (low high q : ℕ) → low ≡ q * 2 ^ 0 → suc high ≡ suc q * 2 ^ 0 → low ≡ high
single low high q l h = omega arith

halved : (low high : ℕ) → low % 2 ≡ 0 → high % 2 ≡ 1 → IsPrefix low high → IsPrefix (low / 2) (high / 2)
halved low high even odd (q, zero, l, h) =
    let same : low ≡ high = single low high q l h in absurd (omega arith)
halved low high even odd (q, suc k, l, h) =
    (q, k, half-low low q (2 ^ k) (rw (← twice k) l), half-high high q (2 ^ k) (rw (← twice k) h))

doubled : (low high : ℕ) → low % 2 ≡ 0 → high % 2 ≡ 1 → IsPrefix (low / 2) (high / 2) → IsPrefix low high
doubled low high even odd (q, k, l, h) =
    (q, suc k, rw (twice k) (whole-low low q (2 ^ k) even l), rw (twice k) (whole-high high q (2 ^ k) odd h))

pub halves : (low high : ℕ) → low % 2 ≡ 0 → high % 2 ≡ 1 → IsPrefix low high ↔ IsPrefix (low / 2) (high / 2)
halves low high even odd = (halved low high even odd, doubled low high even odd)

pub one-number : (n : ℕ) → IsPrefix n n
one-number n = (n, 0, omega arith, omega arith)

-- ---- how many bits are not shared

-- the numbers without the bits that were counted, and with them
pub record Counting (low high first last count : ℕ) : Type 0 where
  pub shared : ℕ
  pub missing : ℕ
  pub first_is : first ≡ shared * 2 ^ missing
  pub last_is : suc last ≡ suc shared * 2 ^ missing
  pub low_is : low ≡ shared * 2 ^ (missing + count)
  pub high_is : suc high ≡ suc shared * 2 ^ (missing + count)

plain : (k : ℕ) → k ≡ k + 0
plain k = omega arith

pub counting-start : (low high : ℕ) → IsPrefix low high → Counting low high low high 0
counting-start low high (q, k, l, h) = record {
  shared = q;
  missing = k;
  first_is = l;
  last_is = h;
  low_is = subst (λ (m : ℕ). low ≡ q * 2 ^ m) (plain k) l;
  high_is = subst (λ (m : ℕ). suc high ≡ suc q * 2 ^ m) (plain k) h;
}

counted : (low high first last count q k : ℕ) → first < last → first ≡ q * 2 ^ k → suc last ≡ suc q * 2 ^ k
    → low ≡ q * 2 ^ (k + count) → suc high ≡ suc q * 2 ^ (k + count)
    → Counting low high (first / 2) (last / 2) (count + 1)
counted low high first last count q zero lt f l a b = let same : first ≡ last =
    single first last q f l in absurd (omega arith)
counted low high first last count q (suc k) lt f l a b =
    let e : suc k + count ≡ k + (count + 1) = omega arith in
    record {
      shared = q;
      missing = k;
      first_is = half-low first q (2 ^ k) (rw (← twice k) f);
      last_is = half-high last q (2 ^ k) (rw (← twice k) l);
      low_is = subst (λ (m : ℕ). low ≡ q * 2 ^ m) e a;
      high_is = subst (λ (m : ℕ). suc high ≡ suc q * 2 ^ m) e b;
    }

pub one-counted : (low high first last count : ℕ) → first < last → Counting low high first last count
    → Counting low high (first / 2) (last / 2) (count + 1)
one-counted low high first last count lt c = counted low high first last count c.shared c.missing lt c.first_is
    c.last_is c.low_is c.high_is

-- so many bits are at most as many as there are
pub few-missing : (w m q high : ℕ) → high < 2 ^ w → suc high ≡ suc q * 2 ^ m → m ≤ w
few-missing w m q high lt e = elim (split m (suc w)) [
  | inl h ↦ omega (arith, h)
  | inr h ↦ (
      let grow : 2 ^ suc w ≤ 2 ^ m = pow-le-pow_right (omega arith) h in
      let double : 2 ^ suc w ≡ 2 * 2 ^ w = twice w in
      let some : 0 < 2 ^ w = pow_pos w in
      let least : 2 ^ m ≤ suc q * 2 ^ m = omega arith in
      let no : ⊥ = omega (arith, grow, double, least, some) in
      absurd no)
]

some-missing : (first last q k : ℕ) → first < last → first ≡ q * 2 ^ k → suc last ≡ suc q * 2 ^ k → 1 ≤ k
some-missing first last q zero lt f l = let same : first ≡ last = single first last q f l in absurd (omega arith)
some-missing first last q (suc k) lt f l = omega arith

pub count-few : (low high first last count : ℕ) → high < 2 ^ 128 → first < last → Counting low high first last count
    → count < 128
count-few low high first last count lt some c =
    let few : c.missing + count ≤ 128 = few-missing 128 (c.missing + count) c.shared high lt c.high_is in
    let one : 1 ≤ c.missing = some-missing first last c.shared c.missing some c.first_is c.last_is in
    omega (arith, few, one)

none-missing : (low high first last count q k : ℕ) → last ≤ first → first ≡ q * 2 ^ k → suc last ≡ suc q * 2 ^ k
    → low ≡ q * 2 ^ (k + count) → suc high ≡ suc q * 2 ^ (k + count)
    → (q : ℕ) × (low ≡ q * 2 ^ count) × (suc high ≡ suc q * 2 ^ count)
none-missing low high first last count q zero le f l a b =
    let e : 0 + count ≡ count = omega arith in
    (q, subst (λ (m : ℕ). low ≡ q * 2 ^ m) e a, subst (λ (m : ℕ). suc high ≡ suc q * 2 ^ m) e b)
none-missing low high first last count q (suc k) le f l a b =
    let double : 2 ^ suc k ≡ 2 * 2 ^ k = twice k in
    let some : 0 < 2 ^ k = pow_pos k in
    let no : ⊥ = omega (arith, double, some) in
    absurd no

pub counting-end : (low high first last count : ℕ) → last ≤ first → Counting low high first last count
    → (q : ℕ) × (low ≡ q * 2 ^ count) × (suc high ≡ suc q * 2 ^ count)
counting-end low high first last count le c =
    none-missing low high first last count c.shared c.missing le c.first_is c.last_is c.low_is c.high_is

-- the length of a prefix
pub shared-bits : (w m low high : ℕ) → m ≤ w → ((q : ℕ) × (low ≡ q * 2 ^ m) × (suc high ≡ suc q * 2 ^ m))
    → (q : ℕ) × (low ≡ q * 2 ^ (w - (w - m))) × (suc high ≡ suc q * 2 ^ (w - (w - m)))
shared-bits w m low high le h =
    let e : m ≡ w - (w - m) = omega arith in
    (h.0, subst (λ (k : ℕ). low ≡ h.0 * 2 ^ k) e h.1, subst (λ (k : ℕ). suc high ≡ suc h.0 * 2 ^ k) e h.2)

-- ---- how many numbers a prefix has

-- a number of powers of 2 that is between a power and the next one is that power
one-power : (k m : ℕ) → 2 ^ m ≤ 2 ^ k → 2 ^ k < 2 * 2 ^ m → k ≡ m
one-power k m least most = elim (split k m) [
  | inl h ↦ (let less : 2 ^ k < 2 ^ m = pow-lt h in absurd (omega (arith, less, least)))
  | inr h ↦ (elim (split m k) [
    | inl g ↦ (
        let grow : 2 ^ suc m ≤ 2 ^ k = pow-le-pow_right (omega arith) g in
        let double : 2 ^ suc m ≡ 2 * 2 ^ m = twice m in
        absurd (omega (arith, grow, double, most)))
    | inr g ↦ omega (arith, h, g)
  ])
]

pub prefix-order : (low high : ℕ) → IsPrefix low high → low ≤ high
prefix-order low high (q, k, l, h) = let some : 0 < 2 ^ k = pow_pos k in omega (arith, some, l, h)

-- its numbers are as many as a power of 2, at a multiple of that
pub prefix-count : (low high count m : ℕ) → count + low ≡ suc high → 2 ^ m ≤ count → count < 2 * 2 ^ m
    → IsPrefix low high
    → (count ≡ 2 ^ m) × (low % 2 ^ m ≡ 0)
prefix-count low high count m e least most (q, k, l, h) =
    let all : count ≡ 2 ^ k = omega (arith, e, l, h) in
    let same : k ≡ m = one-power k m (rw all at least) (rw all at most) in
    (subst (λ (j : ℕ). count ≡ 2 ^ j) same all, subst (λ (j : ℕ). low % 2 ^ j ≡ 0) same (rw l (mul-mod_left q (2 ^ k))))

times-part : (low part : ℕ) → 0 < part → low % part ≡ 0 → low ≡ (low / part) * part
times-part low part some h = grind arith

pub shared-prefix : (low high k : ℕ) → low % 2 ^ k ≡ 0 → suc high ≡ low + 2 ^ k → IsPrefix low high
shared-prefix low high k h e =
    let some : 0 < 2 ^ k = pow_pos k in
    let whole : low ≡ (low / 2 ^ k) * 2 ^ k = times-part low (2 ^ k) some h in
    (low / 2 ^ k, k, whole, omega arith)

pub all-numbers : (low high : ℕ) → high < 2 ^ 128 → high - low ≡ 2 ^ 128 - 1 → IsPrefix low high
all-numbers low high small all = (0, 128, omega (arith, small, all), omega (arith, small, all))
