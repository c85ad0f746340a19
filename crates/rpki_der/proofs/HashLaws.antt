-- What a hasher is given tells octets apart, and numbers of few octets.
use Rattle.std.proofs.Common.{◌≡◌, ◌↔◌, ℕ, zero, suc, ◌+◌, ◌/◌, ◌%◌, ◌^◌, ◌<◌, List, [], ◌∷◌, refl, sym, ap, ◌∙◌, arith}
use Rattle.std.proofs.Math.Nat.{div-div-eq-div-mul, div-eq_of_lt, div-one, pow-suc}
use Rattle.std.specs.Hash.{u8, slice}
use Rattle.std.specs.Int.{byte_at, bytes_low_first}
use Rattle.std.specs.List.{flat_map}

each-hashed : (k l : List ℕ) → flat_map u8 k ≡ flat_map u8 l → k ≡ l
each-hashed [] [] e = refl
each-hashed [] (y ∷ l) e = absurd (cc)
each-hashed (x ∷ k) [] e = absurd (cc)
each-hashed (x ∷ k) (y ∷ l) e =
    let rest = each-hashed k l (cc) in
    let first : x ≡ y = cc in
    ap (λ (z : ℕ). z ∷ k) first ∙ ap (λ (m : List ℕ). y ∷ m) rest

-- octets are hashed as how many there are, and then each of them
pub hashed-octets : (k l : List ℕ) → (slice u8 k ≡ slice u8 l) ↔ (k ≡ l)
hashed-octets k l = (λ e. each-hashed k l (cc), λ e. ap (slice u8) e)

byte-quotient : (j n : ℕ) → byte_at j n ≡ n / 256 ^ j % 256
byte-quotient zero n = ap (λ (m : ℕ). m % 256) (sym (div-one n))
byte-quotient (suc j) n = refl

next-quotient : (j n : ℕ) → n / 256 ^ suc j ≡ n / 256 ^ j / 256
next-quotient j n = ap (λ (p : ℕ). n / p) (pow-suc 256 j) ∙ sym (div-div-eq-div-mul n (256 ^ j) 256)

-- the rest of two numbers of so many octets, from one octet on, is the same where these octets are
quotients-same : (j k m n : ℕ) → m < 256 ^ (j + k) → n < 256 ^ (j + k) → bytes_low_first j k m ≡ bytes_low_first j k n
    → m / 256 ^ j ≡ n / 256 ^ j
quotients-same j zero m n h l e =
    let end : 256 ^ (j + 0) ≡ 256 ^ j = ap (λ i. 256 ^ i) (omega arith) in
    div-eq_of_lt (omega (arith, h, end)) ∙ sym (div-eq_of_lt (omega (arith, l, end)))
quotients-same j (suc k) m n h l e =
    let first : byte_at j m ≡ byte_at j n = cc in
    let end : 256 ^ (j + suc k) ≡ 256 ^ (suc j + k) = ap (λ i. 256 ^ i) (omega arith) in
    let rest = quotients-same (suc j) k m n (omega (arith, h, end)) (omega (arith, l, end)) (cc) in
    omega (arith, first, rest, byte-quotient j m, byte-quotient j n, next-quotient j m, next-quotient j n)

-- numbers of so many octets whose octets are the same, the lowest first, are one
pub low-first-same : (k m n : ℕ) → m < 256 ^ k → n < 256 ^ k → bytes_low_first 0 k m ≡ bytes_low_first 0 k n → m ≡ n
low-first-same k m n h l e =
    let end : 256 ^ (0 + k) ≡ 256 ^ k = ap (λ i. 256 ^ i) (omega arith) in
    sym (div-one m) ∙ quotients-same 0 k m n (omega (arith, h, end)) (omega (arith, l, end)) e ∙ div-one n
