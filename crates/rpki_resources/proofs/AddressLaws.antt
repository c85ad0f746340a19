-- Addresses as bit strings.
use Rattle.std.proofs.Common.{◌≡◌, ◌≤◌, ◌<◌, ◌+◌, ◌-◌, ◌*◌, ◌/◌, ◌%◌, ◌^◌, ℕ, zero, suc, List, [], ◌∷◌, length, refl}
use Rattle.std.proofs.Common.{sym, ap, ◌∙◌, arith}
use Rattle.std.proofs.Math.Nat.{lt_of_mul-lt-mul_right, mul-lt-mul_of_pos_right, mul-mod_left, div-add-mod}
use Rattle.std.proofs.Math.Nat.{pow-le-pow_right, mul-le-mul_right}
use Rattle.std.proofs.lemmas.Nat.{pow-add, pow_pos, pow_below}
use Rattle.rpki_der.specs.Number.{number_of, AreOctets}
use Rattle.rpki_der.specs.NumberLaws.{number-lt, power}
use Rattle.rpki_der.specs.Leaves.{Bits, bits_of}
use Rattle.rpki_der.proofs.LeavesLaws.{bits-one}
use Rattle.rpki_resources.specs.declared.address.Address.{Address}
use Rattle.rpki_resources.specs.Address.{width, HasBits, IsAddress, low_end, high_end}
use Rattle.rpki_resources.specs.declared.family.AddressFamily.{AddressFamily}
use Rattle.rpki_resources.specs.declared.family.AddressFamily.TheVariants.{Ipv4, Ipv6}

pub eights : (k : ℕ) → 256 ^ k ≡ 2 ^ (8 * k)
eights zero = refl
eights (suc k) =
    let a : 256 ^ suc k ≡ 256 * 256 ^ k = power k in
    let b : 2 ^ (8 + 8 * k) ≡ 2 ^ 8 * 2 ^ (8 * k) = pow-add 2 8 (8 * k) in
    let e : 8 * suc k ≡ 8 + 8 * k = omega arith in
    rw e (omega (arith, a, b, eights k))

-- as many bits as there are make a small number
pub few-bits : (xs : List ℕ) (u size n : ℕ) → AreOctets xs → 8 * length xs ≡ size + u → number_of xs ≡ n * 2 ^ u
    → n < 2 ^ size
few-bits xs u size n o s e =
    let lt : number_of xs < 256 ^ length xs = number-lt xs o in
    let p : 2 ^ (size + u) ≡ 2 ^ size * 2 ^ u = pow-add 2 size u in
    let q : 256 ^ length xs ≡ 2 ^ size * 2 ^ u = eights (length xs) ∙ ap (λ (k : ℕ). 2 ^ k) s ∙ p in
    let k : n * 2 ^ u < 2 ^ size * 2 ^ u = omega (arith, lt, q, e) in
    lt_of_mul-lt-mul_right (2 ^ u) k

same-factor : (n m p : ℕ) → 0 < p → n * p ≡ m * p → n ≡ m
same-factor n m p some e =
    let under : n < m → ⊥ = λ h. let k : n * p < m * p = mul-lt-mul_of_pos_right h some in omega arith in
    let over : m < n → ⊥ = λ h. let k : m * p < n * p = mul-lt-mul_of_pos_right h some in omega arith in
    omega (arith, under, over)

abbrev pub address : ℕ → ℕ → Address
address number size = record { number = number; size = size }

same-address : (x y : Address) → x.number ≡ y.number → x.size ≡ y.size → x ≡ y
same-address x y n s = ap (λ (k : ℕ). address k x.size) n ∙ ap (λ (k : ℕ). address y.number k) s

has-one : (x y : Address) (b : Bits) → HasBits x b → HasBits y b → x ≡ y
has-one x y b h k =
    let size : x.size ≡ y.size = omega (arith, h.size, k.size) in
    let number : x.number ≡ y.number =
    same-factor x.number y.number (2 ^ b.unused) (pow_pos b.unused) (sym h.number ∙ k.number) in
    same-address x y number size

-- contents are one address
pub one-address : (w : ℕ) (x y : Address) (c : List ℕ) → IsAddress w x c → IsAddress w y c → x ≡ y
one-address w x y c h k =
    let same : h.bits ≡ k.bits = bits-one k.bits c h.bits k.spelled h.spelled in
    has-one x y k.bits (rw same at h.has) k.has

-- a shifted bit, and a number that bits of such a size make
pub small-shift : (u : ℕ) → u < 128 → 1 * 2 ^ u % 340282366920938463463374607431768211456 ≡ 2 ^ u
small-shift u h =
    let lt : 2 ^ u < 340282366920938463463374607431768211456 = pow_below u 128 h in omega arith

pub no-bits : (n q u m : ℕ) → m ≡ 2 ^ u → n ≡ q * 2 ^ u → n % m ≡ 0
no-bits n q u m is e = rw (is, e) (mul-mod_left q (2 ^ u))

-- a number of so many bits, followed by as many as are missing of w
pub ends-fit : (n size w : ℕ) → n < 2 ^ size → size ≤ w → w ≤ 128
    → n * 2 ^ (w - size) + 2 ^ (w - size) ≤ 340282366920938463463374607431768211456
ends-fit n size w lt le few =
    let p : 2 ^ (size + (w - size)) ≡ 2 ^ size * 2 ^ (w - size) = pow-add 2 size (w - size) in
    let e : size + (w - size) ≡ w = omega arith in
    let top : 2 ^ w ≡ 2 ^ size * 2 ^ (w - size) = sym (ap (λ (k : ℕ). 2 ^ k) e) ∙ p in
    let grow : 2 ^ w ≤ 2 ^ 128 = pow-le-pow_right (omega arith) few in
    let most : suc n * 2 ^ (w - size) ≤ 2 ^ size * 2 ^ (w - size) = mul-le-mul_right (2 ^ (w - size)) lt in
    omega (arith, top, grow, most)

pub width-most : (f : AddressFamily) → width f ≤ 128
width-most Ipv4 = omega arith
width-most Ipv6 = omega arith

pub low-shifted : (x : Address) (w : ℕ) → x.number < 2 ^ x.size → x.size ≤ w → w ≤ 128
    → x.number * 2 ^ (w - x.size) % 340282366920938463463374607431768211456 ≡ low_end w x
low-shifted x w lt le few =
    let fit = ends-fit x.number x.size w lt le few in
    let some : 0 < 2 ^ (w - x.size) = pow_pos (w - x.size) in
    omega (arith, fit, some)

one-shifted : (x : Address) (w : ℕ) → (w - x.size ≡ 128 → ⊥) → w ≤ 128
    → 1 * 2 ^ (w - x.size) % 340282366920938463463374607431768211456 ≡ 2 ^ (w - x.size)
one-shifted x w short few = small-shift (w - x.size) (omega (arith, short))

pub high-shifted : (x : Address) (w : ℕ) → x.number < 2 ^ x.size → x.size ≤ w → w ≤ 128 → (w - x.size ≡ 128 → ⊥)
    → x.number * 2 ^ (w - x.size) % 340282366920938463463374607431768211456
    + (1 * 2 ^ (w - x.size) % 340282366920938463463374607431768211456 - 1) ≡ high_end w x
high-shifted x w lt le few short =
    let low = low-shifted x w lt le few in
    let one = one-shifted x w short few in
    let some : 0 < 2 ^ (w - x.size) = pow_pos (w - x.size) in
    omega (arith, low, one, some)

pub high-below : (x : Address) (w : ℕ) → x.number < 2 ^ x.size → x.size ≤ w → w ≤ 128 → (w - x.size ≡ 128 → ⊥)
    → x.number * 2 ^ (w - x.size) % 340282366920938463463374607431768211456
    + (1 * 2 ^ (w - x.size) % 340282366920938463463374607431768211456 - 1) < 2 ^ 128
high-below x w lt le few short =
    let fit = ends-fit x.number x.size w lt le few in
    let low = low-shifted x w lt le few in
    let one = one-shifted x w short few in
    let some : 0 < 2 ^ (w - x.size) = pow_pos (w - x.size) in
    omega (arith, fit, low, one, some)

-- an octet has room for seven bits
room : (xs : List ℕ) (u : ℕ) → u < 8 → (xs ≡ [] → u ≡ 0) → u ≤ length xs * 8
room [] u few none = let e : u ≡ 0 = none refl in omega arith
room (x ∷ xs) u few none = omega arith

whole-part : (n m : ℕ) → 0 < m → n % m ≡ 0 → n ≡ n / m * m
whole-part n m some e = let d : m * (n / m) + n % m ≡ n = div-add-mod n m in omega (arith, d, e)

pub bits-found : (xs : List ℕ) (u n m : ℕ) → AreOctets xs → u < 8 → (xs ≡ [] → u ≡ 0) → m ≡ 2 ^ u → n ≡ number_of xs
    → n % m ≡ 0
    → HasBits (address (n / m) (length xs * 8 - u)) (bits_of u xs)
bits-found xs u n m o few none is e even =
    let fits : u ≤ length xs * 8 = room xs u few none in
    let size : 8 * length xs ≡ length xs * 8 - u + u = omega arith in
    let some : 0 < m = rw is (pow_pos u) in
    let number : number_of xs ≡ n / m * 2 ^ u = sym e ∙ whole-part n m some even ∙ ap (λ (k : ℕ). n / m * k) is in
    record { size = size; number = number; below = few-bits xs u (length xs * 8 - u) (n / m) o size number }

-- a prefix isn't empty
pub prefix-ascends : (w : ℕ) (x : Address) → low_end w x ≤ high_end w x
prefix-ascends w x =
    let some : 0 < 2 ^ (w - x.size) = pow_pos (w - x.size) in
    omega (arith, some)
