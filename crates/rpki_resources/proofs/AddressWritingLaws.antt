-- Addresses that are written: their contents are those of a bit string, and no others are.
use Rattle.std.proofs.Common.{◌≡◌, ◌≤◌, ◌<◌, ◌+◌, ◌-◌, ◌*◌, ◌%◌, ◌^◌, ℕ, zero, suc, List, ◌∷◌, length, slice_index}
use Rattle.std.proofs.Common.{refl, sym, ap, ◌∙◌, subst, arith}
use Rattle.std.proofs.Math.Nat.{mul-mod_left, mul-lt-mul_of_pos_right, pow-le-pow_right, mod-eq_of_lt}
use Rattle.std.proofs.Math.Pow.{mod-mod-pow}
use Rattle.std.proofs.lemmas.Nat.{pow-add, pow_pos}
use Rattle.rpki_der.specs.Number.{number_of, AreOctets, low_octets}
use Rattle.rpki_der.specs.NumberLaws.{low_octets-full}
use Rattle.rpki_der.specs.Leaves.{AreBits}
use Rattle.rpki_resources.specs.declared.address.Address.{Address}
use Rattle.rpki_resources.specs.Address.{IsAddress, IsAddressOf}
use Rattle.rpki_resources.specs.Encoded.{octet_count, unused_bits, address_bits, address_contents}
use Rattle.rpki_resources.proofs.AddressLaws.{eights}
use Rattle.rpki_resources.proofs.NumberOctetsLaws.{octets-length, number-written, last-octet}

-- as many octets as hold the bits, and less than an octet more
pub filled : (size : ℕ) → 8 * octet_count size ≡ size + unused_bits size
filled size = omega arith

pub few-unused : (size : ℕ) → unused_bits size < 8
few-unused size = omega arith

-- the octets hold the number and the zeros after it
pub held : (x : Address) → x.number < 2 ^ x.size → x.number * 2 ^ unused_bits x.size < 256 ^ octet_count x.size
held x below =
    let u = unused_bits x.size in
    let whole : 256 ^ octet_count x.size ≡ 2 ^ x.size * 2 ^ u =
    eights (octet_count x.size) ∙ ap (λ (k : ℕ). 2 ^ k) (filled x.size) ∙ pow-add 2 x.size u in
    let less : x.number * 2 ^ u < 2 ^ x.size * 2 ^ u = mul-lt-mul_of_pos_right below (pow_pos u) in
    rw whole less

-- the bits of the last octet left over are zeros
zeros-left : (n u : ℕ) → u < 8 → n * 2 ^ u % 256 % 2 ^ u ≡ 0
zeros-left n u few =
    let h : n * 2 ^ u % 2 ^ (8 - u + u) % 2 ^ u ≡ n * 2 ^ u % 2 ^ u = mod-mod-pow (n * 2 ^ u) (8 - u) u in
    let whole : 8 - u + u ≡ 8 = omega arith in
    (rw whole at h) ∙ mul-mod_left n (2 ^ u)

pub bits-legal : (x : Address) → AreBits (address_bits x)
bits-legal x = record {
  few = few-unused x.size;
  none = λ none. let size = ap length none in omega
      (arith, size, octets-length (octet_count x.size) (x.number * 2 ^ unused_bits x.size));
  zero = by_count (octet_count x.size) (λ none. omega (arith, none));
} where
  n : ℕ
  n = x.number * 2 ^ unused_bits x.size

  by_count : (k : ℕ) → (k ≡ 0 → unused_bits x.size ≡ 0)
      → slice_index (low_octets k n) (length (low_octets k n) - 1) % 2 ^ unused_bits x.size ≡ 0
  by_count zero none = let z : unused_bits x.size ≡ 0 = none refl in rw z (omega arith)
  by_count (suc k) none =
      let last : length (low_octets (suc k) n) - 1 ≡ k = omega (arith, octets-length (suc k) n) in
      rw (last, last-octet k n) (zeros-left x.number (unused_bits x.size) (few-unused x.size))

-- what is written is the address
pub address-spelled : (w : ℕ) (x : Address) → IsAddressOf w x → IsAddress w x (address_contents x)
address-spelled w x h = record {
  bits = address_bits x;
  spelled = record { legal = bits-legal x; contents = refl };
  has = record {
    size = omega (arith, octets-length (octet_count x.size) (x.number * 2 ^ unused_bits x.size), filled x.size);
    number = number-written (octet_count x.size) (x.number * 2 ^ unused_bits x.size) (held x h.1);
    below = h.1;
  };
  few = h.0;
}

-- and nothing else is
pub address-only : (w : ℕ) (x : Address) (c : List ℕ) → AreOctets c → IsAddress w x c → c ≡ address_contents x
address-only w x c o h =
    let b = h.bits in
    let few = h.spelled.legal.few in
    let size = h.has.size in
    let count : length b.octets ≡ octet_count x.size = omega (arith, few, size) in
    let unused : b.unused ≡ unused_bits x.size = omega (arith, few, size) in
    let each : AreOctets (b.unused ∷ b.octets) = subst AreOctets h.spelled.contents o in
    let full = low_octets-full b.octets (octet_count x.size) count each.1 in
    let number : number_of b.octets ≡ x.number * 2 ^ unused_bits x.size = h.has.number
    ∙ ap (λ (u : ℕ). x.number * 2 ^ u) unused in
    h.spelled.contents ∙ ap (λ (u : ℕ). u ∷ b.octets) unused
    ∙ ap (λ (s : List ℕ). unused_bits x.size ∷ s) (sym full ∙ ap (low_octets (octet_count x.size)) number)

pub address-few : (x : Address) → x.size ≤ 128 → length (address_contents x) ≤ 17
address-few x few = omega (arith, octets-length (octet_count x.size) (x.number * 2 ^ unused_bits x.size))

-- ---- the shifted number

-- a number of so many bits is shifted by less than an octet, and the octets of its low bits are the same
pub shifted : (x : Address) → x.size ≤ 128 → x.number < 2 ^ x.size
    → x.number * 2 ^ unused_bits x.size % 340282366920938463463374607431768211456 ≡ x.number * 2 ^ unused_bits x.size
shifted x few below =
    let fits : x.number * 2 ^ unused_bits x.size < 256 ^ octet_count x.size = held x below in
    let count : octet_count x.size ≤ 16 = omega arith in
    let grow : 256 ^ octet_count x.size ≤ 256 ^ 16 = pow-le-pow_right (omega arith) count in
    mod-eq_of_lt (omega (arith, fits, grow))
