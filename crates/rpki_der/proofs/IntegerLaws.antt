-- Contents of which no octet can be left out are the shortest, and there is one list of them for each number.
use Rattle.std.proofs.Common.{◌≡◌, ℕ, zero, suc, ◌+◌, ◌-◌, ◌*◌, ◌^◌, ◌<◌, ◌≤◌, inl, inr, List, [], ◌∷◌, length, get_or}
use Rattle.std.proofs.Common.{drop, length-drop, add-zero, Fits, w8, arith, refl, sym, ap, ◌∙◌}
use Rattle.std.proofs.lemmas.Bool.{cases_order}
use Rattle.std.proofs.lemmas.List.{get_or-drop}
use Rattle.std.proofs.Math.Nat.{pow-le-pow_right, mul-le-mul_right, le-mul_of_pos_right}
use Rattle.rpki_der.specs.Number.{number_of, AreOctets, low_octets}
use Rattle.rpki_der.specs.NumberLaws.{number-lt, power, low_octets-full}
use Rattle.rpki_der.specs.Integer.{WritesNumber, IsUnsigned, IsMinimal, IsMagnitude}

-- a number whose first bit is 0 is small for its length
number-high : (d : List ℕ) → AreOctets d → 0 < length d → get_or d 0 0 < 128 → number_of d < 128 * 256 ^ (length d - 1)
number-high [] o h k = absurd (omega arith)
number-high (x ∷ xs) o h k =
    let le : suc x * 256 ^ length xs ≤ 128 * 256 ^ length xs = mul-le-mul_right (256 ^ length xs) k in
    let lt = number-lt xs o.1 in
    let back : suc (length xs) - 1 ≡ length xs = omega arith in
    rw back (omega arith)

-- and one of which no octet can be left out is large
number-low : (c : List ℕ) → IsMinimal c → 1 < length c → 128 * 256 ^ (length c - 2) ≤ number_of c
number-low [] m h = absurd (omega arith)
number-low (x ∷ []) m h = absurd (omega arith)
number-low (x ∷ y ∷ zs) m h =
    let p = 256 ^ length zs in
    let back : suc (suc (length zs)) - 2 ≡ length zs = omega arith in
    let top : 256 ^ suc (length zs) ≡ 256 * p = power (length zs) in
    rw (back, top) (elim (m.nine_bits h) [
      | inl some ↦ let le : 1 * (256 * p) ≤ x * (256 * p) = mul-le-mul_right (256 * p) some in omega arith
      | inr bit ↦ let le : 128 * p ≤ y * p = mul-le-mul_right p bit in omega arith
    ])

pub IsUnsigned-minimal : (n : ℕ) (c : List ℕ) → WritesNumber n c → IsMinimal c → IsUnsigned n c
IsUnsigned-minimal n c w m = record {
  writes = w;
  shortest = λ d v. elim (cases_order (length d) (length c)) [
    | inl same ↦ omega arith
    | inr (inr more) ↦ omega arith
    | inr (inl fewer) ↦
        let high = number-high d v.octets v.nonempty v.first_bit in
        let long : 1 < length c = omega (arith, v.nonempty) in
        let low = number-low c m long in
        let grow : 256 ^ (length d - 1) ≤ 256 ^ (length c - 2) = pow-le-pow_right (omega arith) (omega arith) in
        absurd (omega (arith, v.value, w.value))
  ];
}

pub contents-unique : (n : ℕ) (c d : List ℕ) → IsUnsigned n c → IsUnsigned n d → c ≡ d
contents-unique n c d a b =
    let same : length c ≡ length d = omega (arith, a.shortest d b.writes, b.shortest c a.writes) in
    sym (low_octets-full c (length d) same a.writes.octets) ∙ ap (low_octets (length d))
    (a.writes.value ∙ sym b.writes.value) ∙ low_octets-full d (length d) refl b.writes.octets

pub AreOctets-drop : (k : ℕ) (xs : List ℕ) → AreOctets xs → AreOctets (drop k xs)
AreOctets-drop zero xs o = o
AreOctets-drop (suc k) [] o = o
AreOctets-drop (suc k) (x ∷ xs) o = AreOctets-drop k xs o.1

-- a minimal list is the contents of what it writes
pub minimal-IsUnsigned : (c : List ℕ) (n : ℕ) → AreOctets c → n ≡ number_of c → IsMinimal c → IsUnsigned n c
minimal-IsUnsigned c n o e m =
    IsUnsigned-minimal n c (record { octets = o; value = sym e; nonempty = m.nonempty; first_bit = m.first_bit }) m

-- a leading zero writes nothing
pub number-tail : (c : List ℕ) → get_or c 0 0 ≡ 0 → number_of (drop 1 c) ≡ number_of c
number-tail [] e = refl
number-tail (x ∷ xs) e = let zero_first : x ≡ 0 = e in rw zero_first (omega arith)

-- the shortest contents are minimal: else the first octet could be left out
pub minimal-contents : (n : ℕ) (c : List ℕ) → IsUnsigned n c → IsMinimal c
minimal-contents n c h = record {
  nonempty = h.writes.nonempty;
  first_bit = h.writes.first_bit;
  nine_bits = λ long. elim (cases_order (get_or c 0 0) 0) [
    | inr (inl below) ↦ absurd (omega arith)
    | inr (inr some) ↦ inl some
    | inl none ↦ elim (cases_order (get_or c 1 0) 127) [
      | inr (inr high) ↦ inr (omega arith)
      | inr (inl low) ↦ absurd (shorter n c h long none (omega arith))
      | inl low ↦ absurd (shorter n c h long none (omega arith))
    ]
  ];
} where
  shorter : (n : ℕ) (c : List ℕ) → IsUnsigned n c → 1 < length c → get_or c 0 0 ≡ 0 → get_or c 1 0 < 128 → ⊥
  shorter n c h long none low =
      let second : get_or (drop 1 c) 0 0 ≡ get_or c 1 0 = get_or-drop 1 c 0 0 in
      let w : WritesNumber n (drop 1 c) = record {
        octets = AreOctets-drop 1 c h.writes.octets;
        value = number-tail c none ∙ h.writes.value;
        nonempty = omega
            (arith, length-drop 1 c);
        first_bit = omega arith;
      } in
      omega (arith, h.shortest (drop 1 c) w, length-drop 1 c)

power-grows : (i j : ℕ) → i ≤ j → 256 ^ i ≤ 256 ^ j
power-grows i j h = pow-le-pow_right (omega arith) h

-- a number below 2 ^ 159 has at most twenty octets of contents
pub contents-short : (n : ℕ) (c : List ℕ) → IsUnsigned n c → n < 2 ^ 159 → length c ≤ 20
contents-short n c h small =
    elim (cases_order (length c) 20) [
      | inl same ↦ omega arith
      | inr (inl fewer) ↦ omega arith
      | inr (inr more) ↦
          let low = number-low c (minimal-contents n c h) (omega arith) in
          let grow = power-grows 19 (length c - 2) (omega arith) in
          absurd (omega (arith, h.writes.value))
    ]

-- octets read from a slice of octets
pub octets-fit : (xs : List ℕ) → ((k : ℕ) → Fits w8 (get_or xs k 0)) → AreOctets xs
octets-fit [] h = tt
octets-fit (x ∷ xs) h = ((h 0).fits, octets-fit xs (λ k. h (suc k)))

-- the rest where zeros in front were left out, as many as can be
pub magnitude-left : (xs : List ℕ) (i : ℕ) → AreOctets xs → i < length xs → (i + 1 < length xs → 0 < get_or xs i 0)
    → IsMagnitude (drop i xs)
magnitude-left xs i o in_xs some =
    let size = length-drop i xs in
    let first : get_or (drop i xs) 0 0 ≡ get_or xs i 0 = get_or-drop i xs 0 0 ∙ ap (λ k. get_or xs k 0) (add-zero i) in
    record {
      each = AreOctets-drop i xs o;
      nonempty = omega arith;
      no_zero_in_front = λ long. let h = some (omega arith) in omega arith;
    }

-- the contents of an INTEGER that begin with a zero are the magnitude's octets after it
pub following-zero : (xs : List ℕ) → AreOctets xs → 1 < length xs → get_or xs 0 0 ≡ 0 → 128 ≤ get_or xs 1 0
    → IsUnsigned (number_of (drop 1 xs)) xs × IsMagnitude (drop 1 xs)
following-zero xs o long none high =
    let m : IsMinimal xs = record { nonempty = omega arith; first_bit = omega arith; nine_bits = λ _. inr high } in (
      minimal-IsUnsigned xs (number_of (drop 1 xs)) o (number-tail xs none) m,
      magnitude-left xs 1 o long (λ _. omega arith),
    )

-- contents that don't begin with a zero are the magnitude's octets
pub without-zero : (xs : List ℕ) → AreOctets xs → 0 < length xs → get_or xs 0 0 < 128
    → (1 < length xs → 0 < get_or xs 0 0) → IsUnsigned (number_of xs) xs × IsMagnitude xs
without-zero xs o some bit first =
    let m : IsMinimal xs = record { nonempty = some; first_bit = bit; nine_bits = λ long. inl (first long) } in (
      minimal-IsUnsigned xs (number_of xs) o refl m,
      record { each = o; nonempty = some; no_zero_in_front = first },
    )

-- contents that no number has: none at all, a first bit 1, or a zero that could be left out
pub no-contents : (n : ℕ) → IsUnsigned n [] → ⊥
no-contents n h = omega (arith, h.writes.nonempty)

pub negative : (n : ℕ) (xs : List ℕ) → 128 ≤ get_or xs 0 0 → IsUnsigned n xs → ⊥
negative n xs high h = omega (arith, h.writes.first_bit)

-- contents have one number
pub one-number : (m n : ℕ) (xs : List ℕ) → IsUnsigned m xs → IsUnsigned n xs → m ≡ n
one-number m n xs a b = sym a.writes.value ∙ b.writes.value

-- ---- numbers below a bound

-- one octet more was read
pub next-octet : (total n x : ℕ) (xs : List ℕ)
    → total ≡ n * 256 ^ suc (length xs) + (x * 256 ^ length xs + number_of xs)
    → total ≡ (n * 256 + x) * 256 ^ length xs + number_of xs
next-octet total n x xs h = let p = 256 ^ length xs in let top : 256 ^ suc (length xs) ≡ 256 * p = power (length xs) in
    let e : total ≡ n * (256 * p) + (x * p + number_of xs) = h ∙ ap (λ q. n * q + (x * p + number_of xs)) top in omega
    (arith, e)

-- what was read so far is at most the whole
pub so-far : (total m k r : ℕ) → total ≡ m * 256 ^ k + r → m ≤ total
so-far total m k r h = let le : m ≤ m * 256 ^ k = le-mul_of_pos_right m (power-some k) in omega (arith, h, le) where
  power-some : (k : ℕ) → 0 < 256 ^ k
  power-some k = let grow : 256 ^ 0 ≤ 256 ^ k = power-grows 0 k (omega arith) in omega arith

-- eight octets write a number below 2 ^ 64
pub eight-octets : (xs : List ℕ) → AreOctets xs → length xs ≤ 8 → number_of xs < 2 ^ 64
eight-octets xs o few = let lt = number-lt xs o in let grow = power-grows (length xs) 8 few in omega arith

-- a number of more octets than eight, without leading zeros, is above
pub nine-octets : (xs : List ℕ) → IsMagnitude xs → 8 < length xs → 2 ^ 64 ≤ number_of xs
nine-octets [] m many = absurd (omega arith)
nine-octets (x ∷ xs) m many =
    let some : 0 < x = m.no_zero_in_front (omega arith) in
    let le : 1 * 256 ^ length xs ≤ x * 256 ^ length xs = mul-le-mul_right (256 ^ length xs) some in
    let grow = power-grows 8 (length xs) (omega arith) in
    omega arith
