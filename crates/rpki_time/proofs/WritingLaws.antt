-- The contents that are computed are the shortest.
use Rattle.std.proofs.Common.{◌≡◌, ℕ, zero, suc, ◌+◌, ◌*◌, ◌/◌, ◌%◌, ◌^◌, ◌<◌, ◌≤◌, inl, inr, List, [], ◌∷◌, ◌++◌}
use Rattle.std.proofs.Common.{length, arith, refl, sym, ap, ◌∙◌, subst}
use Rattle.std.proofs.lemmas.Bool.{cases_order, cases_lt, lt-ltb, le-ltb}
use Rattle.rpki_der.specs.Prelude.{number_of, AreOctets, power, WritesNumber, IsUnsigned, IsMinimal}
use Rattle.rpki_time.specs.Serial.{contents_within, serial_contents}
use Rattle.rpki_der.proofs.IntegerLaws.{IsUnsigned-minimal}

length-end : (xs : List ℕ) (x : ℕ) → length (xs ++ x ∷ []) ≡ suc (length xs)
length-end [] x = refl
length-end (y ∷ ys) x = ap suc (length-end ys x)

number-end : (xs : List ℕ) (x : ℕ) → number_of (xs ++ x ∷ []) ≡ number_of xs * 256 + x
number-end [] x = omega arith
number-end (y ∷ ys) x = rw (length-end ys x, number-end ys x, power (length ys)) (omega arith)

octets-end : (xs : List ℕ) (x : ℕ) → AreOctets xs → x < 256 → AreOctets (xs ++ x ∷ [])
octets-end [] x o h = (h, tt)
octets-end (y ∷ ys) x o h = (o.0, octets-end ys x o.1 h)

-- octets with the first bit 0 that can't be fewer, and one more octet, unless the one is a zero that is not needed
minimal-end : (xs : List ℕ) (x : ℕ) → IsMinimal xs → ((xs ≡ 0 ∷ []) → 128 ≤ x) → IsMinimal (xs ++ x ∷ [])
minimal-end [] x m h = absurd (omega (arith, m.nonempty))
minimal-end (y ∷ []) x m h = record {
  nonempty = omega arith;
  first_bit = m.first_bit;
  nine_bits = λ _. elim (cases_order y 0) [
    | inl e ↦ inr (h (ap (λ (n : ℕ). n ∷ []) e))
    | inr (inl less) ↦ absurd (omega arith)
    | inr (inr more) ↦ inl more
  ];
}
minimal-end (y ∷ z ∷ zs) x m h = record {
  nonempty = omega arith;
  first_bit = m.first_bit;
  nine_bits = λ _. m.nine_bits (omega arith);
}

record Good (n : ℕ) (c : List ℕ) : Type 0 where
  writes : WritesNumber n c
  minimal : IsMinimal c

small : (n : ℕ) → n < 128 → Good n (n ∷ [])
small n h = record {
  writes = record { octets = (omega arith, tt); value = omega arith; nonempty = omega arith; first_bit = h };
  minimal = record { nonempty = omega arith; first_bit = h; nine_bits = λ long. absurd (omega arith) };
}

larger : (n : ℕ) (c : List ℕ) → 128 ≤ n → Good (n / 256) c → Good n (c ++ (n % 256) ∷ [])
larger n c h g =
    let m = minimal-end c (n % 256) g.minimal
    (λ e. let none : n / 256 ≡ 0 = sym g.writes.value ∙ ap number_of e ∙
    (let z : number_of (0 ∷ []) ≡ 0 = omega arith in z) in omega arith) in
    record {
      writes = record {
        octets = octets-end c (n % 256) g.writes.octets (omega arith);
        value = number-end c (n % 256) ∙ (let v = g.writes.value in omega arith);
        nonempty = m.nonempty;
        first_bit = m.first_bit;
      };
      minimal = m;
    }

good : (k n : ℕ) → n < 128 * 256 ^ k → Good n (contents_within (suc k) n)
unfolding contents_within
good zero n h =
    let le : n < 128 = omega arith in
    rw (lt-ltb n 128 le) (small n le)
good (suc k) n h = elim (cases_lt n 128) [
  | inl le ↦ rw (lt-ltb n 128 le) (small n le)
  | inr ge ↦
      let p = power k in
      let part : n / 256 < 128 * 256 ^ k = omega arith in
      rw (le-ltb n 128 ge) (larger n (contents_within (suc k) (n / 256)) ge (good k (n / 256) part))
]

pub serial_contents-are : (n : ℕ) → n < 2 ^ 159 → IsUnsigned n (serial_contents n)
serial_contents-are n h =
    let e : 128 * 256 ^ 19 ≡ 2 ^ 159 = refl in
    let g = good 19 n (subst (λ (b : ℕ). n < b) (sym e) h) in
    IsUnsigned-minimal n (serial_contents n) g.writes g.minimal

within-few : (k n : ℕ) → length (contents_within k n) ≤ k
unfolding contents_within
within-few zero n = omega arith
within-few (suc k) n = elim (cases_lt n 128) [
  | inl lt ↦ rw (lt-ltb n 128 lt) (omega arith)
  | inr ge ↦ rw (le-ltb n 128 ge)
      (omega (arith, length-end (contents_within k (n / 256)) (n % 256), within-few k (n / 256)))
]

pub serial_contents-few : (n : ℕ) → length (serial_contents n) ≤ 20
serial_contents-few n = within-few 20 n
