-- Keys of certificates: the modulus of 2,048 bits, and the parts of an RSA key.
use Rattle.std.proofs.Common.{◌≡◌, ℕ, suc, ◌*◌, ◌^◌, ◌<◌, ◌≤◌, inl, inr, List, [], ◌∷◌, length, slice_index_or, true}
use Rattle.std.proofs.Common.{false, arith, ap, subst}
use Rattle.std.proofs.lemmas.Bool.{cases_order}
use Rattle.std.proofs.Math.Nat.{pow-le-pow_right, mul-le-mul_right}
use Rattle.rpki_der.specs.declared.error.DecodeError.{DecodeError}
use Rattle.rpki_der.specs.TagName.{integer, sequence}
use Rattle.rpki_der.specs.Number.{number_of}
use Rattle.rpki_der.specs.NumberLaws.{number-lt}
use Rattle.rpki_der.specs.Integer.{IsUnsigned, IsMagnitude}
use Rattle.rpki_der.specs.Reading.{Accepts, Refusal, SpellsNothing}
use Rattle.rpki_der.specs.Values.{SpellsContents, SpellsLeaf, IsLeafFault}
use Rattle.rpki_der.proofs.LeavesLaws.{leaf-no-memory}
use Rattle.rpki_der.proofs.InsideLaws.{unless-memory}
use Rattle.rpki.specs.AnyValue.{SpellsAny}
use Rattle.rpki_cert.specs.Keys.{IsModulus, SpellsExponent, AreRsaParts, SpellsRsaKey}

power-grows : (i j : ℕ) → i ≤ j → 256 ^ i ≤ 256 ^ j
power-grows i j h = pow-le-pow_right (omega arith) h

-- ---- the octets of a number between two powers

module _ (k : ℕ) where
  at-least : (xs : List ℕ) → length xs ≡ suc k → 128 ≤ slice_index_or xs 0 0 → 128 * 256 ^ k ≤ number_of xs
  at-least [] size first = absurd (omega arith)
  at-least (x ∷ xs) size first =
      let e : length xs ≡ k = omega arith in
      let le : 128 * 256 ^ length xs ≤ x * 256 ^ length xs = mul-le-mul_right (256 ^ length xs) first in
      subst (λ (n : ℕ). 128 * 256 ^ n ≤ number_of (x ∷ xs)) e (omega arith)

  below : (xs : List ℕ) → IsMagnitude xs → length xs ≡ suc k → number_of xs < 256 ^ suc k
  below xs m size = subst (λ (n : ℕ). number_of xs < 256 ^ n) size (number-lt xs m.each)

  not-longer : (xs : List ℕ) → IsMagnitude xs → number_of xs < 256 ^ suc k → suc k < length xs → ⊥
  not-longer [] m most more = omega arith
  not-longer (x ∷ xs) m most more =
      let some : 0 < x = m.no_zero_in_front (omega arith) in
      let le : 1 * 256 ^ length xs ≤ x * 256 ^ length xs = mul-le-mul_right (256 ^ length xs) some in
      let grow = power-grows (suc k) (length xs) (omega arith) in
      omega arith

  not-shorter : (xs : List ℕ) → IsMagnitude xs → 128 * 256 ^ k ≤ number_of xs → length xs < suc k → ⊥
  not-shorter xs m least fewer =
      let lt = number-lt xs m.each in
      let grow = power-grows (length xs) k (omega arith) in
      omega arith

  size-of : (xs : List ℕ) → IsMagnitude xs → 128 * 256 ^ k ≤ number_of xs → number_of xs < 256 ^ suc k
      → length xs ≡ suc k
  size-of xs m least most =
      elim (cases_order (length xs) (suc k)) [
        | inl same ↦ same
        | inr (inl fewer) ↦ absurd (not-shorter xs m least fewer)
        | inr (inr more) ↦ absurd (not-longer xs m most more)
      ]

  first-of : (xs : List ℕ) → IsMagnitude xs → length xs ≡ suc k → 128 * 256 ^ k ≤ number_of xs
      → slice_index_or xs 0 0 < 128 → ⊥
  first-of [] m size least low = omega arith
  first-of (x ∷ xs) m size least low =
      let e : length xs ≡ k = omega arith in
      let lt = number-lt xs m.each.1 in
      let le : x * 256 ^ length xs ≤ 127 * 256 ^ length xs = mul-le-mul_right (256 ^ length xs) (omega arith) in
      let same : 256 ^ length xs ≡ 256 ^ k = ap (λ (n : ℕ). 256 ^ n) e in
      omega arith

-- the octets of a modulus of 2,048 bits
pub modulus-there : (xs : List ℕ) → IsMagnitude xs → length xs ≡ 256 → 128 ≤ slice_index_or xs 0 0
    → IsModulus (number_of xs)
modulus-there xs m size first = record { least = at-least 255 xs size first; most = below 255 xs m size }

pub modulus-size : (xs : List ℕ) → IsMagnitude xs → IsModulus (number_of xs) → length xs ≡ 256
modulus-size xs m h = size-of 255 xs m h.least h.most

pub modulus-first : (xs : List ℕ) → IsMagnitude xs → length xs ≡ 256 → slice_index_or xs 0 0 < 128
    → IsModulus (number_of xs) → ⊥
modulus-first xs m size low h = first-of 255 xs m size h.least low

-- ---- the parts of an RSA key

module _ (s r : List ℕ) (n : ℕ) (a : Accepts (SpellsLeaf integer false IsUnsigned) s n r) where
  pub parts-there : IsModulus n → SpellsExponent tt r → SpellsAny AreRsaParts tt s
  parts-there size h =
      let k = a.spells.spelled in (
        (n, tt),
        record {
          first = a.spells.front;
          second = r;
          parts = a.spells.parts;
          one = record {
            contents = k.contents;
            value = k.value;
            spelled =
                record { size = size; contents = k.spelled };
          };
          two = h;
        },
      )

  pub parts-in : SpellsAny AreRsaParts tt s → IsModulus n × SpellsExponent tt r
  parts-in (x, both) =
      let k = both.one in
      let one = a.only x.0 both.second (record {
        front = both.first;
        parts = both.parts;
        spelled =
            record { contents = k.contents; value = k.value; spelled = k.spelled.contents };
      }) in
      (subst IsModulus one.0 k.spelled.size, subst (SpellsExponent tt) one.1 both.two)

pub no-parts : (s r : List ℕ) (e : DecodeError)
    → Refusal (SpellsLeaf integer false IsUnsigned) (IsLeafFault integer false IsUnsigned) s r e
    → SpellsAny AreRsaParts tt s → ⊥
no-parts s r e h (x, both) =
    let k = both.one in
    unless-memory e (λ z. leaf-no-memory integer false IsUnsigned s e h.kind z) h.refuses x.0 both.second
    (record {
      front = both.first;
      parts = both.parts;
      spelled =
          record { contents = k.contents; value = k.value; spelled = k.spelled.contents };
    })

-- ---- an RSA key

pub key-there : (s c : List ℕ) → SpellsContents sequence true c s → SpellsAny AreRsaParts tt c
    → SpellsAny SpellsRsaKey tt s
key-there s c h (x, k) = (x, record { contents = c; value = h; spelled = k })

pub key-in : (s c : List ℕ) → ((w : List ℕ) → SpellsContents sequence true w s → w ≡ c) → SpellsAny SpellsRsaKey tt s
    → SpellsAny AreRsaParts tt c
key-in s c only (x, k) = (x, subst (AreRsaParts x) (only k.contents k.value) k.spelled)

pub key-none : (s : List ℕ) → SpellsNothing (SpellsContents sequence true) s → SpellsAny SpellsRsaKey tt s → ⊥
key-none s none (x, k) = none k.contents k.value
