-- Numbers whose header is two octets.
use Rattle.std.proofs.Common.{◌≡◌, ◌≤◌, ◌<◌, ◌+◌, ◌*◌, ◌^◌, ◌⊎◌, inl, inr, ℕ, zero, suc, List, [], ◌∷◌, length, get_or}
use Rattle.std.proofs.Common.{refl, arith}
use Rattle.rpki_der.specs.TagName.{integer}
use Rattle.rpki_der.specs.Number.{number_of, AreOctets}
use Rattle.rpki_der.specs.Integer.{IsMinimal, IsUnsignedBelow}
use Rattle.rpki_der.specs.Reading.{Accepts, Spells}
use Rattle.rpki_der.proofs.IntegerLaws.{minimal-IsUnsigned, one-number}
use Rattle.rpki_der.proofs.OneFormatLaws.{leaf-lawful}
use Rattle.rpki_contents.specs.Aspa.{as_number}
use Rattle.rpki_x509.specs.Short.{IsShort}
use Rattle.rpki_x509.proofs.ShortLaws.{short-integer}
use Rattle.rpki_contents.proofs.OneReadingLaws.{IsOneFront}

-- ---- numbers of so few octets

-- octets of which none can be left out are the contents of what they write
written : (c : List ℕ) (n : ℕ) → AreOctets c → n ≡ number_of c → n < 2 ^ 32 → IsMinimal c
    → IsUnsignedBelow (2 ^ 32) n c
written c n o e below m = record { below = below; contents = minimal-IsUnsigned c n o e m }

nine_bits : (x y : ℕ) → (x ≡ 0 → 128 ≤ y) → (0 < x) ⊎ (128 ≤ y)
nine_bits zero y high = inr (high refl)
nine_bits (suc x) y high = inl (omega arith)

module _ (c : List ℕ) (o : AreOctets c) (n : ℕ) where
  pub three-octets : length c ≡ 3 → n ≡ get_or c 0 0 * 65536 + get_or c 1 0 * 256 + get_or c 2 0 → 32768 ≤ n
      → n < 8388608 → IsUnsignedBelow (2 ^ 32) n c
  three-octets size is low high = three c o size is where
    three : (c : List ℕ) → AreOctets c → length c ≡ 3
        → n ≡ get_or c 0 0 * 65536 + get_or c 1 0 * 256 + get_or c 2 0 → IsUnsignedBelow (2 ^ 32) n c
    three [] o size is = absurd (omega (arith, size))
    three (x ∷ []) o size is = absurd (omega (arith, size))
    three (x ∷ y ∷ []) o size is = absurd (omega (arith, size))
    three (x ∷ y ∷ z ∷ []) o size is =
        written (x ∷ y ∷ z ∷ []) n o (omega (arith, is)) (omega (arith, high)) (record {
          nonempty = omega arith;
          first_bit = omega (arith, is, high);
          nine_bits = λ long. nine_bits x y (λ e. omega (arith, e, is, low, o.1.1.0));
        })
    three (x ∷ y ∷ z ∷ t ∷ ts) o size is = absurd (omega (arith, size))

  pub four-octets : length c ≡ 4
      → n ≡ get_or c 0 0 * 16777216 + get_or c 1 0 * 65536 + (get_or c 2 0 * 256 + get_or c 3 0) → 8388608 ≤ n
      → n < 2147483648 → IsUnsignedBelow (2 ^ 32) n c
  four-octets size is low high = four c o size is where
    four : (c : List ℕ) → AreOctets c → length c ≡ 4
        → n ≡ get_or c 0 0 * 16777216 + get_or c 1 0 * 65536 + (get_or c 2 0 * 256 + get_or c 3 0)
        → IsUnsignedBelow (2 ^ 32) n c
    four [] o size is = absurd (omega (arith, size))
    four (x ∷ []) o size is = absurd (omega (arith, size))
    four (x ∷ y ∷ []) o size is = absurd (omega (arith, size))
    four (x ∷ y ∷ z ∷ []) o size is = absurd (omega (arith, size))
    four (x ∷ y ∷ z ∷ t ∷ []) o size is =
        written (x ∷ y ∷ z ∷ t ∷ []) n o (omega (arith, is)) (omega (arith, high)) (record {
          nonempty = omega arith;
          first_bit = omega (arith, is, high);
          nine_bits = λ long. nine_bits x y (λ e. omega (arith, e, is, low, o.1.1.0, o.1.1.1.0));
        })
    four (x ∷ y ∷ z ∷ t ∷ u ∷ us) o size is = absurd (omega (arith, size))

-- ---- such a number at the front

pub number-accepted : (s c r : List ℕ) (n : ℕ) → IsShort 2 s c r → IsUnsignedBelow (2 ^ 32) n c
    → Accepts as_number.spells s n r
number-accepted s c r n h k =
    let there = short-integer s c r h in
    let is : Spells as_number.spells s n r = record {
      front = there.front;
      parts = there.parts;
      spelled = record { contents = c; value = there.spelled; spelled = k };
    } in
    record { spells = is; only = λ m q g. one s m n q r g is } where
      one : IsOneFront as_number.spells
      one = (leaf-lawful integer (IsUnsignedBelow (2 ^ 32)) (λ c v w h k. one-number v w c h.contents k.contents)).one
