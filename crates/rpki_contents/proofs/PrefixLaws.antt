-- Prefixes in place, whose headers are two octets each.
use Rattle.std.proofs.Common.{◌≡◌, ◌≤◌, ℕ, true, false, List, [], ◌∷◌, Option, None, Some, Ok, length}
use Rattle.std.proofs.Common.{get_or, refl, sym, arith}
use Rattle.std.proofs.lemmas.Bool.{lt-ltb}
use Rattle.rpki_der.specs.HeaderReading.{identifier_at}
use Rattle.rpki_der.specs.Prelude.{integer, bit_string, sequence, AreBits, IsBits, bits_of, number_of}
use Rattle.rpki_parse.specs.Value.{ended, tagged}
use Rattle.rpki_parse.specs.Leaf.{bits_in, leaf_at}
use Rattle.rpki_parse.proofs.ValueLaws.{value-read}
use Rattle.rpki_parse.proofs.DecisionLaws.{bits_decides}
use Rattle.rpki_parse.proofs.BackLaws.{leaf-read}
use Rattle.rpki_contents.specs.RoaView.{fits, max_length_at, prefix_at, size_of}
use Rattle.rpki_x509.specs.Short.{IsShort}
use Rattle.rpki_x509.proofs.ShortLaws.{short-sequence, short-bits, short-integer}

-- ---- a maximum length

pub left_out : (s : List ℕ) → length s ≡ 0 → max_length_at s ≡ Ok (None, [])
unfolding tagged identifier_at
left_out [] e = refl
left_out (x ∷ xs) e = absurd (omega (arith, e))

pub is_there : (s : List ℕ) → length s ≡ 3 → get_or s 0 0 ≡ 2 → get_or s 1 0 ≡ 1 → get_or s 2 0 ≤ 127
    → max_length_at s ≡ Ok (Some (get_or s 2 0), [])
unfolding tagged identifier_at leaf_at
is_there [] e a b low = absurd (omega (arith, e))
is_there (x ∷ []) e a b low = absurd (omega (arith, e))
is_there (x ∷ y ∷ []) e a b low = absurd (omega (arith, e))
is_there (x ∷ y ∷ k ∷ []) e a b low =
    let i = short-integer (2 ∷ 1 ∷ k ∷ []) (k ∷ []) [] (record { parts = refl; few = omega arith }) in
    let there = value-read integer false (2 ∷ 1 ∷ k ∷ []) (k ∷ []) [] i in
    let number : number_of (k ∷ []) ≡ k = omega arith in
    rw (a, b, there, number, lt-ltb k 128 (omega (arith, low)), lt-ltb k 256 (omega (arith, low))) refl
is_there (x ∷ y ∷ z ∷ t ∷ ts) e a b low = absurd (omega (arith, e))

-- ---- a prefix

pub prefix_there : (s parts rest bits behind : List ℕ) (w u : ℕ) (used : List ℕ) (m : Option ℕ)
    → IsShort 48 s parts rest → IsShort 3 parts bits behind → bits ≡ u ∷ used → AreBits (bits_of u used)
    → max_length_at behind ≡ Ok (m, []) → fits w (size_of (bits_of u used)) m ≡ true → Ok (tt, rest) ≡ prefix_at w s
unfolding prefix_at ended
prefix_there s parts rest bits behind w u used m outer inner is legal h e =
    let i = short-bits parts bits behind inner in
    sym (rw (
      value-read sequence true s parts rest (short-sequence s parts rest outer),
      leaf-read bit_string IsBits bits_in bits_decides parts (bits_of u used) behind (record {
        front = i.front;
        parts = i.parts;
        spelled = record { contents = bits; value = i.spelled; spelled = record { legal = legal; contents = is } };
      }),
      h,
      e,
    ) refl)
