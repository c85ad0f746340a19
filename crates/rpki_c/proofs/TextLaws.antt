-- Hexadecimal digits, and texts in base 64.
use Rattle.std.proofs.Common.{ℕ, zero, suc, ◌/◌, ◌%◌, ◌<◌, List, [], ◌∷◌, map, arith, sym, subst, ◌≡◌, ◌^◌, Bool, true}
use Rattle.std.proofs.Common.{false, length, replicate, length-append}
use Rattle.std.proofs.lemmas.Bool.Decides.{nat_tests}
use Rattle.std.proofs.lemmas.Str.{IsUtf8-from_ascii}
use Rattle.std.specs.Char.{to_ascii_uppercase}
use Rattle.std.specs.Str.{IsAscii, IsUtf8}
use Rattle.rpki_der.specs.Number.{AreOctets}
use Rattle.rpki_text.specs.HexText.{hex_digit, hex_text}
use Rattle.rpki.specs.KeyIdentifier.{IsHexOf}
use Rattle.std.proofs.lemmas.List.{length-replicate}
use Rattle.base64.specs.Rfc4648.{encode, encode_symbols, encoded_size, padding_len}
use Rattle.base64.proofs.RoundTrip.{length-encode_symbols}

-- ---- Forty hexadecimal digits are ASCII

digit-ascii : (n : ℕ) → n < 16 → hex_digit n < 128
digit-ascii n h = grind (arith, nat_tests)

text-ascii : (k : List ℕ) → AreOctets k → IsAscii (hex_text k)
text-ascii [] o i = omega arith
text-ascii (b ∷ k) o zero = digit-ascii (b / 16) (omega (arith, o.0))
text-ascii (b ∷ k) o (suc zero) = digit-ascii (b % 16) (omega arith)
text-ascii (b ∷ k) o (suc (suc i)) = text-ascii k o.1 i

upper-ascii : (c : ℕ) → to_ascii_uppercase c < 128 → c < 128
upper-ascii c h = grind (arith, nat_tests)

spelled-ascii : (text : List ℕ) → IsAscii (map to_ascii_uppercase text) → IsAscii text
spelled-ascii [] h i = omega arith
spelled-ascii (c ∷ text) h zero = upper-ascii c (h zero)
spelled-ascii (c ∷ text) h (suc i) = spelled-ascii text (λ j. h (suc j)) i

pub hex-IsUtf8 : (k text : List ℕ) → IsHexOf k text → IsUtf8 text
hex-IsUtf8 k text h =
    IsUtf8-from_ascii text (spelled-ascii text (subst IsAscii (sym h.digits) (text-ascii k h.octets)))

-- ---- How many characters a text in base 64 has

pub encoded-length : (t : List ℕ) (pad : ℕ) (padding : Bool) (m : List ℕ)
    → length (encode t pad padding m) ≡ encoded_size (length m) padding
encoded-length t pad true m =
    let end = replicate (padding_len (length m)) pad in
    let size = length-replicate (padding_len (length m)) pad in
    omega (arith, length-append (encode_symbols t m) end, length-encode_symbols t m, size)
encoded-length t pad false m = omega (arith, length-append (encode_symbols t m) [], length-encode_symbols t m)

-- it fits a word
pub encoded-small : (n : ℕ) (padding : Bool) → n < 2 ^ 63 → encoded_size n padding < 2 ^ 64
encoded-small n true h = omega arith
encoded-small n false h = omega arith
