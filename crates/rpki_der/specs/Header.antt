-- Headers as whole lists of octets (X.690 8.1.2, 8.1.3 and 10.1).
use Rattle.std.specs.Prelude.{ℕ, zero, suc, Bool, true, false, ◌+◌, ◌*◌, ◌/◌, ◌%◌, ◌^◌, ◌<◌, ◌==◌, nat_lt}
use Rattle.std.specs.Prelude.{if◌then◌else◌, List, [], ◌∷◌, ◌++◌, length}
use Rattle.rpki_der.specs.declared.tag.Class.{Class}
use Rattle.rpki_der.specs.declared.tag.Class.TheVariants.{Universal, Application, Context, Private}
use Rattle.rpki_der.specs.declared.tag.Header.{Header}
use Rattle.rpki_der.specs.TagName.{TagName, IsTag}

-- the digits of n in a base, most significant first, each with a mark added: none for 0, and at most k
unfoldable pub digits : (base mark k n : ℕ) → List ℕ
digits base mark zero n = []
digits base mark (suc k) n = if n == 0 then [] else digits base mark k (n / base) ++ (mark + n % base) ∷ []

-- a class in the two top bits of an octet (X.690 8.1.2.2, table 1)
abbrev pub class_number : Class → ℕ
class_number Universal = 0
class_number Application = 1
class_number Context = 2
class_number Private = 3

-- bit 6 is 1 for a constructed value (X.690 8.1.2.3, 8.1.2.5)
abbrev pub form_number : Bool → ℕ
form_number true = 1
form_number false = 0

-- the first identifier octet, with these five low bits
abbrev pub lead : TagName → Bool → ℕ → ℕ
lead t constructed low = 64 * class_number t.class + 32 * form_number constructed + low

-- the identifier octets of a tag in a form: a number of 31 or more is written after the first octet in digits of base
-- 128, all but the last with the top bit set (X.690 8.1.2.2 and 8.1.2.4)
unfoldable pub identifier_octets : TagName → Bool → List ℕ
identifier_octets t constructed =
    if nat_lt t.number 31
    then lead t constructed t.number ∷ []
    else lead t constructed 31 ∷ (digits 128 128 3 (t.number / 128) ++ (t.number % 128) ∷ [])

-- the length octets of n below 2 ^ 32, in the shortest definite form (X.690 8.1.3.3 to 8.1.3.5, 10.1)
unfoldable pub length_octets : ℕ → List ℕ
length_octets n = if nat_lt n 128 then n ∷ [] else (128 + length (digits 256 0 4 n)) ∷ digits 256 0 4 n

-- what has a header
pub record IsHeader (h : Header) : Type 0 where
  pub tag : IsTag h.tag
  pub length : h.length < 2 ^ 32

-- a header's octets
abbrev pub header_octets : Header → List ℕ
header_octets h = identifier_octets h.tag h.constructed ++ length_octets h.length

-- the value of this tag, form and contents (X.690 8.1.1)
abbrev pub tlv : TagName → Bool → List ℕ → List ℕ
tlv t constructed contents = identifier_octets t constructed ++ length_octets (length contents) ++ contents
