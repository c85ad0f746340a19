-- Leaves: primitive values, whose contents a function decides. The relations of rpki_der say the same (Leaves.antt,
-- Integer.antt, Text.antt), and the proofs show it in both directions.
use Rattle.std.specs.Prelude.{ℕ, Bool, true, false, ◌&&◌, ◌||◌, ◌%◌, ◌^◌, ◌-◌, List, [], ◌∷◌, Result, Ok, Err}
use Rattle.std.specs.Prelude.{if◌then◌else◌, length, Option, Some, None, nat_lt, nat_eq, slice_index}
use Rattle.std.specs.List.{list_all}
use Rattle.std.specs.Str.{bytes_eq, is_utf8}
use Rattle.rpki_der.specs.TagName.{TagName}
use Rattle.rpki_der.specs.Leaves.{Bits, bits_of}
use Rattle.rpki_der.specs.Number.{number_of}
use Rattle.rpki_der.specs.Text.{are_printable}
use Rattle.rpki_parse.specs.Words.{Parser, bind}
use Rattle.rpki_parse.specs.Value.{value_at}

-- what contents stand for, and what follows the value; contents that stand for nothing are error 5
abbrev pub decided : {V : Type 0} → Option V → List ℕ → Result (V × List ℕ) ℕ
decided (Some v) r = Ok (v, r)
decided None r = Err 5

-- a primitive value of this tag, whose contents d decides
unfoldable pub leaf_at : {V : Type 0} → TagName → (List ℕ → Option V) → Parser V
leaf_at t d s = bind (value_at t false s) (λ c. decided (d c.0) c.1)

abbrev pub some_if : {V : Type 0} → Bool → V → Option V
some_if true v = Some v
some_if false v = None

-- NULL: no octet (X.690 8.8.2)
abbrev pub null_in : List ℕ → Option (Unit {0})
null_in [] = Some tt
null_in (x ∷ xs) = None

-- BOOLEAN: one octet, all of whose bits are 1 for true and 0 for false (X.690 8.2.2, 11.1)
abbrev pub boolean_in : List ℕ → Option Bool
boolean_in [] = None
boolean_in (x ∷ []) = if nat_eq x 255 then Some true else some_if (nat_eq x 0) false
boolean_in (x ∷ y ∷ ys) = None

-- INTEGER: an octet at least, with the first bit 0, that of the sign; the first nine bits aren't all 0 (X.690 8.3.2)
abbrev pub is_minimal : List ℕ → Bool
is_minimal [] = false
is_minimal (x ∷ []) = nat_lt x 128
is_minimal (x ∷ y ∷ ys) = nat_lt x 128 && (nat_lt 0 x || nat_lt 127 y)

-- of any number that isn't negative; of one below the bound; of this number
abbrev pub unsigned_in : List ℕ → Option ℕ
unsigned_in c = some_if (is_minimal c) (number_of c)

abbrev pub below_in : ℕ → List ℕ → Option ℕ
below_in b c = some_if (is_minimal c && nat_lt (number_of c) b) (number_of c)

abbrev pub number_in : ℕ → List ℕ → Option (Unit {0})
number_in n c = some_if (is_minimal c && nat_eq (number_of c) n) tt

-- OCTET STRING of this many octets (X.690 8.7)
abbrev pub sized_in : ℕ → List ℕ → Option (List ℕ)
sized_in n c = some_if (nat_eq (length c) n) c

-- OBJECT IDENTIFIER: subidentifiers, whose last octet is below 128 and the others aren't; none begins with 128
-- (X.690 8.19.2). b says whether the next octet begins one.
abbrev pub oid_from : Bool → List ℕ → Bool
oid_from b [] = b
oid_from true (x ∷ xs) = if nat_eq x 128 then false else oid_from (nat_lt x 128) xs
oid_from false (x ∷ xs) = oid_from (nat_lt x 128) xs

abbrev pub is_oid : List ℕ → Bool
is_oid [] = false
is_oid (x ∷ xs) = oid_from true (x ∷ xs)

abbrev pub oid_in : List ℕ → Option (List ℕ)
oid_in c = some_if (is_oid c) c

-- of these contents alone
abbrev pub only_in : List ℕ → List ℕ → Option (Unit {0})
only_in expected c = some_if (bytes_eq c expected) tt

-- BIT STRING: at most 7 bits of the last octet aren't used, none where there is no octet, and they are 0 (X.690 8.6.2,
-- 11.2.1)
abbrev pub bits_legal : ℕ → List ℕ → Bool
bits_legal u [] = nat_eq u 0
bits_legal u (x ∷ xs) = nat_lt u 8 && nat_eq (slice_index (x ∷ xs) (length (x ∷ xs) - 1) % 2 ^ u) 0

abbrev pub bits_in : List ℕ → Option Bits
bits_in [] = None
bits_in (u ∷ o) = some_if (bits_legal u o) (bits_of u o)

-- PrintableString (X.680 41.4), UTF8String (X.690 8.23.10), IA5String: octets below 128 (X.680 41.1)
abbrev pub printable_in : List ℕ → Option (List ℕ)
printable_in c = some_if (are_printable c) c

abbrev pub utf8_in : List ℕ → Option (List ℕ)
utf8_in c = some_if (is_utf8 c) c

abbrev pub ia5_in : List ℕ → Option (List ℕ)
ia5_in c = some_if (list_all (λ x. nat_lt x 128) c) c
