-- The formats of primitive values (X.690 8.2 to 8.19): one word each for all that are made of them.
use Rattle.std.specs.Prelude.{ℕ, Bool, List}
use Rattle.rpki_der.specs.TagName.{boolean, integer, bit_string, octet_string, null, oid}
use Rattle.rpki_der.specs.Integer.{IsUnsigned, IsUnsignedBelow, IsNumber}
use Rattle.rpki_der.specs.Leaves.{Bits, IsBits, IsBoolean, IsNull, IsOidOf, IsOnly, IsSized}
use Rattle.rpki_der.specs.Format.{Format, leaf}

abbrev pub boolean_value : Format Bool
boolean_value = leaf boolean IsBoolean

-- a non-negative INTEGER; one below a bound
abbrev pub unsigned_value : Format ℕ
unsigned_value = leaf integer IsUnsigned

abbrev pub unsigned_below : ℕ → Format ℕ
unsigned_below bound = leaf integer (IsUnsignedBelow bound)

-- this INTEGER and no other
abbrev pub this_number : ℕ → Format (Unit {0})
this_number n = leaf integer (IsNumber n)

abbrev pub bits_value : Format Bits
bits_value = leaf bit_string IsBits

-- an OCTET STRING of this many octets
abbrev pub octets_sized : ℕ → Format (List ℕ)
octets_sized size = leaf octet_string (IsSized size)

abbrev pub null_value : Format (Unit {0})
null_value = leaf null IsNull

-- an OBJECT IDENTIFIER, by its contents octets; this one and no other
abbrev pub any_oid : Format (List ℕ)
any_oid = leaf oid IsOidOf

abbrev pub this_oid : List ℕ → Format (Unit {0})
this_oid octets = leaf oid (IsOnly octets)
