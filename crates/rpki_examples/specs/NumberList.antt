-- A structure of one's own: SEQUENCE { version [0] EXPLICIT INTEGER (0..255), purpose OBJECT IDENTIFIER, numbers
-- SEQUENCE OF INTEGER (0..18446744073709551615) }.
use Rattle.std.specs.Prelude.{ℕ, ◌^◌, List}
use Rattle.rpki_der.specs.declared.tag.Class.TheVariants.{Context}
use Rattle.rpki_der.specs.Prelude.{TagName, tag_of, integer, oid, sequence, IsOidOf, IsUnsignedBelow, Format, leaf}
use Rattle.rpki_der.specs.Prelude.{around, only, then, each}
use Rattle.rpki_examples.specs.declared.number_list.NumberList.{NumberList}

-- the version; the octets of the purpose; the numbers
abbrev pub parts_of : NumberList → ℕ × (List ℕ × List ℕ)
parts_of x = (x.version, (x.purpose.0.now, x.numbers.items))

abbrev pub version_tag : TagName
version_tag = tag_of Context 0

abbrev pub byte : Format ℕ
byte = leaf integer (IsUnsignedBelow (2 ^ 8))

abbrev pub version : Format ℕ
version = around version_tag (only byte)

abbrev pub purpose : Format (List ℕ)
purpose = leaf oid IsOidOf

abbrev pub number : Format ℕ
number = leaf integer (IsUnsignedBelow (2 ^ 64))

-- the contents of the SEQUENCE OF; allocation fails only where there is a number to keep
abbrev pub each_number : Format (List ℕ)
each_number = each number

abbrev pub numbers : Format (List ℕ)
numbers = around sequence each_number

-- the three, in order, and nothing else
abbrev pub parts : Format (ℕ × (List ℕ × List ℕ))
parts = then version (then purpose (only numbers))

abbrev pub number_list : Format (ℕ × (List ℕ × List ℕ))
number_list = around sequence parts
