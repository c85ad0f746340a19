-- The name of a subject of the RPKI: one common name (RFC 5280 4.1.2.4 and A.1, RFC 6487 4.5).
use Rattle.std.specs.Prelude.{ℕ, true, false, List, ◌++◌}
use Rattle.rpki_der.specs.Prelude.{sequence, set, oid, printable_string, tlv}
use Rattle.rpki.specs.Oids.{common_name}
use Rattle.rpki_text.specs.HexText.{hex_text}

-- a common name: a PrintableString of the key identifier in hexadecimal digits
abbrev pub attribute_contents : List ℕ → List ℕ
attribute_contents k = tlv oid false common_name ++ tlv printable_string false (hex_text k)

-- a SEQUENCE of one SET of one attribute
abbrev pub subject_octets : List ℕ → List ℕ
subject_octets k = tlv sequence true (tlv set true (tlv sequence true (attribute_contents k)))
