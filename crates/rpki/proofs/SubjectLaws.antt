-- The name of a subject is short.
use Rattle.std.proofs.Common.{◌≡◌, ℕ, ◌<◌, ◌≤◌, ◌^◌, true, false, List, length, arith, length-append}
use Rattle.rpki_der.specs.Prelude.{sequence, set, oid, printable_string, tlv}
use Rattle.rpki_der.proofs.EncodeLaws.{tlv_at_most}
use Rattle.rpki_text.specs.HexText.{hex_text}
use Rattle.rpki_text.proofs.HexLaws.{length-hex_text}
use Rattle.rpki.specs.Oids.{common_name}
use Rattle.rpki.specs.SubjectName.{attribute_contents}

pub digits-short : (k : List ℕ) → length k ≡ 20 → length (hex_text k) < 2 ^ 32
digits-short k size = omega (arith, length-hex_text k)

attribute-at-most : (k : List ℕ) → length k ≡ 20 → length (attribute_contents k) ≤ 63
attribute-at-most k size =
    omega (
      arith,
      length-hex_text k,
      length-append (tlv oid false common_name)
          (tlv printable_string false (hex_text k)),
      tlv_at_most oid false common_name,
      tlv_at_most printable_string false
          (hex_text k),
    )

pub attribute-short : (k : List ℕ) → length k ≡ 20 → length (attribute_contents k) < 2 ^ 32
attribute-short k size = omega (arith, attribute-at-most k size)

name-at-most : (k : List ℕ) → length k ≡ 20 → length (tlv sequence true (attribute_contents k)) ≤ 73
name-at-most k size = omega (arith, attribute-at-most k size, tlv_at_most sequence true (attribute_contents k))

pub name-short : (k : List ℕ) → length k ≡ 20 → length (tlv sequence true (attribute_contents k)) < 2 ^ 32
name-short k size = omega (arith, name-at-most k size)

pub set-short : (k : List ℕ) → length k ≡ 20 → length (tlv set true (tlv sequence true (attribute_contents k))) < 2 ^ 32
set-short k size = omega (arith, name-at-most k size, tlv_at_most set true (tlv sequence true (attribute_contents k)))
