-- Extensions of certificates (RFC 5280 4.1): an identifier, whether the extension is critical, and an OCTET STRING.
use Rattle.std.specs.Prelude.{ℕ, Bool, true, false, List, [], ◌∷◌, ◌++◌}
use Rattle.rpki_der.specs.Prelude.{sequence, oid, boolean, octet_string, tlv}

-- TRUE alone is written, since FALSE is the default (X.690 11.5)
abbrev pub critical_octets : Bool → List ℕ
critical_octets true = tlv boolean false (255 ∷ [])
critical_octets false = []

-- the contents of the SEQUENCE, of these contents of the identifier and of the OCTET STRING
abbrev pub extension_contents : List ℕ → Bool → List ℕ → List ℕ
extension_contents identifier critical content =
    tlv oid false identifier ++ critical_octets critical ++ tlv octet_string false content

abbrev pub extension_octets : List ℕ → Bool → List ℕ → List ℕ
extension_octets identifier critical content = tlv sequence true (extension_contents identifier critical content)
