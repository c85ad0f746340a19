-- Formats of keys, as algorithm identifiers (RFC 5280 4.1.2.7).
use Rattle.std.specs.Prelude.{◌≡◌, ◌⊎◌, ℕ, Bool, true, false, List, ◌++◌}
use Rattle.rpki_der.specs.Prelude.{oid, sequence, tlv, SpellsLeaf, IsOnly}
use Rattle.rpki.specs.declared.crypto.keys.PublicKeyFormat.{PublicKeyFormat}
use Rattle.rpki.specs.declared.crypto.keys.PublicKeyFormat.TheVariants.{Rsa, EcdsaP256}
use Rattle.rpki.specs.Oids.{rsa_encryption, ec_public_key, secp256r1}
use Rattle.rpki.specs.Algorithm.{IsIdentified}
use Rattle.rpki.specs.AlgorithmOctets.{identified_octets}
use Rattle.rpki_der.specs.Parts.{SpellsBoth}

-- rsaEncryption, with a NULL or without (RFC 3279 2.3.1, RFC 7935 3.1); id-ecPublicKey and the curve P-256
-- (RFC 5480 2.1.1, RFC 8608 3.1)
abbrev pub IsFormatContents : PublicKeyFormat → List ℕ → Type 0
IsFormatContents Rsa c = (present : Bool) × IsIdentified rsa_encryption present c
IsFormatContents EcdsaP256 c = SpellsBoth (SpellsLeaf oid false (IsOnly ec_public_key))
    (SpellsLeaf oid false (IsOnly secp256r1)) tt tt c

-- the algorithm identifier of a format of keys
abbrev pub SpellsFormat : PublicKeyFormat → List ℕ → Type 0
SpellsFormat = SpellsLeaf sequence true IsFormatContents

-- the object identifiers of the formats
abbrev pub IsFormatName : List ℕ → Type 0
IsFormatName o = (o ≡ rsa_encryption) ⊎ (o ≡ ec_public_key)

-- what is written: an RSA key has a NULL
abbrev pub format_contents : PublicKeyFormat → List ℕ
format_contents Rsa = identified_octets rsa_encryption true
format_contents EcdsaP256 = tlv oid false ec_public_key ++ tlv oid false secp256r1

abbrev pub format_octets : PublicKeyFormat → List ℕ
format_octets f = tlv sequence true (format_contents f)
