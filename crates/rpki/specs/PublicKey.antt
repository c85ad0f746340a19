-- Public keys (SubjectPublicKeyInfo, RFC 5280 4.1 and 4.1.2.7).
use Rattle.std.specs.Prelude.{◌≡◌, ◌↔◌, ◌<◌, ◌^◌, ℕ, true, false, List, ◌++◌, length}
use Rattle.rpki_der.specs.Prelude.{sequence, bit_string, tlv, SpellsLeaf, Bits, IsBits, bits_of, bits_contents}
use Rattle.rpki.specs.RsaPublicKey.{SpellsRsaNumbers}
use Rattle.rpki.specs.declared.crypto.keys.PublicKeyFormat.{PublicKeyFormat}
use Rattle.rpki.specs.declared.crypto.keys.PublicKeyFormat.TheVariants.{Rsa}
use Rattle.rpki.specs.AnyValue.{SpellsAny}
use Rattle.rpki_der.specs.Parts.{SpellsBoth}
use Rattle.rpki.specs.KeyFormat.{SpellsFormat, format_octets}

-- the format, and the bits of the key
pub record KeyParts : Type 0 where
  pub format : PublicKeyFormat
  pub bits : Bits

abbrev pub key_of : PublicKeyFormat → Bits → KeyParts
key_of format bits = record { format = format; bits = bits }

-- the two, one after the other
abbrev pub IsKeyContents : KeyParts → List ℕ → Type 0
IsKeyContents k c = SpellsBoth SpellsFormat (SpellsLeaf bit_string false IsBits) k.format k.bits c

abbrev pub SpellsKey : KeyParts → List ℕ → Type 0
SpellsKey = SpellsLeaf sequence true IsKeyContents

-- what is written
abbrev pub key_contents : KeyParts → List ℕ
key_contents k = format_octets k.format ++ tlv bit_string false (bits_contents k.bits)

abbrev pub key_octets : KeyParts → List ℕ
key_octets k = tlv sequence true (key_contents k)

-- the RSA key with these bits, which spell a modulus and an exponent (RFC 8017 A.1.1)
pub record IsRsaKey (k : KeyParts) (p : List ℕ) : Type 0 where
  pub format : k.format ≡ Rsa
  pub bits : k.bits ≡ bits_of 0 p
  pub numbers : SpellsAny SpellsRsaNumbers tt p

-- a length announces the contents
abbrev pub IsShortKey : KeyParts → Type 0
IsShortKey k = length (key_contents k) < 2 ^ 32

-- other keys have the same encoding exactly where they are equal
abbrev pub IsKeyApart : KeyParts → Type 0
IsKeyApart k = (other : KeyParts) → IsShortKey k → IsShortKey other → (key_octets k ≡ key_octets other) ↔ (k ≡ other)
