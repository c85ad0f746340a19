-- The bits of an RSA key: an RSAPublicKey, the SEQUENCE of a modulus and a public exponent (RFC 8017 A.1.1, RFC 3279
-- 2.3.1).
use Rattle.std.specs.Prelude.{ℕ, true, false, List}
use Rattle.rpki_der.specs.Prelude.{sequence, integer, SpellsLeaf, IsUnsigned, SpellsBoth, number_of}
use Rattle.rpki_der.specs.Prelude.{Format, around, then, only, unsigned_value}

-- the octets of the modulus and of the exponent, without leading zeros
pub record RsaOctets : Type 0 where
  pub modulus : List ℕ
  pub exponent : List ℕ

abbrev pub octets_of : List ℕ → List ℕ → RsaOctets
octets_of modulus exponent = record { modulus = modulus; exponent = exponent }

-- the numbers that they write
abbrev pub numbers_of : RsaOctets → ℕ × ℕ
numbers_of octets = (number_of octets.modulus, number_of octets.exponent)

-- modulus and exponent, two non-negative INTEGERs
abbrev pub AreRsaNumbers : ℕ × ℕ → List ℕ → Type 0
AreRsaNumbers n c = SpellsBoth (SpellsLeaf integer false IsUnsigned) (SpellsLeaf integer false IsUnsigned) n.0 n.1 c

-- the SEQUENCE of the two
abbrev pub SpellsRsaNumbers : ℕ × ℕ → List ℕ → Type 0
SpellsRsaNumbers = SpellsLeaf sequence true AreRsaNumbers

-- the same as formats, which say which error is leftmost: the one; then the other; then nothing
abbrev pub rsa_numbers : Format (ℕ × ℕ)
rsa_numbers = then unsigned_value (only unsigned_value)

abbrev pub rsa_public_key : Format (ℕ × ℕ)
rsa_public_key = around sequence rsa_numbers
