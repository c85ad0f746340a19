-- Which keys are accepted, and which octets are their signatures: RSASSA-PKCS1-v1_5 with SHA-256 (RFC 8017 8.2.2).
use Rattle.std.specs.Prelude.{◌≡◌, ℕ, ◌%◌, ◌^◌, ◌<◌, ◌==◌, nat_lt, nat_le, if◌then◌else◌, List, length}
use Rattle.std.specs.Prelude.{Option, Some, None, Result, Ok, Err}
use Rattle.rpki_der.specs.Prelude.{number_of, IsMagnitude, SpellsNothing}
use Rattle.rpki_der.specs.Reading.{NeverMemory}
use Rattle.rpki_rsa.specs.declared.error.KeyError.{KeyError}
use Rattle.rpki_rsa.specs.declared.error.KeyError.TheVariants.{Malformed, ShortModulus, LongModulus, EvenModulus}
use Rattle.rpki_rsa.specs.declared.error.KeyError.TheVariants.{LargeExponent, EvenExponent, ExponentOne}
use Rattle.rpki_rsa.specs.declared.limits.TheConstants.{LEAST_BITS, MOST_BITS}
use Rattle.rpki_rsa.specs.Encoding.{encoded_digest}
use Rattle.rpki.specs.KeySize.{number_bits}
use Rattle.rpki_rsa.specs.RsaKey.{RsaKey}
use Rattle.rpki.specs.RsaPublicKey.{RsaOctets, SpellsRsaNumbers, numbers_of, rsa_public_key}

-- the key of these octets of a modulus and an exponent
abbrev pub key_of : RsaOctets → RsaKey
key_of octets = record {
  modulus = number_of octets.modulus;
  size = length octets.modulus;
  exponent = number_of octets.exponent;
}

-- Which rule the two break, the first of these: an odd modulus of 2,048 to 4,096 bits; an odd exponent below 2^64,
-- not 1.
abbrev pub key_fault : RsaOctets → Option KeyError
key_fault octets =
    let modulus = octets.modulus in
    let exponent = number_of octets.exponent in
    if nat_lt (number_bits modulus) LEAST_BITS then Some ShortModulus
    else if nat_lt MOST_BITS (number_bits modulus) then Some LongModulus
    else if number_of modulus % 2 == 0 then Some EvenModulus
    else if nat_le (2 ^ 64) exponent then Some LargeExponent
    else if exponent % 2 == 0 then Some EvenExponent
    else if exponent == 1 then Some ExponentOne
    else None

-- the bits spell these numbers, given by their octets without leading zeros
pub record SpellsOctets (octets : RsaOctets) (bits : List ℕ) : Type 0 where
  pub numbers : SpellsRsaNumbers (numbers_of octets) bits
  pub modulus : IsMagnitude octets.modulus
  pub exponent : IsMagnitude octets.exponent

-- the bits are those of this key, which is accepted
pub record SpellsKey (key : RsaKey) (bits : List ℕ) : Type 0 where
  pub octets : RsaOctets
  pub spelled : SpellsOctets octets bits
  pub accepted : key_fault octets ≡ None
  pub is : key ≡ key_of octets

-- the bits are those of a key that breaks a rule, this one first
pub record BreaksRule (error : KeyError) (bits : List ℕ) : Type 0 where
  pub octets : RsaOctets
  pub spelled : SpellsOctets octets bits
  pub broken : key_fault octets ≡ Some error

-- what there is to say of bits: their key; or what is wrong with them, the leftmost error where they spell no numbers
abbrev pub IsKeyOf : List ℕ → Result RsaKey KeyError → Type 0
IsKeyOf bits (Ok key) = SpellsKey key bits
IsKeyOf bits (Err (Malformed e)) =
    SpellsNothing SpellsRsaNumbers bits × NeverMemory SpellsRsaNumbers rsa_public_key.fault bits e
IsKeyOf bits (Err ShortModulus) = BreaksRule ShortModulus bits
IsKeyOf bits (Err LongModulus) = BreaksRule LongModulus bits
IsKeyOf bits (Err EvenModulus) = BreaksRule EvenModulus bits
IsKeyOf bits (Err LargeExponent) = BreaksRule LargeExponent bits
IsKeyOf bits (Err EvenExponent) = BreaksRule EvenExponent bits
IsKeyOf bits (Err ExponentOne) = BreaksRule ExponentOne bits

-- the octets are a signature of the message with this digest
pub record IsSignature (key : RsaKey) (digest signature : List ℕ) : Type 0 where
  pub length_is : length signature ≡ key.size
  pub below : number_of signature < key.modulus
  pub power : number_of signature ^ key.exponent % key.modulus ≡ number_of (encoded_digest digest key.size)

-- the octets are a signature by the key that these bits are
pub record IsSignatureBy (bits digest signature : List ℕ) : Type 0 where
  pub key : RsaKey
  pub spelled : SpellsKey key bits
  pub signed : IsSignature key digest signature
