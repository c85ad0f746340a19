-- How many bits a public key has.
use Rattle.std.specs.Prelude.{◌≡◌, ◌⊎◌, ℕ, List, codes, decimal}
use Rattle.rpki_der.specs.Integer.{IsMagnitude}
use Rattle.rpki_der.specs.Reading.{SpellsNothing}
use Rattle.rpki.specs.declared.crypto.keys.PublicKeyFormat.{PublicKeyFormat}
use Rattle.rpki.specs.declared.crypto.keys.PublicKeyFormat.TheVariants.{Rsa, EcdsaP256}
use Rattle.rpki.specs.PublicKey.{KeyParts}
use Rattle.rpki.specs.KeySize.{number_bits}
use Rattle.rpki.specs.RsaPublicKey.{RsaOctets, SpellsRsaNumbers, numbers_of}

-- the bits spell a modulus, and this is how many bits it has, in decimal digits
pub record HasRsaSize (bits text : List ℕ) : Type 0 where
  pub octets : RsaOctets
  pub spelled : SpellsRsaNumbers (numbers_of octets) bits
  pub magnitude : IsMagnitude octets.modulus
  pub size : text ≡ decimal (number_bits octets.modulus)

-- how many bits the modulus has, in decimal digits; or that the bits are those of no RSA key
abbrev pub IsRsaSize : List ℕ → List ℕ → Type 0
IsRsaSize bits text = HasRsaSize bits text ⊎ (SpellsNothing SpellsRsaNumbers bits × (text ≡ codes "malformed"))

-- how many bits a key has: 256 on P-256 (RFC 8608 3.1), of RSA those of the modulus
abbrev pub IsSizeOf : PublicKeyFormat → List ℕ → List ℕ → Type 0
IsSizeOf EcdsaP256 bits text = text ≡ codes "256"
IsSizeOf Rsa bits text = IsRsaSize bits text

abbrev pub IsSizeText : KeyParts → List ℕ → Type 0
IsSizeText k text = IsSizeOf k.format k.bits.octets text
