-- Formats of keys.
use Rattle.rpki.specs.declared.crypto.keys.PublicKeyFormat.{PublicKeyFormat}
use Rattle.rpki.specs.declared.crypto.keys.PublicKeyFormat.TheVariants.{Rsa, EcdsaP256}
use Rattle.rpki.specs.declared.crypto.SigningAlgorithm.{SigningAlgorithm}
use Rattle.rpki.specs.declared.crypto.SigningAlgorithm.TheVariants.{RsaSha256, EcdsaP256Sha256}

-- the format of the keys that an algorithm signs with
abbrev pub format_of : SigningAlgorithm → PublicKeyFormat
format_of RsaSha256 = Rsa
format_of EcdsaP256Sha256 = EcdsaP256
