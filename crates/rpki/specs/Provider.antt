-- What a provider of digests and of checks of signatures returns: digests are functions of lists of octets, and a check
-- says exactly that a relation holds.
use Rattle.std.specs.Prelude.{ℕ, ◌≡◌, List}
use Rattle.rpki.specs.declared.crypto.keys.PublicKeyFormat.{PublicKeyFormat}
use Rattle.rpki.specs.declared.crypto.keys.PublicKeyFormat.TheVariants.{Rsa, EcdsaP256}
use Rattle.rpki.specs.PublicKey.{KeyParts}
use Rattle.rpki.specs.Signature.{SignatureParts}

-- which signatures verify: of the key's bits, the message and the signature
abbrev pub Check : Type 1
Check = List ℕ → List ℕ → List ℕ → Type 0

-- what a provider checks and digests with
pub record Checkers : Type 1 where
  pub rsa : Check
  pub ecdsa : Check
  pub sha1 : List ℕ → List ℕ
  pub sha256 : List ℕ → List ℕ

-- the check of a format of keys
abbrev pub check_of : Checkers → PublicKeyFormat → Check
check_of by Rsa = by.rsa
check_of by EcdsaP256 = by.ecdsa

-- The key's format is the required one, and the signature verifies by that format's check.
abbrev pub Verifies : Checkers → PublicKeyFormat → PublicKeyFormat → List ℕ → List ℕ → List ℕ → Type 0
Verifies by asked format bits message value = (format ≡ asked) × check_of by format bits message value

-- The signature of the message is by this key: its algorithm has keys of the key's format, and verifies.
abbrev pub VerifiesBy : {A : Type 0} → Checkers → (A → PublicKeyFormat) → KeyParts → List ℕ → SignatureParts A → Type 0
VerifiesBy by format key message signature =
    Verifies by (format signature.algorithm) key.format key.bits.octets message signature.value
