-- Public keys, their identifiers, and signatures by them.
use Rattle.std.specs.Prelude.{◌≡◌, ◌⊎◌, ℕ, List}
use Rattle.sha1.specs.Sha1.{sha1}
use Rattle.rpki_der.specs.declared.error.DecodeError.{DecodeError}
use Rattle.rpki_der.specs.Error.{error_number}
use Rattle.rpki_der.specs.Reading.{IsWholeFault}
use Rattle.rpki.specs.PublicKey.{KeyParts, SpellsKey}
use Rattle.rpki.specs.KeyFormat.{SpellsFormat}
use Rattle.rpki.specs.KeyFault.{key, key_view}
use Rattle.rpki.specs.declared.crypto.keys.PublicKeyFormat.{PublicKeyFormat}
use Rattle.rpki_c.specs.declared.keys.KeyParts.{KeyParts as Parts}
use Rattle.rpki_c.specs.Status.{other_algorithm, content, key_not_accepted, bad_signature}
use Rattle.rpki_c.specs.Identifier.{IsOther, HoldsFirst}
use Rattle.rpki_c.specs.Whole.{IsRefused, NeverMemory}
use Rattle.rpki.specs.KeyIdentifier.{IsKeyIdentifier, SpellsKeyIdentifier, IsIdentifierFault, IsHexOf}
use Rattle.sha2.specs.Sha256.{sha256}
use Rattle.rpki.specs.declared.crypto.keys.PublicKeyFormat.TheVariants.{Rsa}
use Rattle.rpki_rsa.specs.Key.{SpellsKey as SpellsRsaKey, IsSignatureBy}
use Rattle.rpki_rsa.specs.RsaKey.{RsaKey}

-- ---- What a status says of the octets of a public key

-- the error of a reader of one public key and of nothing else, which allocates nothing
abbrev pub IsWholeKeyFault : List ℕ → DecodeError → Type 0
IsWholeKeyFault = NeverMemory SpellsKey key_view.fault

-- the same where the bits are kept
abbrev pub IsKeptKeyFault : List ℕ → DecodeError → Type 0
IsKeptKeyFault = IsWholeFault SpellsKey key.fault

-- a SEQUENCE that begins with the identifier of another algorithm than those of the formats; whatever follows
abbrev pub IsOtherKey : List ℕ → Type 0
IsOtherKey = HoldsFirst (IsOther SpellsFormat)

-- the number of an error of a public key, and another one where the identifier of its algorithm is another one
abbrev pub IsKeyStatus : List ℕ → DecodeError → ℕ → Type 0
IsKeyStatus s e status =
    ((status ≡ other_algorithm) × IsOtherKey s) ⊎ ((status ≡ error_number e) × (IsOtherKey s → ⊥))

-- The octets are no public key. 13: the identifier of its algorithm is another one. Else the number of the error, which
-- K says.
abbrev pub IsNoKey : (List ℕ → DecodeError → Type 0) → List ℕ → ℕ → Type 0
IsNoKey K s status =
    ((status ≡ other_algorithm) × IsOtherKey s) ⊎ ((IsOtherKey s → ⊥) × IsRefused SpellsKey K s status)

-- how a format is passed
abbrev pub format_number : PublicKeyFormat → ℕ
format_number PublicKeyFormat.Rsa = 0
format_number PublicKeyFormat.EcdsaP256 = 1

-- the octets are a public key: its format, its bits, and how many of them are unused
pub record HasKey (s : List ℕ) (p : Parts) : Type 0 where
  pub key : KeyParts
  pub spelled : SpellsKey key s
  pub format : p.format ≡ format_number key.format
  pub unused : p.unused ≡ key.bits.unused
  pub bits : p.bits.octets.now ≡ key.bits.octets

-- Status 0: the octets are a public key of these parts. 13: the identifier of its algorithm is another one. Else the
-- number of the error. Only with 0 is anything written.
abbrev pub IsKeyRead : List ℕ → ℕ → Parts → Parts → Type 0
IsKeyRead s status old new =
    ((status ≡ 0) × HasKey s new) ⊎ (IsNoKey IsWholeKeyFault s status × (new ≡ old))

-- the octets are a public key, and the twenty octets are the SHA-1 digest of its bits
pub record HasIdentifier (s twenty : List ℕ) : Type 0 where
  pub key : KeyParts
  pub spelled : SpellsKey key s
  pub digest : twenty ≡ sha1 key.bits.octets

-- Status 0: the octets are a public key, and its identifier was written. 13: the identifier of its algorithm is another
-- one. Else the number of the error. Only with 0 is anything written.
abbrev pub IsIdentified : List ℕ → ℕ → List ℕ → List ℕ → Type 0
IsIdentified s status old new =
    ((status ≡ 0) × HasIdentifier s new) ⊎ (IsNoKey IsWholeKeyFault s status × (new ≡ old))

-- ---- What a status says of a key identifier, as a value and as hexadecimal digits (RFC 6487 4.8.2)

-- the error of a reader of one key identifier and nothing else
abbrev pub IsWholeIdentifierFault : List ℕ → DecodeError → Type 0
IsWholeIdentifierFault = NeverMemory SpellsKeyIdentifier (IsIdentifierFault IsKeyIdentifier)

-- Status 0: the octets are a key identifier, and its twenty octets were written. Else the number of the error, and
-- nothing is written.
abbrev pub IsIdentifierRead : List ℕ → ℕ → List ℕ → List ℕ → Type 0
IsIdentifierRead s status old new =
    ((status ≡ 0) × SpellsKeyIdentifier new s)
    ⊎ (IsRefused SpellsKeyIdentifier IsWholeIdentifierFault s status × (new ≡ old))

-- Status 0: the text is forty hexadecimal digits, and the octets that they write were written. 5: it is not, and
-- nothing was written.
abbrev pub IsHexRead : List ℕ → ℕ → List ℕ → List ℕ → Type 0
IsHexRead text status old new =
    ((status ≡ 0) × IsHexOf new text) ⊎ ((status ≡ content) × ((k : List ℕ) → IsHexOf k text → ⊥) × (new ≡ old))

-- ---- Signatures by RSA with PKCS #1 v1.5 padding and SHA-256 (RFC 8017 8.2.2)

-- a key that signatures are verified by: one by RSA, whose bits are those of a key that is accepted
pub record IsAcceptedKey (k : KeyParts) : Type 0 where
  pub format : k.format ≡ Rsa
  pub key : RsaKey
  pub spelled : SpellsRsaKey key k.bits.octets

-- the signature is one of the message by the key
pub record HasSigned (k : KeyParts) (message signature : List ℕ) : Type 0 where
  pub format : k.format ≡ Rsa
  pub signed : IsSignatureBy k.bits.octets (sha256 message) signature

-- Status 0: the signature is one of the message by the key. 52: the key isn't accepted. 53: it is, and the signature is
-- not one of the message by it.
abbrev pub IsVerifiedBy : KeyParts → List ℕ → List ℕ → ℕ → Type 0
IsVerifiedBy k message signature status =
    ((status ≡ 0) × HasSigned k message signature)
    ⊎ ((status ≡ key_not_accepted) × (IsAcceptedKey k → ⊥))
    ⊎ ((status ≡ bad_signature) × IsAcceptedKey k × (HasSigned k message signature → ⊥))

-- The octets are a public key, and the status is that of its signature. 13: the identifier of its algorithm is another
-- one. Else the number of the error.
abbrev pub IsVerified : List ℕ → List ℕ → List ℕ → ℕ → Type 0
IsVerified s message signature status =
    ((k : KeyParts) × SpellsKey k s × IsVerifiedBy k message signature status) ⊎ IsNoKey IsWholeKeyFault s status
