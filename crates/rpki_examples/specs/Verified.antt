-- Signed data that a key has signed, as a provider's checks say.
use Rattle.std.specs.Prelude.{ℕ, List}
use Rattle.rpki_der.specs.declared.error.DecodeError.{DecodeError}
use Rattle.rpki_der.specs.Prelude.{SpellsNothing, UnlessMemory, IsWholeFault}
use Rattle.rpki.specs.Prelude.{Checkers, Verifies, KeyParts, SignedParts, SpellsSigned, signed_sequence}
use Rattle.rpki.specs.declared.crypto.keys.PublicKeyFormat.{PublicKeyFormat}
use Rattle.rpki_examples.specs.declared.verification.Unverified.{Unverified}
use Rattle.rpki_examples.specs.declared.verification.Unverified.TheVariants.{Malformed, NotSigned}

-- the signature verifies under the key, over exactly the slice that is signed
abbrev pub HasSigned : {A : Type 0} → (A → PublicKeyFormat) → Checkers → KeyParts → SignedParts A → Type 0
HasSigned format by key d = Verifies by (format d.algorithm) key.format key.bits.octets d.signed d.value

-- the octets spell the signed data, and the key has signed it
abbrev pub IsVerified : {A : Type 0} → (A → List ℕ → Type 0) → (A → PublicKeyFormat) → Checkers → KeyParts → List ℕ
    → SignedParts A → Type 0
IsVerified spells format by key octets d = SpellsSigned spells d octets × HasSigned format by key d

-- The error of octets that are no signed data: `Trailing` where signed data is followed by something; else that of the
-- SEQUENCE or of the first of its parts that isn't there.
abbrev pub IsMalformed : {A : Type 0} → (A → List ℕ → Type 0) → (List ℕ → DecodeError → Type 0) → List ℕ → DecodeError
    → Type 0
IsMalformed spells fault = IsWholeFault (SpellsSigned spells) (signed_sequence spells fault).fault

-- the octets spell none, or one that the key has not signed
abbrev pub IsUnverified : {A : Type 0} → (A → List ℕ → Type 0) → (List ℕ → DecodeError → Type 0) → (A → PublicKeyFormat)
    → Checkers → KeyParts → List ℕ → Unverified → Type 0
IsUnverified spells fault format by key octets (Malformed e) =
    UnlessMemory e (SpellsNothing (SpellsSigned spells) octets) × IsMalformed spells fault octets e
IsUnverified {A} spells fault format by key octets NotSigned =
    (d : SignedParts A) × SpellsSigned spells d octets × (HasSigned format by key d → ⊥)
