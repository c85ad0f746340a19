-- Signed data by the algorithm of the RPKI, whose signature is whole octets (RFC 5280 4.1, RFC 7935 2).
use Rattle.std.specs.Prelude.{◌≡◌, ◌⊎◌, ℕ, Bool, false, List, codes}
use Rattle.rpki_der.specs.declared.error.DecodeError.{DecodeError}
use Rattle.rpki_der.specs.Prelude.{Format, Finds, SpellsLeaf, IsBits, Bits, bits_of, bits_value, bit_string, only}
use Rattle.rpki.specs.Oids.{sha256_with_rsa_encryption}
use Rattle.rpki.specs.Algorithm.{SpellsAlgorithm}
use Rattle.rpki.specs.AlgorithmFault.{algorithm}
use Rattle.rpki.specs.SignedData.{SignedParts, SpellsSigned}
use Rattle.rpki.specs.SignedFault.{signed_sequence}
use Rattle.rpki.specs.UnknownAlgorithm.{IsContentWith}

-- the algorithm of the RPKI, with parameters or without
abbrev pub SpellsRpkiAlgorithm : Bool → List ℕ → Type 0
SpellsRpkiAlgorithm = SpellsAlgorithm sha256_with_rsa_encryption

-- the algorithm, which takes no memory
abbrev pub rpki_algorithm : Format Bool
rpki_algorithm = algorithm sha256_with_rsa_encryption

-- signed data whose signature is whole octets, as those of RSA are (RFC 8017 8.2.1): no bit of it is unused
pub record SpellsWhole (x : SignedParts Bool) (p : List ℕ) : Type 0 where
  pub signed : SpellsSigned SpellsRpkiAlgorithm x p
  pub used : signed.spelled.signature.unused ≡ 0

-- not signed data; or signed data of whose signature bits are unused
abbrev pub IsWholeSignedFault : List ℕ → DecodeError → Type 0
IsWholeSignedFault s e =
    (signed_sequence SpellsRpkiAlgorithm rpki_algorithm.fault).fault s e
    ⊎ (Finds (SpellsSigned SpellsRpkiAlgorithm) s × IsContentWith (codes "signature has unused bits") e)

-- the BIT STRING of a signature, no bit of which is unused
abbrev pub SpellsUsed : List ℕ → List ℕ → Type 0
SpellsUsed value p = SpellsLeaf bit_string false IsBits (bits_of 0 value) p

-- all of s is to be a BIT STRING: it isn't; or bits of it are unused
abbrev pub IsSignatureFault : List ℕ → DecodeError → Type 0
IsSignatureFault s e =
    (only bits_value).fault s e
    ⊎ ((b : Bits) × SpellsLeaf bit_string false IsBits b s × (b.unused ≡ 0 → ⊥)
    × IsContentWith (codes "signature has unused bits") e)
