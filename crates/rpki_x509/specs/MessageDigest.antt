-- Digests of files on manifests: a BIT STRING (RFC 9286 4.2.1).
use Rattle.std.specs.Prelude.{◌≡◌, ℕ, List, ◌∷◌, length}
use Rattle.rpki_der.specs.Prelude.{Bits, Format, bits_value, such}

-- thirty-two octets, of SHA-256, and no bit is unused
pub record IsFileHash (hash : List ℕ) (bits : Bits) : Type 0 where
  pub octets : hash ≡ bits.octets
  pub used : bits.unused ≡ 0
  pub size : length bits.octets ≡ 32

abbrev pub file_hash : Format (List ℕ)
file_hash = such IsFileHash bits_value

-- its contents: no bit is unused
abbrev pub hash_contents : List ℕ → List ℕ
hash_contents digest = 0 ∷ digest
