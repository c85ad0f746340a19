-- A public key (RFC 8017 3.1), and the limbs that hold it.
use Rattle.std.specs.Prelude.{◌≡◌, ℕ, ◌*◌, ◌%◌, ◌≤◌, List}
use Rattle.rpki_rsa.specs.declared.limits.TheConstants.{LEAST_OCTETS, MOST_OCTETS, LIMB_OCTETS}
use Rattle.rpki_rsa.specs.Limbs.{value_below, limb_weight}
use Rattle.rpki_rsa.specs.Scaled.{IsScaled}

-- the modulus, how many octets it has, and the exponent
pub record RsaKey : Type 0 where
  pub modulus : ℕ
  pub size : ℕ
  pub exponent : ℕ

abbrev pub key_of_limbs : List ℕ → ℕ → ℕ → ℕ → RsaKey
key_of_limbs limbs len size exponent = record { modulus = value_below limbs len; size = size; exponent = exponent }

-- a key's limbs, made ready: square is that of the limbs' weight
pub record IsSound (limbs : List ℕ) (len : ℕ) (square : List ℕ) (size exponent : ℕ) : Type 0 where
  pub least : LEAST_OCTETS ≤ size
  pub most : size ≤ MOST_OCTETS
  pub fits : size ≤ LIMB_OCTETS * len
  pub proper : 3 ≤ exponent
  pub odd : exponent % 2 ≡ 1
  pub scaled : IsScaled limbs len (limb_weight len) square
