-- The texts of errors, and which are equal.
use Rattle.std.specs.Prelude.{◌≡◌, ℕ, Bool, List, IsTrue, codes}
use Rattle.rpki_der.specs.declared.error.DecodeError.{DecodeError}
use Rattle.rpki_der.specs.Prelude.{error_text}
use Rattle.rpki_rsa.specs.declared.error.KeyError.{KeyError}
use Rattle.rpki_rsa.specs.declared.error.KeyError.TheVariants.{Malformed, ShortModulus, LongModulus, EvenModulus}
use Rattle.rpki_rsa.specs.declared.error.KeyError.TheVariants.{LargeExponent, EvenExponent, ExponentOne}

-- the text of an error: of octets that are no RSAPublicKey, that of what is wrong with them
abbrev pub key_error_text : KeyError → List ℕ
key_error_text (Malformed e) = error_text e
key_error_text ShortModulus = codes "modulus of fewer than 2,048 bits"
key_error_text LongModulus = codes "modulus of more than 4,096 bits"
key_error_text EvenModulus = codes "even modulus"
key_error_text LargeExponent = codes "exponent of 2^64 or more"
key_error_text EvenExponent = codes "even exponent"
key_error_text ExponentOne = codes "exponent of 1"

-- the errors are one; of octets that are no RSAPublicKey, what is wrong with them is equal
abbrev pub AreSameErrors : (DecodeError → DecodeError → Bool) → KeyError → KeyError → Type 0
AreSameErrors eq (Malformed d) (Malformed e) = IsTrue (eq d e)
AreSameErrors eq x y = x ≡ y
