-- The keys of certificates of the RPKI (RFC 7935 3) and of BGPsec routers (RFC 8608 3.1).
use Rattle.std.specs.Prelude.{◌≡◌, ◌≤◌, ◌<◌, ◌^◌, ℕ, true, false, List, [], ◌∷◌, length, slice_index}
use Rattle.rpki_der.specs.TagName.{integer, sequence}
use Rattle.rpki_der.specs.Values.{SpellsLeaf}
use Rattle.rpki_der.specs.Leaves.{IsOnly}
use Rattle.rpki_der.specs.Integer.{IsUnsigned}
use Rattle.rpki_der.specs.Parts.{Then}
use Rattle.rpki.specs.declared.crypto.keys.PublicKeyFormat.TheVariants.{Rsa, EcdsaP256}
use Rattle.rpki.specs.AnyValue.{SpellsAny}
use Rattle.rpki.specs.PublicKey.{KeyParts}

-- ---- RSA: RSAPublicKey, a SEQUENCE of modulus and exponent (RFC 8017 A.1.1)

-- a modulus of 2,048 bits (RFC 7935 3)
pub record IsModulus (n : ℕ) : Type 0 where
  pub least : 2 ^ 2047 ≤ n
  pub most : n < 2 ^ 2048

-- the contents of the INTEGER of such a modulus
pub record AreModulus (n : ℕ) (c : List ℕ) : Type 0 where
  pub size : IsModulus n
  pub contents : IsUnsigned n c

abbrev pub SpellsModulus : ℕ → List ℕ → Type 0
SpellsModulus = SpellsLeaf integer false AreModulus

-- the contents octets of the INTEGER 65537 (X.690 8.3, RFC 7935 3)
abbrev pub exponent : List ℕ
exponent = 1 ∷ 0 ∷ 1 ∷ []

abbrev pub SpellsExponent : Unit {0} → List ℕ → Type 0
SpellsExponent = SpellsLeaf integer false (IsOnly exponent)

abbrev pub AreRsaParts : ℕ × Unit {0} → List ℕ → Type 0
AreRsaParts = Then SpellsModulus SpellsExponent

abbrev pub SpellsRsaKey : ℕ × Unit {0} → List ℕ → Type 0
SpellsRsaKey = SpellsLeaf sequence true AreRsaParts

-- an RSA key of such a modulus and of that exponent, and no bit is unused
pub record IsRpkiKey (k : KeyParts) : Type 0 where
  pub format : k.format ≡ Rsa
  pub unused : k.bits.unused ≡ 0
  pub bits : SpellsAny SpellsRsaKey tt k.bits.octets

-- ---- P-256

-- an uncompressed point, 04 and two coordinates of 32 octets (RFC 5480 2.2), and no bit is unused
pub record IsRouterKey (k : KeyParts) : Type 0 where
  pub format : k.format ≡ EcdsaP256
  pub unused : k.bits.unused ≡ 0
  pub size : length k.bits.octets ≡ 65
  pub form : slice_index k.bits.octets 0 ≡ 4
