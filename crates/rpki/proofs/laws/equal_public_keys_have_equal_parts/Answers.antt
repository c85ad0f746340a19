use Rattle.std.proofs.Common.{◌≡◌, ◌&&◌, IsTrue, nat_eq, refl, subst}
use Rattle.std.specs.Cmp.Lexicographic.{pointwise}
use Rattle.std.proofs.lemmas.Bool.{eqb-true, eq-eqb}
use Rattle.std.proofs.lemmas.Slice.Eq.{bytes_eq-Decides}
use denote.Enum.Bare.{sameb}
use Rattle.rpki.specs.contracts.crypto.keys.PublicKeyFormat.{the_type}
use Rattle.rpki.specs.declared.crypto.keys.PublicKeyFormat.{PublicKeyFormat}
use Rattle.rpki.specs.declared.crypto.keys.PublicKeyFormat.TheVariants.{Rsa, EcdsaP256}
use Rattle.rpki_der.specs.Prelude.{Bits, same_bits}
use Rattle.rpki.specs.PublicKey.{KeyParts}
use Rattle.rpki.proofs.NamedLaws.{and-first, and-second, and-both}
use Rattle.rpki.proofs.PublicKeyLaws.{same-key, same-bits-of}
use Rattle.rpki.proofs.laws.equal_public_keys_have_equal_parts.Goals as goal

formats-same : (f g : PublicKeyFormat) → IsTrue (sameb the_type f g) → f ≡ g
formats-same Rsa Rsa h = refl
formats-same Rsa EcdsaP256 h = absurd (cc)
formats-same EcdsaP256 Rsa h = absurd (cc)
formats-same EcdsaP256 EcdsaP256 h = refl

format-itself : (f : PublicKeyFormat) → IsTrue (sameb the_type f f)
format-itself Rsa = refl
format-itself EcdsaP256 = refl

bits-same : (a b : Bits) → IsTrue (same_bits a b) → a ≡ b
bits-same a b h =
    same-bits-of a b (eqb-true a.unused b.unused
    (and-first (nat_eq a.unused b.unused) (pointwise nat_eq a.octets b.octets) h))
    ((bytes_eq-Decides a.octets b.octets).0
    (and-second (nat_eq a.unused b.unused) (pointwise nat_eq a.octets b.octets) h))

bits-itself : (a : Bits) → IsTrue (same_bits a a)
bits-itself a = and-both (nat_eq a.unused a.unused) (pointwise nat_eq a.octets a.octets) (eq-eqb a.unused a.unused refl)
    ((bytes_eq-Decides a.octets a.octets).1 refl)

key-itself : (k : KeyParts) → IsTrue (sameb the_type k.format k.format && same_bits k.bits k.bits)
key-itself k =
    and-both (sameb the_type k.format k.format) (same_bits k.bits k.bits) (format-itself k.format) (bits-itself k.bits)

pub returns : goal.returns
returns c = λ k l. (
  λ h. same-key k l (formats-same k.format l.format
      (and-first (sameb the_type k.format l.format) (same_bits k.bits l.bits) h))
      (bits-same k.bits l.bits (and-second (sameb the_type k.format l.format) (same_bits k.bits l.bits) h)),
  λ e. subst (λ (x : KeyParts). IsTrue (sameb the_type k.format x.format && same_bits k.bits x.bits)) e (key-itself k),
)
