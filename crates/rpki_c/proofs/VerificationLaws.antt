-- What the status of a signature says where it is not 0.
use Rattle.std.proofs.Common.{◌≡◌, ℕ, List, Bool, true, false, Err, inl, inr, refl, sym, subst, ◌∙◌, arith}
use Rattle.std.specs.Prelude.{◌↔◌, IsTrue}
use Rattle.std.proofs.lemmas.Bool.{false≢true}
use Rattle.sha2.specs.Sha256.{sha256}
use Rattle.rpki.specs.declared.crypto.keys.PublicKeyFormat.TheVariants.{Rsa}
use Rattle.rpki.specs.PublicKey.{KeyParts}
use Rattle.rpki_rsa.specs.declared.error.KeyError.{KeyError}
use Rattle.rpki_rsa.specs.Key.{SpellsKey as SpellsRsaKey, IsKeyOf, IsSignature}
use Rattle.rpki_rsa.specs.RsaKey.{RsaKey}
use Rattle.rpki_rsa.proofs.KeyLemmas.{one-key, no-key}
use Rattle.rpki_c.specs.Key.{IsVerifiedBy, HasSigned}

pub bad-signature : (k : KeyParts) (message signature : List ℕ) (key : RsaKey) (b : Bool) → k.format ≡ Rsa
    → SpellsRsaKey key k.bits.octets → (IsTrue b ↔ IsSignature key (sha256 message) signature) → b ≡ false
    → IsVerifiedBy k message signature 53
bad-signature k message signature key b format spelled is wrong =
    inr (inr (
      refl,
      record { format = format; key = key; spelled = spelled },
      λ h. let same = one-key k.bits.octets h.signed.key key h.signed.spelled spelled in
          let yes = is.1 (subst (λ (z : RsaKey). IsSignature z (sha256 message) signature) same h.signed.signed) in
          false≢true (sym wrong ∙ yes),
    ))

pub good-signature : (k : KeyParts) (message signature : List ℕ) (key : RsaKey) (b : Bool) → k.format ≡ Rsa
    → SpellsRsaKey key k.bits.octets → (IsTrue b ↔ IsSignature key (sha256 message) signature) → b ≡ true
    → IsVerifiedBy k message signature 0
good-signature k message signature key b format spelled is right =
    inl (refl, record { format = format; signed = record { key = key; spelled = spelled; signed = is.0 right } })

pub not-accepted : (k : KeyParts) (message signature : List ℕ) (e : KeyError) → IsKeyOf k.bits.octets (Err e)
    → IsVerifiedBy k message signature 52
not-accepted k message signature e h = inr (inl (refl, λ a. no-key k.bits.octets e a.key h a.spelled))

-- status 0: the key has signed the message
pub verified-signed : (k : KeyParts) (message signature : List ℕ) → IsVerifiedBy k message signature 0
    → HasSigned k message signature
verified-signed k message signature (inl h) = h.1
verified-signed k message signature (inr (inl h)) = absurd (omega (arith, h.0))
verified-signed k message signature (inr (inr h)) = absurd (omega (arith, h.0))
