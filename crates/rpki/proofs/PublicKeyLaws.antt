-- Public keys that are written, and the bits of RSA keys.
use Rattle.std.proofs.Common.{◌≡◌, ◌↔◌, ℕ, ◌+◌, ◌<◌, ◌≤◌, ◌^◌, true, false, List, [], ◌∷◌, ◌++◌, length, refl, sym}
use Rattle.std.proofs.Common.{Result, ap}
use Rattle.std.proofs.Common.{◌∙◌, arith, lit<, length-append}
use Rattle.rpki_der.specs.declared.error.DecodeError.{DecodeError}
use Rattle.rpki_der.specs.Prelude.{IsTag, oid, null, sequence, bit_string, integer, tlv, Spells, SpellsNothing}
use Rattle.rpki_der.specs.Prelude.{UnlessMemory, TakesNoMemory, IsWholeFault, Bits}
use Rattle.rpki_der.specs.Prelude.{bits_of, bits_contents, IsUnsigned, IsMagnitude, unsigned_contents, number_of}
use Rattle.rpki_der.specs.Prelude.{AreOctets, sequence_legal}
use Rattle.rpki_der.proofs.ReadingLaws.{UnlessMemory-weaker}
use Rattle.rpki_der.proofs.EncodeLaws.{leaf-legal, tlv-same, tlv-same-then, tlv-at-least, tlv_at_most, bits-same}
use Rattle.rpki_der.proofs.UnsignedLaws.{unsigned-spelled, unsigned-at-most, magnitude-at-most}
use Rattle.rpki.specs.declared.crypto.keys.PublicKeyFormat.{PublicKeyFormat}
use Rattle.rpki.specs.declared.crypto.keys.PublicKeyFormat.TheVariants.{Rsa, EcdsaP256}
use Rattle.rpki.specs.Oids.{rsa_encryption, ec_public_key, secp256r1}
use Rattle.rpki_der.specs.Format.{Format, TakesAll, then, only, said_by}
use Rattle.rpki_der.proofs.FormatLaws.{takes-said}
use Rattle.rpki.specs.AlgorithmFault.{key_format}
use Rattle.rpki.specs.KeyFormat.{format_contents, format_octets}
use Rattle.rpki.specs.RsaPublicKey.{AreRsaNumbers, SpellsRsaNumbers, rsa_public_key}
use Rattle.rpki.specs.PublicKey.{KeyParts, key_of, key_contents, key_octets, IsRsaKey}
use Rattle.rpki.proofs.FormatLaws.{format-short}

-- ---- keys that are written

pub bits-short : (k : KeyParts) → length (key_contents k) < 2 ^ 32 → length (bits_contents k.bits) < 2 ^ 32
bits-short k short =
    omega (
      arith,
      length-append (format_octets k.format) (tlv bit_string false (bits_contents k.bits)),
      tlv-at-least
          bit_string false (bits_contents k.bits),
    )

rsa-is-not-ec : (x y : List ℕ) → tlv oid false rsa_encryption ++ x ≡ tlv oid false ec_public_key ++ y → ⊥
rsa-is-not-ec x y e =
    let same = (tlv-same-then oid false rsa_encryption ec_public_key x y (lit< tt) (lit< tt) e).0 in cc

format-one : (f g : PublicKeyFormat) → format_contents f ≡ format_contents g → f ≡ g
format-one Rsa Rsa e = refl
format-one Rsa EcdsaP256 e = absurd (rsa-is-not-ec (tlv null false []) (tlv oid false secp256r1) e)
format-one EcdsaP256 Rsa e = absurd (rsa-is-not-ec (tlv null false []) (tlv oid false secp256r1) (sym e))
format-one EcdsaP256 EcdsaP256 e = refl

pub format-same : (f g : PublicKeyFormat) → (format_octets f ≡ format_octets g) ↔ (f ≡ g)
format-same f g = (
  λ e. format-one f g (tlv-same sequence true (format_contents f) (format_contents g) (format-short f) (format-short g)
      e),
  λ e. ap format_octets e,
)

pub same-bits-of : (a b : Bits) → a.unused ≡ b.unused → a.octets ≡ b.octets → a ≡ b
same-bits-of a b p q = ap (λ (u : ℕ). bits_of u a.octets) p ∙ ap (λ (o : List ℕ). bits_of b.unused o) q

pub same-key : (k l : KeyParts) → k.format ≡ l.format → k.bits ≡ l.bits → k ≡ l
same-key k l p q = ap (λ (f : PublicKeyFormat). key_of f k.bits) p ∙ ap (λ (b : Bits). key_of l.format b) q

pub key-same : (k l : KeyParts) → length (key_contents k) < 2 ^ 32 → length (key_contents l) < 2 ^ 32
    → (key_octets k ≡ key_octets l) ↔ (k ≡ l)
key-same k l short short' = (
  λ e.
      let c : format_octets k.format ++ tlv bit_string false (bits_contents k.bits) ≡ format_octets l.format ++ tlv
      bit_string false (bits_contents l.bits) =
      tlv-same sequence true (key_contents k) (key_contents l) short short' e in
      let p = tlv-same-then sequence true (format_contents k.format) (format_contents l.format)
      (tlv bit_string false (bits_contents k.bits)) (tlv bit_string false (bits_contents l.bits))
      (format-short k.format) (format-short l.format) c in
      let q = tlv-same bit_string false (bits_contents k.bits) (bits_contents l.bits) (bits-short k short)
      (bits-short l short') p.1 in
      same-key k l (format-one k.format l.format p.0) (bits-same k.bits l.bits q),
  λ e. ap key_octets e,
)

-- a key, by its two parts
abbrev pub key_pair : KeyParts → PublicKeyFormat × Bits
key_pair k = (k.format, k.bits)

-- what was read, with bits of either format
pub key-said : (B : Format Bits) (s r : List ℕ) (x : Result KeyParts DecodeError)
    → TakesAll key_pair (then key_format (only B)) s r x
    → TakesAll (λ k. k) (said_by (λ k. (then key_format B).spells (key_pair k)) (then key_format (only B))) s r x
key-said B =
    takes-said (λ k. k) (λ k. (then key_format B).spells (key_pair k)) (then key_format (only B)) key_pair
    (λ k s h. h) (λ k s h. h)
    (λ k l e. same-key k l (ap (λ (p : PublicKeyFormat × Bits). p.0) e) (ap (λ (p : PublicKeyFormat × Bits). p.1) e))

-- ---- the bits of RSA keys

as-bits : (s : List ℕ) (k : KeyParts) (r : List ℕ) (h : Spells IsRsaKey s k r)
    → Spells SpellsRsaNumbers s h.spelled.numbers.0 r
as-bits s k r h = record { front = h.front; parts = h.parts; spelled = h.spelled.numbers.1 }

as-key : (s : List ℕ) (n : ℕ × ℕ) (r : List ℕ) (h : Spells SpellsRsaNumbers s n r)
    → Spells IsRsaKey s (key_of Rsa (bits_of 0 h.front)) r
as-key s n r h = record {
  front = h.front;
  parts = h.parts;
  spelled = record { format = refl; bits = refl; numbers = (n, h.spelled) };
}

pub no-rsa-key : (s : List ℕ) (e : DecodeError)
    → UnlessMemory e (SpellsNothing SpellsRsaNumbers s)
    × TakesNoMemory (IsWholeFault SpellsRsaNumbers rsa_public_key.fault) s e
    → UnlessMemory e (SpellsNothing IsRsaKey s) × TakesNoMemory (IsWholeFault IsRsaKey rsa_public_key.fault) s e
no-rsa-key s e h = (
  UnlessMemory-weaker e (λ none k g. none g.numbers.0 g.numbers.1) h.0,
  record {
    other = h.1.other;
    kind = record {
      trailing = λ k b more g. h.1.kind.trailing _ b more (as-bits s k (b ∷ more) g);
      kind = λ none. h.1.kind.kind (λ v r g. none (key_of Rsa (bits_of 0 g.front)) r (as-key s v r g));
      memory = λ z. absurd (h.1.other z);
    };
  },
)

pub is-rsa-key : (p : List ℕ) (n : ℕ × ℕ) → SpellsRsaNumbers n p
    → IsRsaKey (key_of Rsa (bits_of 0 p)) p × ((w : KeyParts) → IsRsaKey w p → w ≡ key_of Rsa (bits_of 0 p))
is-rsa-key p n h = (
  record { format = refl; bits = refl; numbers = (n, h) },
  λ w k. λ i. key_of (k.format i) (k.bits i),
)

pub integer-legal : IsTag integer
integer-legal = record { below = lit< tt; named = λ u. lit< tt }

pub numbers-short : (m n : List ℕ) → length m + length n ≤ 2 ^ 31
    → length (tlv integer false (unsigned_contents m) ++ tlv integer false (unsigned_contents n)) < 2 ^ 32
numbers-short m n short =
    omega (
      arith,
      length-append (tlv integer false (unsigned_contents m)) (tlv integer false (unsigned_contents n)),
      tlv_at_most integer false (unsigned_contents m),
      tlv_at_most integer false (unsigned_contents n),
      unsigned-at-most m,
      unsigned-at-most n,
    )

-- the two numbers that are written
pub numbers-spelled : (m n : List ℕ) → IsMagnitude m → IsMagnitude n → length m + length n ≤ 2 ^ 31
    → SpellsRsaNumbers (number_of m, number_of n)
    (tlv sequence true (tlv integer false (unsigned_contents m) ++ tlv integer false (unsigned_contents n)))
numbers-spelled m n p q short =
    let one = tlv integer false (unsigned_contents m) in
    let two = tlv integer false (unsigned_contents n) in
    let sizes : length (one ++ two) < 2 ^ 32 = numbers-short m n short in
    leaf-legal sequence true AreRsaNumbers (number_of m, number_of n) (one ++ two) sequence_legal sizes (record {
      first = one;
      second = two;
      parts = refl;
      one = leaf-legal integer false IsUnsigned (number_of m) (unsigned_contents m) integer-legal
          (omega (arith, unsigned-at-most m)) (unsigned-spelled m p);
      two = leaf-legal integer false IsUnsigned (number_of n) (unsigned_contents n) integer-legal
          (omega (arith, unsigned-at-most n)) (unsigned-spelled n q);
    })

some-octets : (s : List ℕ) → (s ≡ [] → ⊥) → 0 < length s
some-octets [] ne = absurd (ne refl)
some-octets (x ∷ s) ne = omega arith

-- the numbers of two slices
pub shorter : (u s : List ℕ) → IsMagnitude u → AreOctets s → (s ≡ [] → ⊥) → number_of u ≡ number_of s
    → length u ≤ length s
shorter u s m o ne e = magnitude-at-most u s m o (some-octets s ne) e

abbrev pub two_integers : List ℕ → List ℕ → List ℕ
two_integers m n = tlv integer false (unsigned_contents m) ++ tlv integer false (unsigned_contents n)

pub rsa-bits : (modulus exponent m n octets : List ℕ) → IsMagnitude m → IsMagnitude n → length m + length n ≤ 2 ^ 31
    → number_of m ≡ number_of modulus → number_of n ≡ number_of exponent
    → octets ≡ tlv sequence true (two_integers m n) → SpellsRsaNumbers (number_of modulus, number_of exponent) octets
rsa-bits modulus exponent m n octets p q short e f is =
    let h : SpellsRsaNumbers (number_of m, number_of n) octets = rw is (numbers-spelled m n p q short) in
    rw (← e, ← f) h
