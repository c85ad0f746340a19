-- Signed data: a SEQUENCE of one value, an algorithm identifier and a BIT STRING (RFC 5280 4.1).
use Rattle.std.specs.Prelude.{◌≡◌, ◌↔◌, ◌<◌, ◌^◌, ℕ, Bool, true, false, IsTrue, List, ◌++◌, ◌∷◌, length}
use Rattle.rpki_der.specs.Prelude.{sequence, bit_string, tlv, SpellsLeaf, IsBits, bits_of, bits_contents, IsValue}
use Rattle.rpki.specs.Signature.{SignatureParts, signature_of}

-- what is signed, by which algorithm, and the signature
pub record SignedParts (A : Type 0) : Type 0 where
  pub signed : List ℕ
  pub algorithm : A
  pub value : List ℕ

abbrev pub parts_of : {A : Type 0} → List ℕ → A → List ℕ → SignedParts A
parts_of d a v = record { signed = d; algorithm = a; value = v }

-- a signature: a BIT STRING, whose count of unused bits is no part of the value
pub record SpellsSignature (value p : List ℕ) : Type 0 where
  pub unused : ℕ
  pub string : SpellsLeaf bit_string false IsBits (bits_of unused value) p

-- the three parts, in sequence
pub record IsSignedContents {A : Type 0} (spells : A → List ℕ → Type 0) (x : SignedParts A) (c : List ℕ) : Type 0 where
  pub text : List ℕ
  pub bits : List ℕ
  pub parts : c ≡ x.signed ++ text ++ bits
  pub one : IsValue x.signed
  pub named : spells x.algorithm text
  pub signature : SpellsSignature x.value bits

abbrev pub SpellsSigned : {A : Type 0} → (A → List ℕ → Type 0) → SignedParts A → List ℕ → Type 0
SpellsSigned spells = SpellsLeaf sequence true (IsSignedContents spells)

-- the algorithm and the octets of the signature
abbrev pub signature_in : {A : Type 0} → SignedParts A → SignatureParts A
signature_in x = signature_of x.algorithm x.value

-- the BIT STRING of a signature, and signed data of these parts
abbrev pub signature_octets : ℕ → List ℕ → List ℕ
signature_octets unused value = tlv bit_string false (bits_contents (bits_of unused value))

abbrev pub signed_octets : List ℕ → List ℕ → ℕ → List ℕ → List ℕ
signed_octets d text unused value = tlv sequence true (d ++ text ++ signature_octets unused value)

-- what is written: exactly the signed slice, the algorithm as it is written, and no unused bits
abbrev pub written_contents : {A : Type 0} → (A → List ℕ) → SignedParts A → List ℕ
written_contents written x = x.signed ++ written x.algorithm ++ signature_octets 0 x.value

abbrev pub written_signed : {A : Type 0} → (A → List ℕ) → SignedParts A → List ℕ
written_signed written x = tlv sequence true (written_contents written x)

-- what is read of it
abbrev pub normal_parts : {A : Type 0} → (A → A) → SignedParts A → SignedParts A
normal_parts norm x = parts_of x.signed (norm x.algorithm) x.value

-- two lists that differ at most in the octet before the signature's, the count of unused bits
pub record DifferInCount (value a b : List ℕ) : Type 0 where
  pub front : List ℕ
  pub first : ℕ
  pub second : ℕ
  pub one : a ≡ front ++ first ∷ value
  pub other : b ≡ front ++ second ∷ value

-- an algorithm has one spelling
abbrev pub HasOneSpelling : {A : Type 0} → (A → List ℕ → Type 0) → A → Type 0
HasOneSpelling spells a = (s t : List ℕ) → spells a s → spells a t → s ≡ t

-- Signed data that is in these octets is written as they are exactly where its algorithm is spelled there as it is
-- written, and no bit is unused.
abbrev pub IsWrittenAgain : {A : Type 0} → (A → List ℕ → Type 0) → (A → List ℕ) → SignedParts A → List ℕ → Type 0
IsWrittenAgain spells written x octets = (text : List ℕ) (unused : ℕ) → spells x.algorithm text
    → octets ≡ signed_octets x.signed text unused x.value
    → (written_signed written x ≡ octets) ↔ ((text ≡ written x.algorithm) × (unused ≡ 0))

-- where its algorithm has one spelling, all its octets differ from these in the count of unused bits alone
abbrev pub DiffersInCountAlone : {A : Type 0} → (A → List ℕ → Type 0) → SignedParts A → List ℕ → Type 0
DiffersInCountAlone spells x octets = (other : List ℕ) → SpellsSigned spells x other → HasOneSpelling spells x.algorithm
    → DifferInCount x.value octets other

-- a length announces what is written
abbrev pub IsShortSigned : {A : Type 0} → (A → List ℕ) → SignedParts A → Type 0
IsShortSigned written x = length (written_contents written x) < 2 ^ 32

-- other signed data is written as this is exactly where the normal forms are equal
abbrev pub IsWrittenApart : {A : Type 0} → (A → List ℕ) → (A → A) → SignedParts A → Type 0
IsWrittenApart {A} written norm x = (other : SignedParts A) → IsValue other.signed → IsShortSigned written x
    → IsShortSigned written other
    → (written_signed written x ≡ written_signed written other) ↔ (normal_parts norm x ≡ normal_parts norm other)

-- octets of signed data that is equal differ in the count of unused bits alone
abbrev pub DifferWhereEqual : {A : Type 0} → (SignedParts A → SignedParts A → Bool) → (A → List ℕ → Type 0) → Type 0
DifferWhereEqual {A} same spells = (v w : SignedParts A) (a b : List ℕ) → IsTrue (same v w) → SpellsSigned spells v a
    → SpellsSigned spells w b → DifferInCount v.value a b
