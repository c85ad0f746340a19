-- The bits of an RSA key spell one pair of numbers, and reading them allocates nothing.
use Rattle.std.proofs.Common.{◌≡◌, ℕ, true, false, List, [], length, arith, refl, sym, ap, ◌∙◌}
use Rattle.rpki_der.specs.declared.error.DecodeError.{DecodeError}
use Rattle.rpki_der.specs.declared.error.DecodeError.TheVariants.{OutOfMemory}
use Rattle.rpki_der.specs.Prelude.{sequence, integer, number_of, IsUnsigned, IsMagnitude, SpellsLeaf, IsLeafFault}
use Rattle.rpki_der.specs.Prelude.{Refusal, UnlessMemory, SpellsNothing, IsWholeFault, TakesNoMemory, FirstFault}
use Rattle.rpki_der.specs.Prelude.{IsEndFault, only, unsigned_value, low_octets, low_octets-full}
use Rattle.rpki_der.proofs.ComposedLaws.{not-read, spelled-whole}
use Rattle.rpki_der.proofs.FirstFaultLaws.{first-no-memory, end-no-memory, inside-outer-exactly}
use Rattle.rpki_der.proofs.IntegerLaws.{one-number}
use Rattle.rpki_der.proofs.LeavesLaws.{leaf-no-memory}
use Rattle.rpki_der.proofs.OneFormatLaws.{IsLawful, leaf-lawful, only-lawful, then-lawful, around-lawful}
use Rattle.rpki_der.proofs.UnsignedLaws.{magnitude-at-most}
use Rattle.rpki.specs.RsaPublicKey.{SpellsRsaNumbers, rsa_numbers, rsa_public_key}

-- ---- no allocation

never : (c : List ℕ) → rsa_numbers.fault c OutOfMemory → ⊥
never c =
    let U : ℕ → List ℕ → Type 0 = SpellsLeaf integer false IsUnsigned in
    let K : List ℕ → DecodeError → Type 0 = IsLeafFault integer false IsUnsigned in
    first-no-memory U K (λ m. FirstFault U K (λ n. IsEndFault)) c
    (λ h. leaf-no-memory integer false IsUnsigned c OutOfMemory h refl)
    (λ m r. first-no-memory U K (λ n. IsEndFault) r (λ h. leaf-no-memory integer false IsUnsigned r OutOfMemory h refl)
    (λ n q. end-no-memory q))

pub whole-refused : (s r : List ℕ) (e : DecodeError) → Refusal SpellsRsaNumbers rsa_public_key.fault s r e
    → UnlessMemory e (SpellsNothing SpellsRsaNumbers s)
    × TakesNoMemory (IsWholeFault SpellsRsaNumbers rsa_public_key.fault) s e
whole-refused s r e h =
    let k = not-read SpellsRsaNumbers rsa_public_key.fault s r e h in
    (k.0, record { other = (inside-outer-exactly sequence true rsa_numbers.fault s e never h.kind).other; kind = k.1 })

-- ---- one pair of numbers

unsigned-lawful : IsLawful unsigned_value
unsigned-lawful = leaf-lawful integer IsUnsigned (λ c m n g h. one-number m n c g h)

lawful : IsLawful rsa_public_key
lawful =
    around-lawful sequence rsa_numbers
    (then-lawful unsigned_value (only unsigned_value) unsigned-lawful (only-lawful unsigned_value unsigned-lawful))

pub one-numbers : (s : List ℕ) (m n : ℕ × ℕ) → SpellsRsaNumbers m s → SpellsRsaNumbers n s → m ≡ n
one-numbers s m n g h =
    (lawful.one s m n [] [] (spelled-whole SpellsRsaNumbers s m g) (spelled-whole SpellsRsaNumbers s n h)).0

-- a number has one magnitude
pub one-magnitude : (a b : List ℕ) → IsMagnitude a → IsMagnitude b → number_of a ≡ number_of b → a ≡ b
one-magnitude a b m k e =
    let most = magnitude-at-most a b m k.each k.nonempty e in
    let least = magnitude-at-most b a k m.each m.nonempty (sym e) in
    let same : length a ≡ length b = omega arith in
    sym (low_octets-full a (length b) same m.each) ∙ ap (λ (n : ℕ). low_octets (length b) n) e
    ∙ low_octets-full b (length b) refl k.each
