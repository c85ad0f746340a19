-- Signed data as formats: their octets, and which error those have that are rejected (RFC 5280 4.1).
use Rattle.std.specs.Prelude.{ℕ, List}
use Rattle.rpki_der.specs.declared.error.DecodeError.{DecodeError}
use Rattle.rpki_der.specs.Prelude.{sequence, SpellsValue, HasEither, IsCaptureFault, OrMemoryWhere, TakesNoMemory}
use Rattle.rpki_der.specs.Prelude.{Format, around, then, only, said_by}
use Rattle.rpki.specs.SignedData.{SignedParts, IsSignedContents, SpellsSignature}
use Rattle.rpki.specs.KeyFault.{shared_bits}

-- a value; then an algorithm identifier of F; then the BIT STRING of a signature
abbrev pub three : {A C : Type 0} → Format (List ℕ) → Format A → Format C → Format (SignedParts A)
three V F M = said_by (IsSignedContents F.spells) (then V (then F M))

-- the three parts and nothing else, in a SEQUENCE
abbrev pub around_three : {A C : Type 0} → Format (List ℕ) → Format A → Format C → Format (SignedParts A)
around_three V F M = around sequence (only (three V F M))

-- a value that is shared, with an index of its headers: allocation may fail where a value begins
abbrev pub shared_value : Format (List ℕ)
shared_value = record { spells = SpellsValue; fault = OrMemoryWhere HasEither IsCaptureFault }

-- an algorithm identifier, by the octets and the errors of an algorithm; it is read without memory
abbrev pub named_by : {A : Type 0} → (A → List ℕ → Type 0) → (List ℕ → DecodeError → Type 0) → Format A
named_by spells fault = record { spells = spells; fault = TakesNoMemory fault }

-- the BIT STRING of a signature, which is shared
abbrev pub signature_bits : Format (List ℕ)
signature_bits = said_by SpellsSignature shared_bits

-- the three parts of signed data, by an algorithm; and signed data
abbrev pub signed_parts : {A : Type 0} → (A → List ℕ → Type 0) → (List ℕ → DecodeError → Type 0)
    → Format (SignedParts A)
signed_parts spells fault = three shared_value (named_by spells fault) signature_bits

abbrev pub signed_sequence : {A : Type 0} → (A → List ℕ → Type 0) → (List ℕ → DecodeError → Type 0)
    → Format (SignedParts A)
signed_sequence spells fault = around_three shared_value (named_by spells fault) signature_bits
