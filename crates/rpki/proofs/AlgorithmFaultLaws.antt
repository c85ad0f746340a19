-- The errors of algorithm identifiers: none is an allocation failure, and where there is no SEQUENCE it is that of one.
use Rattle.std.proofs.Common.{inl, inr, ℕ, true, false, List, Result, refl}
use Rattle.rpki_der.specs.declared.error.DecodeError.{DecodeError}
use Rattle.rpki_der.specs.declared.error.DecodeError.TheVariants.{OutOfMemory}
use Rattle.rpki_der.specs.Prelude.{oid, null, sequence, Reads, TakesNoMemory, SpellsLeaf, HasTag, IsLeafFault}
use Rattle.rpki_der.specs.Prelude.{IsOuterFault, IsNull, IsOidOf, IsOnly, FirstFault, IsEndFault}
use Rattle.rpki_der.proofs.LeavesLaws.{leaf-no-memory}
use Rattle.rpki_der.proofs.FirstFaultLaws.{first-no-memory, optional-no-memory, end-no-memory, inside-outer-exactly}
use Rattle.rpki_der.proofs.FirstFaultLaws.{reads-kind}
use Rattle.rpki_der.specs.Prelude.{only, any_oid, this_oid}
use Rattle.rpki.specs.Oids.{secp256r1}
use Rattle.rpki.specs.AlgorithmFault.{parameters, algorithm, bare, IsFormatRestFault, key_format}
use Rattle.rpki.specs.AlgorithmFault.{identified, format_parts}

pub parameters-never : (s : List ℕ) → parameters.fault s OutOfMemory → ⊥
parameters-never s = optional-no-memory (HasTag null) (SpellsLeaf null false IsNull) (IsLeafFault null false IsNull)
    IsEndFault s (λ h. leaf-no-memory null false IsNull s OutOfMemory h refl) end-no-memory

pub named-never : (o : List ℕ) (L : List ℕ → DecodeError → Type 0) (s : List ℕ) → ((r : List ℕ) → L r OutOfMemory → ⊥)
    → FirstFault (this_oid o).spells (this_oid o).fault (λ v. L) s OutOfMemory → ⊥
named-never o L s f =
    first-no-memory (SpellsLeaf oid false (IsOnly o)) (IsLeafFault oid false (IsOnly o)) (λ v. L) s
    (λ h. leaf-no-memory oid false (IsOnly o) s OutOfMemory h refl) (λ v r. f r)

any-named-never : (L : List ℕ → List ℕ → DecodeError → Type 0) (s : List ℕ) → ((x r : List ℕ) → L x r OutOfMemory → ⊥)
    → FirstFault any_oid.spells any_oid.fault L s OutOfMemory → ⊥
any-named-never L s f = first-no-memory (SpellsLeaf oid false IsOidOf) (IsLeafFault oid false IsOidOf) L s
    (λ h. leaf-no-memory oid false IsOidOf s OutOfMemory h refl) f

format-rest-never : (x r : List ℕ) → IsFormatRestFault x r OutOfMemory → ⊥
format-rest-never x r (inl h) = parameters-never r h.1
format-rest-never x r (inr (inl h)) = named-never secp256r1 IsEndFault r end-no-memory h.1
format-rest-never x r (inr (inr h)) = h.1

-- ---- each is as a reader that allocates nothing says it of a SEQUENCE

pub algorithm-outer : (o s : List ℕ) (e : DecodeError) → (algorithm o).fault s e → IsOuterFault sequence true s e
algorithm-outer o s e = inside-outer-exactly sequence true (identified o).fault s e
    (λ c. named-never o parameters.fault c parameters-never)

pub bare-outer : (o s : List ℕ) (e : DecodeError) → (bare o).fault s e → IsOuterFault sequence true s e
bare-outer o s e =
    inside-outer-exactly sequence true (only (this_oid o)).fault s e (λ c. named-never o IsEndFault c end-no-memory)

pub format-outer : (s : List ℕ) (e : DecodeError) → key_format.fault s e → IsOuterFault sequence true s e
format-outer s e = inside-outer-exactly sequence true format_parts.fault s e
    (λ c. any-named-never IsFormatRestFault c format-rest-never)

-- ---- a reader of an algorithm identifier never returns that allocation failed

pub algorithm-exactly : {X V : Type 0} (view : X → V) (G : V → List ℕ → Type 0) (o s r : List ℕ)
    (x : Result X DecodeError)
    → Reads view G (algorithm o).fault s r x → Reads view G (TakesNoMemory (algorithm o).fault) s r x
algorithm-exactly view G o s r x = reads-kind view G (algorithm o).fault (TakesNoMemory (algorithm o).fault) s r x
    (λ e h. record { other = (algorithm-outer o s e h).other; kind = h })

pub bare-exactly : {X V : Type 0} (view : X → V) (G : V → List ℕ → Type 0) (o s r : List ℕ) (x : Result X DecodeError)
    → Reads view G (bare o).fault s r x → Reads view G (TakesNoMemory (bare o).fault) s r x
bare-exactly view G o s r x = reads-kind view G (bare o).fault (TakesNoMemory (bare o).fault) s r x
    (λ e h. record { other = (bare-outer o s e h).other; kind = h })
