-- The errors of public keys: where allocation may fail, and where there is no SEQUENCE.
use Rattle.std.proofs.Common.{ℕ, true, false, List, refl}
use Rattle.rpki_der.specs.declared.error.DecodeError.{DecodeError}
use Rattle.rpki_der.specs.declared.error.DecodeError.TheVariants.{OutOfMemory}
use Rattle.rpki_der.specs.Prelude.{sequence, bit_string, SpellsLeaf, IsLeafFault, IsOuterFault, IsBits, FirstFault}
use Rattle.rpki_der.specs.Prelude.{IsEndFault}
use Rattle.rpki_der.proofs.LeavesLaws.{leaf-no-memory}
use Rattle.rpki_der.proofs.FirstFaultLaws.{first-no-memory, end-no-memory, inside-outer-exactly}
use Rattle.rpki.specs.KeyFormat.{SpellsFormat}
use Rattle.rpki.specs.AlgorithmFault.{key_format}
use Rattle.rpki.specs.KeyFault.{key_view_parts, key_view}
use Rattle.rpki.proofs.AlgorithmFaultLaws.{format-outer}

view-parts-never : (c : List ℕ) → key_view_parts.fault c OutOfMemory → ⊥
view-parts-never c =
    let B = SpellsLeaf bit_string false IsBits in
    let K : List ℕ → DecodeError → Type 0 = IsLeafFault bit_string false IsBits in
    first-no-memory SpellsFormat key_format.fault (λ f. FirstFault B K (λ b. IsEndFault)) c
    (λ h. (format-outer c OutOfMemory h).other refl)
    (λ f r. first-no-memory B K (λ b. IsEndFault) r (λ h. leaf-no-memory bit_string false IsBits r OutOfMemory h refl)
    (λ b q. end-no-memory q))

-- a key whose bits are borrowed allocates nothing
pub view-outer : (s : List ℕ) (e : DecodeError) → key_view.fault s e → IsOuterFault sequence true s e
view-outer s e = inside-outer-exactly sequence true key_view_parts.fault s e view-parts-never
