-- Faults of an input.
use Rattle.std.proofs.Common.{◌≡◌, ◌≢◌, ◌↔◌, refl, ℕ, ◌+◌, ◌<◌, ◌≤◌, ◌^◌, inl, inr, Bool, false, IsTrue}
use Rattle.std.proofs.Common.{List, arith}
use Rattle.std.proofs.lemmas.Bool.{cases_lt}
use Rattle.rpki_der.specs.declared.error.DecodeError.{DecodeError}
use Rattle.rpki_der.specs.declared.error.DecodeError.TheVariants.{Truncated, BadTag, BadLength, Unexpected, Content}
use Rattle.rpki_der.specs.declared.error.DecodeError.TheVariants.{Trailing, OutOfMemory}
use Rattle.rpki_der.specs.Reading.{SpellsNothing, IsWholeFault}
use Rattle.rpki_der.specs.Reading.{UnlessMemory as UnlessNoMemory}
use Rattle.rpki_der.proofs.ReadingLaws.{memory-or-not, unless-memory}
use Rattle.rpkibasic.specs.declared.fault.Fault.{Fault}
use Rattle.rpkibasic.specs.declared.fault.Fault.TheVariants.{Refused}
use Rattle.rpkibasic.specs.Fault.{refusal}
use Rattle.rpkibasic.specs.Run.{IsFaultOf, UnlessMemory}

-- what is reported of an error that isn't allocation failure
refused : (e : DecodeError) → e ≢ OutOfMemory → refusal e ≡ Refused e
refused Truncated other = refl
refused BadTag other = refl
refused BadLength other = refl
refused Unexpected other = refl
refused (Content x) other = refl
refused Trailing other = refl
refused OutOfMemory other = absurd (other refl)

-- what is true of it, allocation failure aside
pub of-error : (P : Fault → Type 0) (e : DecodeError) → (e ≢ OutOfMemory → P (Refused e))
    → UnlessMemory (refusal e) (P (refusal e))
of-error P e h =
    elim (memory-or-not e) [
      | inl out ↦ rw out tt
      | inr other ↦ rw (refused e other) (h other)
    ]

-- the fault of an error of the reader of whole octets
pub fault-of : {V : Type 0} (G : V → List ℕ → Type 0) (K : List ℕ → DecodeError → Type 0) (T : Type 0) (input : List ℕ)
    (e : DecodeError)
    → UnlessNoMemory e (SpellsNothing G input) × IsWholeFault G K input e
    → UnlessMemory (refusal e) (IsFaultOf G K T input (refusal e))
fault-of G K T input e h =
    of-error (IsFaultOf G K T input) e (λ other. (other, unless-memory e other h.0, h.1))

-- what does not fit is too long
pub too-long : (n m : ℕ) (b : Bool) {S : Type 0} → (IsTrue b ↔ (S × (m < 2 ^ 63))) → b ≡ false → (S ↔ (n < 2 ^ 32))
    → m ≤ n + 10 → 2 ^ 32 ≤ n
too-long n m b fits no-fit short few =
    elim (cases_lt n (2 ^ 32)) [
      | inl lt ↦ absurd (let yes : IsTrue b = fits.1 (short.1 lt, omega arith) in cc)
      | inr ge ↦ ge
    ]
