-- What clauses see of results that the library holds.
use Rattle.std.specs.Prelude.{◌≡◌, ℕ, false, List, Option, Some, Result, Ok, Err}
use Rattle.std.specs.Option.{option_map}
use Rattle.rpki.specs.declared.repository.error.ValidationError.{ValidationError}
use Rattle.rpki_cert.specs.Known.{is_memory}
use Rattle.rpki_fields.specs.Field.{other_text}

-- What is shown of a value that was looked for: it, as it is shown; or that it is not as this section has it, where
-- allocation did not fail.
abbrev pub Shows : {V : Type 0} → (section : List ℕ) → (V → List ℕ) → Result (Option V) ValidationError
    → Option (List ℕ) → Type 0
Shows section show (Ok v) o = o ≡ option_map show v
Shows section show (Err e) o = (is_memory e ≡ false) × (o ≡ Some (other_text section))
