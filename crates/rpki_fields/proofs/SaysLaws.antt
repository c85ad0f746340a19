-- What is shown of extensions.
use Rattle.std.proofs.Common.{ℕ, List, inl, inr}
use Rattle.std.specs.Prelude.{Option, Result, Ok, Err, Vec, IfOk, MatchResult}
use Rattle.std.specs.Option.{option_map}
use Rattle.rpki.specs.declared.repository.error.ValidationError.{ValidationError}
use Rattle.rpki_cert.specs.Known.{UnlessNoMemory}
use Rattle.rpki_fields.specs.View.{Shows}
use Rattle.rpki_fields.specs.CertText.{Says}
use Rattle.rpki_fields.proofs.MemoryLaws.{unless-memory}

said : {V : Type 0} (section : List ℕ) (Has : Option V → Type 0) (Not : Type 0) (show : V → List ℕ)
    (found : Result (Option V) ValidationError) (o : Option (List ℕ))
    → MatchResult found Has (λ e. UnlessNoMemory e Not) → Shows section show found o
    → Says section Has Not show o
said section Has Not show (Ok v) o h k = inl (v, h, k)
said section Has Not show (Err e) o h k = inr (unless-memory e Not k.0 h, k.1)

-- what is shown of a value that was looked for is what the extension says
pub said-ok : {V Z E : Type 0} (section : List ℕ) (Has : Option V → Type 0) (Not : Type 0) (show : V → List ℕ)
    (found : Result (Option V) ValidationError) (r : Result (Option (Vec ℕ Z)) E)
    → MatchResult found Has (λ e. UnlessNoMemory e Not)
    → IfOk r (λ o. Shows section show found (option_map (λ v. v.items) o))
    → IfOk r (λ o. Says section Has Not show (option_map (λ v. v.items) o))
said-ok section Has Not show found (Ok o) h k = said section Has Not show found (option_map (λ v. v.items) o) h k
said-ok section Has Not show found (Err e) h k = tt
