-- What a strict inspection of a name answers.
use Rattle.std.proofs.Common.{◌≡◌, ◌↔◌, Bool, true, IsTrue, refl, sym, ◌∙◌}
use Rattle.std.specs.Prelude.{Result, Ok, Err, IfOk, IfErr, is_ok}

-- it is Ok exactly where the name is strict
pub strict-so : {E : Type 0} (Strict : Type 0) (r : Result (Unit {0}) E) (b : Bool) → b ≡ is_ok r
    → IfOk r (λ u. IsTrue true → Strict) → IfErr r (λ e. IsTrue true × (Strict → ⊥)) → IsTrue b ↔ Strict
strict-so Strict (Ok u) b is ok err = (λ z. ok refl, λ z. is)
strict-so Strict (Err e) b is ok err = (λ z. absurd (let both = sym z ∙ is in cc), λ z. absurd (err.1 z))
