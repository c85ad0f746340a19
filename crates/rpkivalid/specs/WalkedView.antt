-- What clauses see of what is found under one locator.
use Rattle.std.specs.Prelude.{ℕ, List}
use Rattle.jiff.specs.Types.{DateTime}
use Rattle.rpki.specs.Checkers.{Models}
use Rattle.rpki_objects.specs.declared.strictness.Strictness.{Strictness}
use Rattle.rpkivalid.specs.declared.locators.Named.{Named}
use Rattle.rpkivalid.specs.declared.walked.Walk.{Walk}
use Rattle.rpkivalid.specs.Found.{basis_with}
use Rattle.rpkivalid.specs.Locators.{Holds}
use Rattle.rpkivalid.specs.LocatorsView.{named_of}
use Rattle.rpkivalid.specs.Walked.{IsWalkIn}

-- what is found under the locator, by a provider's signatures and digests
abbrev pub IsWalkBy : {X : Type 0} → Models X → X → Holds → (folder : List ℕ) → (strictness : Strictness) → DateTime → ℕ
    → Named → Walk → Type 0
IsWalkBy models provider holds folder strictness at depth named =
    IsWalkIn holds folder (basis_with models provider strictness at depth) (named_of named)
