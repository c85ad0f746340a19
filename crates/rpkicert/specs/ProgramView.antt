-- What clauses see of a whole run.
use Rattle.std.specs.Prelude.{ℕ, List, String, drop, map, string_bytes}
use Rattle.rpki_cli.specs.World.{World}
use Rattle.rpkicert.specs.Moment.{Clock}
use Rattle.rpkicert.specs.Program.{IsProgram}
use Rattle.rpkicert.specs.Run.{Holds}
use Rattle.rpkicert.specs.Under.{Lists}

-- the whole run that these words ask for, of what these sources have
abbrev pub RunsAll : {S Z : Type 0} → (help_text version_text : List ℕ) → List (String Z) → (S → Lists) → (S → Holds)
    → (S → Clock) → S → World → World → ℕ → Type 0
RunsAll help_text version_text words lists holds clock s old new status =
    IsProgram help_text version_text (map string_bytes words) (lists s) (holds s) (clock s) old new status

-- the same of arguments, of which the first is the program's name
abbrev pub RunsGiven : {A S Z : Type 0} → (A → List (String Z)) → (help_text version_text : List ℕ) → (S → Lists)
    → (S → Holds) → (S → Clock) → S → World → World → ℕ → A → Type 0
RunsGiven all help_text version_text lists holds clock s old new status arguments =
    RunsAll help_text version_text (drop 1 (all arguments)) lists holds clock s old new status
