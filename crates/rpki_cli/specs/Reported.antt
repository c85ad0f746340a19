-- What a run tells: an entry that is added to a log, and lines to standard error.
use Rattle.std.specs.Prelude.{◌≡◌, ℕ, List, Option, Some, None}
use Rattle.rpki_cli.specs.Call.{telling}
use Rattle.rpki_cli.specs.Given.{unwritten}
use Rattle.rpki_cli.specs.World.{World, IsAdded, IsSaid, IsTold, IsUnadded, IsUntold}

-- the entry is added to the log, if there is one
abbrev pub IsLogged : World → World → (log : Option (List ℕ)) → (entry : List ℕ) → Type 0
IsLogged old new None entry = new ≡ old
IsLogged old new (Some name) entry = IsAdded old new name entry

-- the entry is added, and the lines are told
abbrev pub IsReported : World → World → (log : Option (List ℕ)) → (entry lines : List ℕ) → Type 0
IsReported old new log entry lines = (mid : World) × IsLogged old mid log entry × IsTold mid new lines

-- it can't be added, and that is told
pub record IsUnlogged (old new : World) (program : List ℕ) (log : Option (List ℕ)) (entry : List ℕ) : Type 0 where
  pub name : List ℕ
  pub named : log ≡ Some name
  pub mid : World
  pub part : IsUnadded old mid name entry
  pub said : IsSaid mid new program name unwritten

-- the entry can't be added; or the lines can't be told
pub data IsUnreported (old new : World) (program : List ℕ) (log : Option (List ℕ)) (entry lines : List ℕ) : Type 0
  where
    Unlogged : IsUnlogged old new program log entry → IsUnreported old new program log entry lines
    Untold : (mid : World) → IsLogged old mid log entry → IsUntold mid new lines (telling lines)
        → IsUnreported old new program log entry lines
