-- A run of what is asked for, with the files in folders, where those are asked for.
use Rattle.std.specs.Prelude.{◌≡◌, ℕ, Bool, true, false, List, [], ◌∷◌, ◌++◌, Option, All, IsSome, IfSome}
use Rattle.rpki_cli.specs.World.{World}
use Rattle.rpkicert.specs.Moment.{Clock}
use Rattle.rpkicert.specs.Request.{Asked, with_files}
use Rattle.rpkicert.specs.Run.{Holds, IsKnown, IsRunOf}
use Rattle.rpkicert.specs.Words.{Complains, Writes, memory_text}

-- the names of the files under a name: of a folder those of the files in it, and in the folders in it, in order; of a
-- file, and of what can't be listed, the name itself; or nothing is known of them
abbrev pub Lists : Type 0
Lists = List ℕ → Option (List (List ℕ))

-- these are the names under those, in order
abbrev pub AreUnder : Lists → List (List ℕ) → List (List ℕ) → Type 0
AreUnder lists [] all = all ≡ []
AreUnder lists (name ∷ names) all =
    (own : List (List ℕ)) × (rest : List (List ℕ)) × IfSome (lists name) (λ known. own ≡ known)
    × AreUnder lists names rest × (all ≡ own ++ rest)

-- these are the names of the files, or those under them, where they are asked for
abbrev pub AreNamed : Lists → (recursive : Bool) → List (List ℕ) → List (List ℕ) → Type 0
AreNamed lists false files all = all ≡ files
AreNamed lists true files all = AreUnder lists files all

-- the run of what is asked for, as if each of the files under those that are named had been named; or there was no
-- memory for the names, which is said
pub data IsRunUnder (lists : Lists) (holds : Holds) (clock : Clock) (old new : World) (status : ℕ) (a : Asked)
    : Type 0 where
  Named : (names : List (List ℕ)) → AreNamed lists a.recursive a.files names
      → IsRunOf holds clock old new status (with_files a names)
      → IsRunUnder lists holds clock old new status a
  Nameless : Complains old new memory_text status → IsRunUnder lists holds clock old new status a

-- which names there are is known, where they are asked for, and of these all that a run depends on
pub record IsKnownUnder (lists : Lists) (holds : Holds) (clock : Clock) (a : Asked) : Type 0 where
  pub known : a.recursive ≡ true → All (λ name. IsSome (lists name)) a.files
  pub files : (names : List (List ℕ)) → AreNamed lists a.recursive a.files names
      → IsKnown holds clock (with_files a names)

-- where one run of it ends with the status 0, each that does writes the same
abbrev pub RunsAlikeUnder : Lists → Holds → Clock → Asked → Type 0
RunsAlikeUnder lists holds clock a =
    (old new : World) → IsRunUnder lists holds clock old new 0 a
    → (output : List ℕ) × (said : List ℕ)
    × ((old new : World) → IsRunUnder lists holds clock old new 0 a → Writes old new output said)
