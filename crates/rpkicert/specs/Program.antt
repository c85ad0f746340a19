-- What the program does: from its words to its streams.
use Rattle.std.specs.Prelude.{◌≡◌, ℕ, List, Some, None}
use Rattle.rpki_cli.specs.World.{World}
use Rattle.rpkicert.specs.Complaint.{complaint_text}
use Rattle.rpkicert.specs.Moment.{Clock}
use Rattle.rpkicert.specs.Request.{Asked, files, help, version, wanted_of}
use Rattle.rpkicert.specs.Run.{Holds}
use Rattle.rpkicert.specs.Under.{IsRunUnder, Lists}
use Rattle.rpkicert.specs.Words.{Complains, Prints, memory_text}

-- what the words ask for is done: the help or the version is printed, or a run is made; or what is wrong with the words
-- is told
pub record IsDone (help_text version_text : List ℕ) (words : List (List ℕ)) (lists : Lists) (holds : Holds)
    (clock : Clock) (old new : World) (status : ℕ) : Type 0 where
  pub of_help : wanted_of words ≡ Some help → Prints old new help_text status
  pub of_version : wanted_of words ≡ Some version → Prints old new version_text status
  pub of_files : (a : Asked) → wanted_of words ≡ Some (files a) → IsRunUnder lists holds clock old new status a
  pub of_others : wanted_of words ≡ None → Complains old new (complaint_text words) status

-- A whole run: what the words ask for is done; or there was no memory to read them, which is told, and the status is 2.
pub data IsProgram (help_text version_text : List ℕ) (words : List (List ℕ)) (lists : Lists) (holds : Holds)
    (clock : Clock) (old new : World) (status : ℕ) : Type 0 where
  Done : IsDone help_text version_text words lists holds clock old new status
      → IsProgram help_text version_text words lists holds clock old new status
  Starved : Complains old new memory_text status
      → IsProgram help_text version_text words lists holds clock old new status
