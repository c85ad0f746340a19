-- What a machine has, and what its calls do to it.
use Rattle.std.specs.Prelude.{◌≡◌, ◌≢◌, ◌++◌, ◌⊎◌, ℕ, List, [], ◌∷◌, Option, Some, None, codes, take}
use Rattle.std.specs.Option.{unwrap_or}
use Rattle.rpki_cli.specs.Call.{Call, adding, complaining, printing, staging, taking, telling}

-- the octets of each name that has a file; what was written to standard output, and to standard error; and the calls
-- that have failed, the last first
pub record World : Type 0 where
  pub files : List ℕ → Option (List ℕ)
  pub printed : List ℕ
  pub told : List ℕ
  pub failed : List Call

-- ---- what stays

-- each name has what it had
abbrev pub IsSame : World → World → Type 0
IsSame old new = (n : List ℕ) → new.files n ≡ old.files n

-- each name but this one has what it had
abbrev pub IsSameBut : List ℕ → World → World → Type 0
IsSameBut name old new = (n : List ℕ) → n ≢ name → new.files n ≡ old.files n

-- nothing was written to a stream, and no call has failed
pub record IsQuiet (old new : World) : Type 0 where
  pub printed : new.printed ≡ old.printed
  pub told : new.told ≡ old.told
  pub failed : new.failed ≡ old.failed

-- this call has failed, and nothing else happened
pub record IsFailed (old new : World) (call : Call) : Type 0 where
  pub same : IsSame old new
  pub printed : new.printed ≡ old.printed
  pub told : new.told ≡ old.told
  pub failed : new.failed ≡ call ∷ old.failed

-- ---- files

-- a new file beside, under a name that had none and that neither output has, has the whole text
pub record IsStaged (old new : World) (name other beside text : List ℕ) : Type 0 where
  pub fresh : old.files beside ≡ None
  pub apart : name ≢ beside
  pub other_apart : other ≢ beside
  pub there : new.files beside ≡ Some text
  pub others : IsSameBut beside old new
  pub quiet : IsQuiet old new

-- a part of it stays, under a name that had none and that neither output has, since it could not be taken away
pub record IsPartStaged (old new : World) (name other beside : List ℕ) : Type 0 where
  pub fresh : old.files beside ≡ None
  pub apart : name ≢ beside
  pub other_apart : other ≢ beside
  pub others : IsSameBut beside old new
  pub printed : new.printed ≡ old.printed
  pub told : new.told ≡ old.told
  pub failed : new.failed ≡ taking beside ∷ staging name ∷ old.failed

-- it could not be made, or not whole: nothing else happened, or a part of it stays
abbrev pub IsUnstaged : World → World → (name other : List ℕ) → Type 0
IsUnstaged old new name other =
    IsFailed old new (staging name) ⊎ ((beside : List ℕ) × IsPartStaged old new name other beside)

-- one name's file has become another's
pub record IsPlaced (old new : World) (beside name : List ℕ) : Type 0 where
  pub there : new.files name ≡ old.files beside
  pub gone : beside ≢ name → new.files beside ≡ None
  pub others : (n : List ℕ) → n ≢ beside → n ≢ name → new.files n ≡ old.files n
  pub quiet : IsQuiet old new

-- the file beside is gone
pub record IsTaken (old new : World) (beside : List ℕ) : Type 0 where
  pub gone : new.files beside ≡ None
  pub others : IsSameBut beside old new
  pub quiet : IsQuiet old new

-- the octets of a file, or none of one that isn't there
abbrev pub octets_at : World → List ℕ → List ℕ
octets_at world name = unwrap_or (world.files name) []

-- there is a file of this name, with what it had
pub record IsOpened (old new : World) (name : List ℕ) : Type 0 where
  pub there : new.files name ≡ Some (octets_at old name)
  pub others : IsSameBut name old new
  pub quiet : IsQuiet old new

-- the text was added to the file of this name
pub record IsAdded (old new : World) (name text : List ℕ) : Type 0 where
  pub there : new.files name ≡ Some (octets_at old name ++ text)
  pub others : IsSameBut name old new
  pub quiet : IsQuiet old new

-- a part of it was, perhaps
pub record IsUnadded (old new : World) (name text : List ℕ) : Type 0 where
  pub part : (new.files name ≡ old.files name)
      ⊎ ((k : ℕ) × (new.files name ≡ Some (octets_at old name ++ take k text)))
  pub others : IsSameBut name old new
  pub printed : new.printed ≡ old.printed
  pub told : new.told ≡ old.told
  pub failed : new.failed ≡ adding name ∷ old.failed

-- ---- streams

-- the text was written to standard output
pub record IsPrinted (old new : World) (text : List ℕ) : Type 0 where
  pub same : IsSame old new
  pub printed : new.printed ≡ old.printed ++ text
  pub told : new.told ≡ old.told
  pub failed : new.failed ≡ old.failed

-- a part of it was
pub record IsUnprinted (old new : World) (text : List ℕ) : Type 0 where
  pub same : IsSame old new
  pub part : (k : ℕ) × (new.printed ≡ old.printed ++ take k text)
  pub told : new.told ≡ old.told
  pub failed : new.failed ≡ printing text ∷ old.failed

-- the text was written to standard error
pub record IsTold (old new : World) (text : List ℕ) : Type 0 where
  pub same : IsSame old new
  pub printed : new.printed ≡ old.printed
  pub told : new.told ≡ old.told ++ text
  pub failed : new.failed ≡ old.failed

-- a part of it was, and this call has failed
pub record IsUntold (old new : World) (text : List ℕ) (call : Call) : Type 0 where
  pub same : IsSame old new
  pub printed : new.printed ≡ old.printed
  pub part : (k : ℕ) × (new.told ≡ old.told ++ take k text)
  pub failed : new.failed ≡ call ∷ old.failed

-- the text was written to standard error; or a part of it, and that call has failed
abbrev pub Tells : World → World → (text : List ℕ) → Type 0
Tells old new text = IsTold old new text ⊎ IsUntold old new text (telling text)

-- a line that says what is wrong with a name
abbrev pub line : (program name why : List ℕ) → List ℕ
line program name why = program ++ (codes ": " ++ (name ++ (codes ": " ++ (why ++ 10 ∷ []))))

-- the line was written to standard error; or a part of it, and that call has failed
abbrev pub IsSaid : World → World → (program name why : List ℕ) → Type 0
IsSaid old new program name why =
    IsTold old new (line program name why) ⊎ IsUntold old new (line program name why) (complaining name)

-- of a host nothing is said, and this world stands for it
abbrev pub nothing : World
nothing = record { files = λ _. None; printed = []; told = []; failed = [] }
