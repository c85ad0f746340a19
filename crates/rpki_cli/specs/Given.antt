-- What becomes of the text of a run, and of its metrics.
use denote.Bor.{Bor}
use Rattle.std.specs.Prelude.{◌≡◌, ◌≢◌, ◌++◌, ◌⊎◌, ℕ, List, [], ◌∷◌, Option, Some, None, codes, map, take}
use Rattle.std.specs.Option.{option_map, unwrap_or}
use Rattle.rpki_cli.specs.declared.put.Put.{Put}
use Rattle.rpki_cli.specs.declared.put.Put.TheVariants.{Done, NoList, NoMetrics, Unplaced, Unwritten}
use Rattle.rpki_cli.specs.Call.{Call, staging, placing, printing, taking}
use Rattle.rpki_cli.specs.World.{World, IsSaid}

-- ---- names

-- the name of an output, which is standard output where no file is named
abbrev pub name_of : Option (List ℕ) → List ℕ
name_of output = unwrap_or output (codes "standard output")

-- the name of a file, if there is one
abbrev pub name_in : Option (List ℕ) → List ℕ
name_in file = unwrap_or file []

abbrev pub unwritten : List ℕ
unwritten = codes "cannot be written"

abbrev pub half_written : List ℕ
half_written = codes "cannot be written; the metrics are"

-- what clauses see of the name of a file, if there is one
abbrev pub named : Option (Bor (List ℕ)) → Option (List ℕ)
named file = option_map (λ name. name.now) file

-- ---- outputs

-- a name is among these
abbrev pub IsAmong : List (List ℕ) → List ℕ → Type 0
IsAmong [] n = ⊥
IsAmong (name ∷ names) n = (name ≡ n) ⊎ IsAmong names n

-- each name that is neither output has what it had
abbrev pub AreOthersSame : World → World → (output metrics : Option (List ℕ)) → Type 0
AreOthersSame old new output metrics =
    (n : List ℕ) → output ≢ Some n → metrics ≢ Some n → new.files n ≡ old.files n

-- each name that is neither output, nor one of these, has what it had; and these had none
pub record AreOthersBut (left : List (List ℕ)) (old new : World) (output metrics : Option (List ℕ)) : Type 0 where
  pub same : (n : List ℕ) → output ≢ Some n → metrics ≢ Some n → IsAmong left n ⊎ (new.files n ≡ old.files n)
  pub fresh : (n : List ℕ) → IsAmong left n → old.files n ≡ None

-- this call has failed; and each of these files, which were made beside, could not be taken away
abbrev pub HasFailed : (left : List (List ℕ)) → World → World → Call → Type 0
HasFailed left old new call = new.failed ≡ map taking left ++ (call ∷ old.failed)

-- the whole text is in the file of this name; or, without one, it is printed
abbrev pub HasText : World → World → (output : Option (List ℕ)) → (text : List ℕ) → Type 0
HasText old new None text = new.printed ≡ old.printed ++ text
HasText old new (Some name) text = (new.files name ≡ Some text) × (new.printed ≡ old.printed)

-- the file of this name is as before; or, without one, a part of the text is printed at most
abbrev pub HasNone : World → World → (output : Option (List ℕ)) → (text : List ℕ) → Type 0
HasNone old new None text = (k : ℕ) × (new.printed ≡ old.printed ++ take k text)
HasNone old new (Some name) text = (new.files name ≡ old.files name) × (new.printed ≡ old.printed)

-- the metrics are in the file of this name, if there is one
abbrev pub HasMetrics : World → (metrics : Option (List ℕ)) → (counts : List ℕ) → Type 0
HasMetrics new None counts = Unit {0}
HasMetrics new (Some name) counts = new.files name ≡ Some counts

-- the file of the metrics is as before, if there is one
abbrev pub HasNoMetrics : World → World → (metrics : Option (List ℕ)) → Type 0
HasNoMetrics old new None = Unit {0}
HasNoMetrics old new (Some name) = new.files name ≡ old.files name

-- ---- ends

-- both outputs have their whole texts
pub record IsDone (old new : World) (output : Option (List ℕ)) (text : List ℕ) (metrics : Option (List ℕ))
    (counts : List ℕ) : Type 0 where
  pub list : HasText old new output text
  pub numbers : HasMetrics new metrics counts
  pub others : AreOthersSame old new output metrics
  pub told : new.told ≡ old.told
  pub failed : new.failed ≡ old.failed

-- both are as before, since this call has failed; files that were made beside and could not be taken away are left
pub record IsLeft (old new : World) (output : Option (List ℕ)) (text : List ℕ) (metrics : Option (List ℕ))
    (call : Call) : Type 0 where
  pub list : HasNone old new output text
  pub numbers : HasNoMetrics old new metrics
  pub left : List (List ℕ)
  pub others : AreOthersBut left old new output metrics
  pub told : new.told ≡ old.told
  pub failed : HasFailed left old new call

-- the metrics are in place, and the output is as before, since this call has failed; the file that was made beside is
-- left where it could not be taken away
pub record IsHalf (old new : World) (output : Option (List ℕ)) (text : List ℕ) (metrics counts : List ℕ) (call : Call)
    : Type 0 where
  pub list : HasNone old new output text
  pub numbers : new.files metrics ≡ Some counts
  pub left : List (List ℕ)
  pub others : AreOthersBut left old new output (Some metrics)
  pub told : new.told ≡ old.told
  pub failed : HasFailed left old new call

-- the call that makes the output, and the last of it
abbrev pub last_call : (output : Option (List ℕ)) → (text : List ℕ) → Call
last_call None text = printing text
last_call (Some name) text = placing name

-- what became of both
abbrev pub IsPut : World → World → (output : Option (List ℕ)) → (text : List ℕ) → (metrics : Option (List ℕ))
    → (counts : List ℕ) → Put → Type 0
IsPut old new output text metrics counts Done = IsDone old new output text metrics counts
IsPut old new output text metrics counts NoList =
    (name : List ℕ) × (output ≡ Some name) × IsLeft old new output text metrics (staging name)
IsPut old new output text metrics counts NoMetrics =
    (name : List ℕ) × (metrics ≡ Some name) × IsLeft old new output text metrics (staging name)
IsPut old new output text metrics counts Unplaced =
    (name : List ℕ) × (metrics ≡ Some name) × IsLeft old new output text metrics (placing name)
IsPut old new output text None counts Unwritten = IsLeft old new output text None (last_call output text)
IsPut old new output text (Some name) counts Unwritten =
    IsHalf old new output text name counts (last_call output text)

-- Where all is written the exit status is that of the run. Else why not is told, which may fail in its turn: nothing
-- is written, and the status is 2; or the metrics alone are, and it is 3.
pub data IsGiven (old new : World) (program : List ℕ) (output : Option (List ℕ)) (text : List ℕ)
    (metrics : Option (List ℕ)) (counts : List ℕ) (wanted status : ℕ) : Type 0 where
  Written : IsPut old new output text metrics counts Done → status ≡ wanted
      → IsGiven old new program output text metrics counts wanted status
  OfList : (mid : World) → IsPut old mid output text metrics counts NoList
      → IsSaid mid new program (name_of output) unwritten → status ≡ 2
      → IsGiven old new program output text metrics counts wanted status
  OfMetrics : (put : Put) (mid : World) → (put ≡ NoMetrics) ⊎ (put ≡ Unplaced)
      → IsPut old mid output text metrics counts put
      → IsSaid mid new program (name_in metrics) unwritten → status ≡ 2
      → IsGiven old new program output text metrics counts wanted status
  OfBoth : (mid : World) → metrics ≡ None → IsPut old mid output text None counts Unwritten
      → IsSaid mid new program (name_of output) unwritten → status ≡ 2
      → IsGiven old new program output text metrics counts wanted status
  Half : (name : List ℕ) (mid : World) → metrics ≡ Some name
      → IsPut old mid output text (Some name) counts Unwritten
      → IsSaid mid new program (name_of output) half_written → status ≡ 3
      → IsGiven old new program output text metrics counts wanted status
