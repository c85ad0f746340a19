-- What a run writes, and its texts that are not of a file.
use Rattle.std.specs.Prelude.{◌≡◌, ◌⊎◌, ◌++◌, ℕ, List, None, codes}
use Rattle.rpki_cli.specs.Call.{telling}
use Rattle.rpki_cli.specs.Given.{name_of, unwritten}
use Rattle.rpki_cli.specs.World.{World, IsPrinted, IsSaid, IsSame, IsUnprinted, IsUntold, Tells}

-- these texts are written to standard output and to standard error, whole; each file is as it was, and no call failed
pub record Writes (old new : World) (output said : List ℕ) : Type 0 where
  pub same : IsSame old new
  pub printed : new.printed ≡ old.printed ++ output
  pub told : new.told ≡ old.told ++ said
  pub failed : new.failed ≡ old.failed

-- a part of the text is written to standard output, since that call has failed, which is told
abbrev pub IsUnwritten : World → World → List ℕ → Type 0
IsUnwritten old new text =
    (mid : World) × IsUnprinted old mid text × IsSaid mid new (codes "rpkicert") (name_of None) unwritten

-- they can't be: a part of the first was; or all of it, and a part of the other, since that call has failed
abbrev pub IsCut : World → World → (output said : List ℕ) → Type 0
IsCut old new output said =
    IsUnwritten old new output ⊎ ((mid : World) × IsPrinted old mid output × IsUntold mid new said (telling said))

-- the text is written to standard output, and the status is 0; or it can't be, and the status is 2
abbrev pub Prints : World → World → List ℕ → ℕ → Type 0
Prints old new text status = (IsPrinted old new text × (status ≡ 0)) ⊎ (IsUnwritten old new text × (status ≡ 2))

-- the text is written to standard error; or a part of it, and that call has failed; and the status is 2
abbrev pub Complains : World → World → List ℕ → ℕ → Type 0
Complains old new text status = Tells old new text × (status ≡ 2)

abbrev pub memory_text : List ℕ
memory_text = codes "rpkicert: out of memory\n"

-- how the program is used
abbrev pub usage_text : List ℕ
usage_text =
    codes "usage: rpkicert [--json] [--check] [--profile NAME] [--lax] [--issuer FILE] [--crl FILE] "
    ++ codes "[--at MOMENT] [-r] FILE..\n"
