-- What becomes of all that a run has made.
use Rattle.std.specs.Prelude.{◌≡◌, ◌≤◌, ◌<◌, ℕ, List}
use Rattle.rpki_cli.specs.declared.give.Made.{Made}
use Rattle.rpki_cli.specs.Given.{IsGiven}
use Rattle.rpki_cli.specs.Ready.{OutputParts}
use Rattle.rpki_cli.specs.Reported.{IsReported, IsUnreported}
use Rattle.rpki_cli.specs.World.{World}

-- what a run has made: the list, its metrics, the entry of the log, the lines of standard error, and the exit status
pub record MadeParts : Type 0 where
  pub text : List ℕ
  pub counts : List ℕ
  pub entry : List ℕ
  pub lines : List ℕ
  pub status : ℕ

-- what clauses see of it
abbrev pub parts_of : Made → MadeParts
parts_of m = record {
  text = m.text.now;
  counts = m.counts.now;
  entry = m.entry.now;
  lines = m.lines.now;
  status = m.status;
}

-- Not all could be told, and nothing is written, and the status is 2; or all was, and of a run that ends with 2
-- nothing is written; or all was, and then the list is given.
pub data IsDelivered (old new : World) (program : List ℕ) (to : OutputParts) (made : MadeParts)
    (status : ℕ) : Type 0 where
  Unreported : IsUnreported old new program to.log made.entry made.lines → status ≡ 2
      → IsDelivered old new program to made status
  Withheld : IsReported old new to.log made.entry made.lines → 1 < made.status → status ≡ made.status
      → IsDelivered old new program to made status
  Delivered : (mid : World) → IsReported old mid to.log made.entry made.lines → made.status ≤ 1
      → IsGiven mid new program to.output made.text to.metrics made.counts made.status status
      → IsDelivered old new program to made status
