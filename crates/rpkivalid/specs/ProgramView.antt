-- What clauses see of where a run writes, and of what it has made.
use Rattle.std.specs.Prelude.{ℕ, List, String, Option, drop, map, string_bytes}
use Rattle.jiff.specs.Types.{DateTime}
use Rattle.rpki_cli.specs.Delivered.{MadeParts}
use Rattle.rpki_cli.specs.Ready.{outputs_in}
use Rattle.rpki_cli.specs.Spread.{Listed}
use Rattle.rpki_cli.specs.World.{World}
use Rattle.rpkivalid.specs.declared.program.Made.{Made}
use Rattle.rpkivalid.specs.declared.run.Ran.{Ran}
use Rattle.rpkivalid.specs.declared.sinks.Sinks.{Sinks}
use Rattle.rpkivalid.specs.Locators.{Holds}
use Rattle.rpkivalid.specs.Program.{IsMadeOf, IsProgram, IsRunOn}
use Rattle.rpkivalid.specs.RunView.{ran_by}
use Rattle.rpkivalid.specs.Sinks.{SinkParts, sinks_of}

abbrev pub sinks_by : Sinks → SinkParts
sinks_by s = record { to = outputs_in s.outputs; quiet = s.is_quiet }

abbrev pub made_by : Made → MadeParts
made_by m = record {
  text = m.text.items;
  counts = m.metrics.items;
  entry = m.entry.items;
  lines = m.lines.items;
  status = m.status;
}

-- what these words ask for was done in memory
abbrev pub RanTo : {Z : Type 0} → (help_text version_text : List ℕ) → List (String Z) → Holds
    → Option (Option DateTime) → Ran → Type 0
RanTo help_text version_text words holds clock r =
    IsMadeOf help_text version_text (map string_bytes words) holds clock (ran_by r)

-- the whole run that these words ask for
abbrev pub RunsAll : {Z : Type 0} → (help_text version_text : List ℕ) → List (String Z) → Holds
    → Option (Option DateTime) → World → World → ℕ → Type 0
RunsAll help_text version_text words holds clock old new status =
    IsProgram help_text version_text (map string_bytes words) holds clock (sinks_of (map string_bytes words)) old new
    status

-- the same of words of which folders of locators are spread, of what these folders and sources have
abbrev pub RunsSpread : {F S Z : Type 0} → (help_text version_text : List ℕ) → (F → Option Listed) → F → (S → Holds)
    → (S → Option (Option DateTime)) → S → World → World → ℕ → List (String Z) → Type 0
RunsSpread help_text version_text listed f holds clock s old new status words =
    IsRunOn help_text version_text (map string_bytes words) (listed f) (holds s) (clock s) old new status

-- the same of arguments, of which the first is the program's name
abbrev pub RunsGiven : {A F S Z : Type 0} → (A → List (String Z)) → (help_text version_text : List ℕ)
    → (F → Option Listed) → F → (S → Holds) → (S → Option (Option DateTime)) → S → World → World → ℕ → A → Type 0
RunsGiven all help_text version_text listed f holds clock s old new status arguments =
    RunsSpread help_text version_text listed f holds clock s old new status (drop 1 (all arguments))
