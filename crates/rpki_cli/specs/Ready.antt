-- What is known of outputs before a run begins.
use Rattle.std.specs.Prelude.{◌≡◌, ◌≢◌, ℕ, List, Option, Some, None, codes}
use Rattle.rpki_cli.specs.declared.give.Outputs.{Outputs}
use Rattle.rpki_cli.specs.Call.{looking, opening}
use Rattle.rpki_cli.specs.Given.{named, unwritten}
use Rattle.rpki_cli.specs.World.{World, IsFailed, IsOpened, IsSaid}

-- no file has both names
abbrev pub AreApart : Option (List ℕ) → Option (List ℕ) → Type 0
AreApart one other = (name : List ℕ) → one ≡ Some name → other ≢ Some name

abbrev pub also_output : List ℕ
also_output = codes "is the output's file too"

abbrev pub also_metrics : List ℕ
also_metrics = codes "is the metrics' file too"

-- the log is opened, if there is one
abbrev pub HasLog : World → World → Option (List ℕ) → Type 0
HasLog old new None = new ≡ old
HasLog old new (Some name) = IsOpened old new name

-- the file of the list, which is printed where there is none; that of the metrics; and the log
pub record OutputParts : Type 0 where
  pub output : Option (List ℕ)
  pub metrics : Option (List ℕ)
  pub log : Option (List ℕ)

-- what clauses see of it
abbrev pub outputs_in : Outputs → OutputParts
outputs_in o = record { output = named o.output; metrics = named o.metrics; log = named o.log }

-- each output is a file of its own, and the log is opened; nothing else happened
pub record IsReady (old new : World) (to : OutputParts) : Type 0 where
  pub apart : AreApart to.output to.metrics
  pub log_apart : AreApart to.output to.log
  pub log_aside : AreApart to.metrics to.log
  pub opened : HasLog old new to.log

-- it can't be seen that the file can be written, and that is told
pub record IsUnsound (old new : World) (program : List ℕ) (file : Option (List ℕ)) : Type 0 where
  pub name : List ℕ
  pub named : file ≡ Some name
  pub mid : World
  pub failed : IsFailed old mid (looking name)
  pub said : IsSaid mid new program name unwritten

-- one file has both names, and that is told
pub record IsTwice (old new : World) (program : List ℕ) (one other : Option (List ℕ)) (why : List ℕ) : Type 0 where
  pub name : List ℕ
  pub first : one ≡ Some name
  pub second : other ≡ Some name
  pub said : IsSaid old new program name why

-- the log can't be opened, and that is told
pub record IsUnopened (old new : World) (program : List ℕ) (log : Option (List ℕ)) : Type 0 where
  pub name : List ℕ
  pub named : log ≡ Some name
  pub mid : World
  pub failed : IsFailed old mid (opening name)
  pub said : IsSaid mid new program name unwritten

-- A name can't be written, or two are one, and that is told; nothing else happened.
pub data IsUnready (old new : World) (program : List ℕ) (to : OutputParts) : Type 0 where
  NoOutput : IsUnsound old new program to.output → IsUnready old new program to
  NoMetrics : IsUnsound old new program to.metrics → IsUnready old new program to
  OneOutput : IsTwice old new program to.output to.metrics also_output → IsUnready old new program to
  LogIsOutput : IsTwice old new program to.output to.log also_output → IsUnready old new program to
  LogIsMetrics : IsTwice old new program to.metrics to.log also_metrics → IsUnready old new program to
  NoLog : IsUnopened old new program to.log → IsUnready old new program to
