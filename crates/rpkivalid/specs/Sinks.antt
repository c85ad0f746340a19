-- Where a run writes, by its words.
use Rattle.std.specs.Prelude.{◌||◌, ℕ, List, Bool, false, Option, Some, None, codes, if◌then◌else◌, bytes_eq}
use Rattle.std.specs.Prelude.{is_some}
use Rattle.clap.specs.Words.{Row, first_of}
use Rattle.rpki_cli.specs.Ready.{OutputParts}
use Rattle.rpkivalid.specs.Request.{Wanted, is_given, matched, payloads, wanted_in}

-- the files that a run writes to, and whether standard error is told less, as it is where there is a log
pub record SinkParts : Type 0 where
  pub to : OutputParts
  pub quiet : Bool

abbrev pub sinks : Option (List ℕ) → Option (List ℕ) → Option (List ℕ) → Bool → SinkParts
sinks output metrics log quiet =
    record { to = record { output = output; metrics = metrics; log = log }; quiet = quiet }

-- standard output and standard error
abbrev pub streams : SinkParts
streams = sinks None None None false

-- `-` is standard output
abbrev pub file_of : Option (List ℕ) → Option (List ℕ)
file_of None = None
file_of (Some name) = if bytes_eq name (codes "-") then None else Some name

-- an explanation and a comparison have no metrics
abbrev pub unless_given : Option (List ℕ) → Option (List ℕ) → Option (List ℕ)
unless_given None name = name
unless_given (Some word) name = None

abbrev pub sinks_for : List Row → Option Wanted → SinkParts
sinks_for rows (Some (payloads a)) =
    sinks (file_of a.output) (unless_given a.explain (unless_given a.compare a.metrics)) (first_of (codes "log") rows)
    (is_given (codes "quiet") rows || is_some (first_of (codes "log") rows))
sinks_for rows wanted = streams

-- by what `clap` matches in the words
abbrev pub sinks_in : Option (List Row) → SinkParts
sinks_in None = streams
sinks_in (Some rows) = sinks_for rows (wanted_in rows)

abbrev pub sinks_of : List (List ℕ) → SinkParts
sinks_of words = sinks_in (matched words)
