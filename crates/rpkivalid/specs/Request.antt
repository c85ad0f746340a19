-- What the words ask for.
use Rattle.std.specs.Prelude.{ℕ, List, [], ◌∷◌, codes, Option, Some, None, Bool, true, false, if◌then◌else◌, bytes_eq}
use Rattle.std.specs.Option.{unwrap_or, option_and_then, option_map}
use Rattle.clap.specs.Words.{App, Row, Rule, all_of, fault_of, first_of, matches_of, new_app, new_rule, with_rule}
use Rattle.clap.specs.Lexer.{usize_max}
use Rattle.clap.specs.Simple.{on_top}
use Rattle.clap.specs.Walk.{is_empty}
use Rattle.clap.specs.declared.builder.action.ArgAction.TheVariants.{Append, SetTrue}
use Rattle.rpki_objects.specs.declared.strictness.Strictness.{Strictness}
use Rattle.rpki_objects.specs.Strictness.{all_strict, none_strict}
use Rattle.rpki_payloads.specs.declared.form.Form.{Form}
use Rattle.rpki_payloads.specs.declared.form.Form.TheVariants.{Csv, Json, StayRtr, OpenBgpd, OpenBgpdOrigins, Bird}
use Rattle.rpki_payloads.specs.declared.form.Form.TheVariants.{RpkiClient}

-- ---- the command, in the words of `clap`

-- the flag of this name
abbrev pub flag : List ℕ → Rule
flag name = record (new_rule name) { long = Some name; action = Some SetTrue }

-- `--help` or `-h`
abbrev pub help_flag : Rule
help_flag = record (new_rule (codes "help")) { short = Some 104; long = Some (codes "help"); action = Some SetTrue }

-- the option of this name, which takes a value
abbrev pub valued : List ℕ → Rule
valued name = record (new_rule name) { long = Some name }

-- the option of this name, which takes one value or more each time that it is given
abbrev pub listed : List ℕ → Rule
listed name = record (new_rule name) {
  long = Some name;
  action = Some Append;
  range = Some (record { start_inclusive = 1; end_inclusive = usize_max });
}

-- the words don't begin with the program's name; `--help` and `--version` are flags as the others are
abbrev pub command_alone : App
command_alone =
    on_top (λ s. record s { no_binary_name = true; disable_help_flag = true }) (new_app (codes "rpkivalid"))

abbrev pub command_app : App
command_app =
    with_rule (with_rule (with_rule (with_rule (with_rule (with_rule (with_rule (with_rule (with_rule (with_rule
    (with_rule (with_rule (with_rule (with_rule (with_rule (with_rule (with_rule command_alone help_flag)
    (flag (codes "version"))) (flag (codes "strict"))) (flag (codes "quiet"))) (valued (codes "cache")))
    (valued (codes "at"))) (valued (codes "form"))) (valued (codes "output"))) (valued (codes "log")))
    (valued (codes "depth"))) (listed (codes "exceptions"))) (valued (codes "metrics"))) (valued (codes "explain")))
    (valued (codes "as"))) (valued (codes "compare"))) (valued (codes "least"))) (listed (codes "tal"))

-- what `clap` matches in the words; None where it finds a fault in them
abbrev pub matched : List (List ℕ) → Option (List Row)
matched words = if is_empty (fault_of command_app words) then Some (matches_of command_app words) else None

-- ---- what is asked for

-- the flag of this name was given
abbrev pub is_given : List ℕ → List Row → Bool
is_given name rows = bytes_eq (unwrap_or (first_of name rows) []) (codes "true")

-- the form of this name
abbrev pub form_named : List ℕ → Option Form
form_named word =
    if bytes_eq word (codes "csv") then Some Csv
    else if bytes_eq word (codes "json") then Some Json
    else if bytes_eq word (codes "stayrtr") then Some StayRtr
    else if bytes_eq word (codes "openbgpd") then Some OpenBgpd
    else if bytes_eq word (codes "openbgpd-origins") then Some OpenBgpdOrigins
    else if bytes_eq word (codes "bird") then Some Bird
    else if bytes_eq word (codes "rpki-client") then Some RpkiClient
    else None

-- the same; without a name it is csv
abbrev pub form_of : Option (List ℕ) → Option Form
form_of None = Some Csv
form_of (Some word) = form_named word

-- the files, of which there is one at least
abbrev pub some_files : Option (List (List ℕ)) → Option (List (List ℕ))
some_files None = None
some_files (Some []) = None
some_files (Some (file ∷ files)) = Some (file ∷ files)

-- the files, of which there may be none
abbrev pub files_or_none : Option (List (List ℕ)) → List (List ℕ)
files_or_none files = unwrap_or files []

-- all rules are asked strictly, or none
abbrev pub strictness_of : Bool → Strictness
strictness_of true = all_strict
strictness_of false = none_strict

-- how payloads are written, which rules are asked strictly, the folder of the copy, the text of the moment,
-- the file to write, the text of the depth, the files of local exceptions, the file of metrics, what is to be
-- explained, the text of an AS number, the file that another validator wrote, the text of the least number of route
-- origins, and the files of locators
pub record Asked : Type 0 where
  pub form : Form
  pub strictness : Strictness
  pub cache : List ℕ
  pub moment : Option (List ℕ)
  pub output : Option (List ℕ)
  pub depth : Option (List ℕ)
  pub exceptions : List (List ℕ)
  pub metrics : Option (List ℕ)
  pub explain : Option (List ℕ)
  pub number : Option (List ℕ)
  pub compare : Option (List ℕ)
  pub least : Option (List ℕ)
  pub locators : List (List ℕ)

abbrev pub asked : Strictness → Option (List ℕ) → Option (List ℕ) → Option (List ℕ) → List (List ℕ)
    → Option (List ℕ) → Option (List ℕ) → Option (List ℕ) → Option (List ℕ) → Option (List ℕ) → Form → List ℕ
    → List (List ℕ) → Asked
asked strictness moment output depth exceptions metrics explain number compare least form cache locators = record {
  form = form;
  strictness = strictness;
  cache = cache;
  moment = moment;
  output = output;
  depth = depth;
  exceptions = exceptions;
  metrics = metrics;
  explain = explain;
  number = number;
  compare = compare;
  least = least;
  locators = locators;
}

-- a form, a folder, and locators; `--strict`, a moment, files, a depth, local exceptions, what is to be explained and
-- what is to be compared, perhaps
abbrev pub request_of : List Row → Option Asked
request_of rows =
    option_and_then (λ form. option_and_then (λ cache. option_map
    (asked (strictness_of (is_given (codes "strict") rows)) (first_of (codes "at") rows)
    (first_of (codes "output") rows) (first_of (codes "depth") rows) (files_or_none (all_of (codes "exceptions") rows))
    (first_of (codes "metrics") rows) (first_of (codes "explain") rows) (first_of (codes "as") rows)
    (first_of (codes "compare") rows) (first_of (codes "least") rows) form cache)
    (some_files (all_of (codes "tal") rows)))
    (first_of (codes "cache") rows)) (form_of (first_of (codes "form") rows))

-- what words ask for: the help, the version, or a run
pub data Wanted : Type 0 where
  help : Wanted
  version : Wanted
  payloads : Asked → Wanted

abbrev pub wanted_in : List Row → Option Wanted
wanted_in rows =
    if is_given (codes "help") rows then Some help
    else if is_given (codes "version") rows then Some version
    else option_map payloads (request_of rows)

-- what the words ask for; None if they ask for nothing
abbrev pub wanted_of : List (List ℕ) → Option Wanted
wanted_of words = option_and_then wanted_in (matched words)
