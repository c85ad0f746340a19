-- What the words ask for.
use Rattle.std.specs.Prelude.{ℕ, Bool, true, false, if◌then◌else◌, not, List, [], ◌∷◌, codes, bytes_eq, unwrap_or}
use Rattle.std.specs.Prelude.{Option, Some, None, option_and_then, option_map}
use Rattle.clap.specs.Words.{App, Row, Rule, all_of, fault_of, first_of, matches_of, new_app, new_rule, with_rule}
use Rattle.clap.specs.Simple.{on_top}
use Rattle.clap.specs.Walk.{is_empty}
use Rattle.clap.specs.declared.builder.action.ArgAction.TheVariants.{Append, SetTrue}
use Rattle.rpki_fields.specs.declared.rendering.Form.{Form}
use Rattle.rpki_fields.specs.declared.rendering.Form.TheVariants.{Text, Json}
use Rattle.rpki_cert.specs.declared.profile.Profile.{Profile}
use Rattle.rpkicert.specs.declared.choice.Choice.{Choice}
use Rattle.rpkicert.specs.declared.choice.Choice.TheVariants.{Named, Auto}
use Rattle.rpkicert.specs.declared.profile.Inspection.{Inspection}
use Rattle.rpki_cert.specs.declared.profile.Profile.TheVariants.{Ta, Ca, Ee, DetachedEe, Router}

-- ---- the command, in the words of `clap`

-- the flag of this name
abbrev pub flag : List ℕ → Rule
flag name = record (new_rule name) { long = Some name; action = Some SetTrue }

-- the same, which this letter names too
abbrev pub lettered : (letter : ℕ) → List ℕ → Rule
lettered letter name = record (new_rule name) { short = Some letter; long = Some name; action = Some SetTrue }

-- the option of this name, which takes a value
abbrev pub valued : List ℕ → Rule
valued name = record (new_rule name) { long = Some name }

-- each of the other words is the name of a file
abbrev pub files_rule : Rule
files_rule = record (new_rule (codes "FILE")) { action = Some Append }

-- the words don't begin with the program's name; `--help` and `--version` are flags as the others are
abbrev pub command_alone : App
command_alone =
    on_top (λ s. record s { no_binary_name = true; disable_help_flag = true }) (new_app (codes "rpkicert"))

abbrev pub command_app : App
command_app =
    with_rule (with_rule (with_rule (with_rule (with_rule (with_rule (with_rule (with_rule (with_rule (with_rule
    (with_rule command_alone (lettered 104 (codes "help"))) (flag (codes "version"))) (flag (codes "json")))
    (flag (codes "check"))) (flag (codes "lax"))) (lettered 114 (codes "recursive"))) (valued (codes "profile")))
    (valued (codes "issuer"))) (valued (codes "crl"))) (valued (codes "at"))) files_rule

-- what `clap` matches in the words; None where it finds a fault in them
abbrev pub matched : List (List ℕ) → Option (List Row)
matched words = if is_empty (fault_of command_app words) then Some (matches_of command_app words) else None

-- ---- what is asked for

-- the flag of this name was given
abbrev pub is_given : List ℕ → List Row → Bool
is_given name rows = bytes_eq (unwrap_or (first_of name rows) []) (codes "true")

-- as lines of text, or as JSON
abbrev pub form_of : (json : Bool) → Form
form_of true = Json
form_of false = Text

-- the profile of this name
abbrev pub profile_of : List ℕ → Option Profile
profile_of word =
    if bytes_eq word (codes "ta") then Some Ta
    else if bytes_eq word (codes "ca") then Some Ca
    else if bytes_eq word (codes "ee") then Some Ee
    else if bytes_eq word (codes "detached") then Some DetachedEe
    else if bytes_eq word (codes "router") then Some Router
    else None

-- the profile of this name, or by `auto` the one of what a certificate says that it is
abbrev pub choice_of : List ℕ → Option Choice
choice_of word = if bytes_eq word (codes "auto") then Some Auto else option_map Named (profile_of word)

-- how certificates are checked: against the profile of this choice
abbrev pub inspected : (lax : Bool) → Choice → Option Inspection
inspected lax choice = Some (record { choice = choice; strict = not lax })

-- the same of the profile that was named, if one was; for a verdict else of the one of what each certificate says that
-- it is. Without any there are no names to be lax of.
abbrev pub named_inspection : (check lax : Bool) → Option (List ℕ) → Option (Option Inspection)
named_inspection true lax None = Some (inspected lax Auto)
named_inspection false true None = None
named_inspection false false None = Some None
named_inspection check lax (Some name) = option_map (inspected lax) (choice_of name)

-- the name of the issuer's revocation list, if one was named; without an issuer there is none
abbrev pub named_list : (issuer list : Option (List ℕ)) → Option (Option (List ℕ))
named_list issuer None = Some None
named_list None (Some name) = None
named_list (Some issuer) (Some name) = Some (Some name)

-- the files, of which there is one at least
abbrev pub some_files : Option (List (List ℕ)) → Option (List (List ℕ))
some_files None = None
some_files (Some []) = None
some_files (Some (file ∷ files)) = Some (file ∷ files)

-- how objects are printed, whether only a verdict is, whether those in folders are, how certificates are checked
-- against a profile, the file of the issuer, that of its revocation list, the text of the moment, and the files
pub record Asked : Type 0 where
  pub form : Form
  pub check : Bool
  pub recursive : Bool
  pub inspection : Option Inspection
  pub issuer : Option (List ℕ)
  pub list : Option (List ℕ)
  pub moment : Option (List ℕ)
  pub files : List (List ℕ)

abbrev pub asked : Option (List ℕ) → Option (List ℕ) → Form → (check recursive : Bool) → Option Inspection
    → (list : Option (List ℕ)) → List (List ℕ) → Asked
asked issuer moment form check recursive inspection list files = record {
  form = form;
  check = check;
  recursive = recursive;
  inspection = inspection;
  issuer = issuer;
  list = list;
  moment = moment;
  files = files;
}

-- the same of these files
abbrev pub with_files : Asked → List (List ℕ) → Asked
with_files a files = record a { files = files }

-- `--json`, `--check` and `--recursive`, a profile, an issuer, its list, and a moment, perhaps, and files
abbrev pub request_of : List Row → Option Asked
request_of rows =
    option_and_then (λ inspection. option_and_then (λ list. option_map
    (asked (first_of (codes "issuer") rows) (first_of (codes "at") rows) (form_of (is_given (codes "json") rows))
    (is_given (codes "check") rows) (is_given (codes "recursive") rows) inspection list)
    (some_files (all_of (codes "FILE") rows)))
    (named_list (first_of (codes "issuer") rows) (first_of (codes "crl") rows)))
    (named_inspection (is_given (codes "check") rows) (is_given (codes "lax") rows) (first_of (codes "profile") rows))

-- what words ask for: the help, the version, or files
pub data Wanted : Type 0 where
  help : Wanted
  version : Wanted
  files : Asked → Wanted

abbrev pub wanted_in : List Row → Option Wanted
wanted_in rows =
    if is_given (codes "help") rows then Some help
    else if is_given (codes "version") rows then Some version
    else option_map files (request_of rows)

-- what the words ask for; None if they ask for nothing
abbrev pub wanted_of : List (List ℕ) → Option Wanted
wanted_of words = option_and_then wanted_in (matched words)
