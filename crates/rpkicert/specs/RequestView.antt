-- What clauses see of a request.
use Rattle.std.specs.Prelude.{◌≡◌, ℕ, List, String, Option, Some, None, Result, IfOk, map, option_map, string_bytes}
use Rattle.clap.specs.Words.{Row, found_of, rows_of}
use Rattle.clap.specs.declared.parser.matches.ArgMatches.{ArgMatches}
use Rattle.rpkicert.specs.declared.request.Request.{Request}
use Rattle.rpkicert.specs.Request.{Asked, asked, Wanted, help, version, files, wanted_in, wanted_of}

abbrev pub asked_of : Request → Asked
asked_of r =
    asked (option_map (λ name. name.now) r.issuer) (option_map (λ word. word.now) r.moment) r.form r.check
    r.recursive r.inspection (option_map (λ name. name.now) r.list) (map (λ file. file.now) r.files.now)

-- what was matched
abbrev pub rows_in : ArgMatches → List Row
rows_in m = rows_of (found_of m)

-- the words ask for the help
abbrev pub AskHelp : {Z : Type 0} → List (String Z) → Type 0
AskHelp words = wanted_of (map string_bytes words) ≡ Some help

-- the words ask for the version
abbrev pub AskVersion : {Z : Type 0} → List (String Z) → Type 0
AskVersion words = wanted_of (map string_bytes words) ≡ Some version

-- what was matched asks for this
abbrev pub wanted_by : ArgMatches → Option Wanted
wanted_by m = wanted_in (rows_in m)

-- it asks for files, and there is an exit status: P of it and of what is asked
abbrev pub AskedIn : {E : Type 0} → ArgMatches → Result ℕ E → (ℕ → Asked → Type 0) → Type 0
AskedIn m r P = (a : Asked) → wanted_by m ≡ Some (files a) → IfOk r (λ status. P status a)

-- the words ask for files, and there is an exit status: P of it and of what is asked
abbrev pub AskRun : {Z E : Type 0} → List (String Z) → Result ℕ E → (ℕ → Asked → Type 0) → Type 0
AskRun words r P = (a : Asked) → wanted_of (map string_bytes words) ≡ Some (files a) → IfOk r (λ status. P status a)

-- they ask for nothing
abbrev pub AskNothing : {Z : Type 0} → List (String Z) → Type 0
AskNothing words = wanted_of (map string_bytes words) ≡ None
