-- What clauses see of a request.
use Rattle.std.specs.Prelude.{◌≡◌, List, String, Option, Some, None, Result, IfOk, map, option_map, string_bytes}
use Rattle.clap.specs.Words.{Row, found_of, rows_of}
use Rattle.clap.specs.declared.parser.matches.ArgMatches.{ArgMatches}
use Rattle.rpkivalid.specs.declared.request.Request.{Request}
use Rattle.rpkivalid.specs.Request.{Asked, asked, Wanted, help, version, payloads, wanted_in, wanted_of}

abbrev pub asked_of : Request → Asked
asked_of r =
    asked r.strictness (option_map (λ word. word.now) r.moment) (option_map (λ name. name.now) r.output)
    (option_map (λ word. word.now) r.depth) (map (λ file. file.now) r.exceptions.now)
    (option_map (λ name. name.now) r.metrics) (option_map (λ word. word.now) r.explain)
    (option_map (λ word. word.now) r.number) (option_map (λ name. name.now) r.compare)
    (option_map (λ word. word.now) r.least) r.form r.cache.now
    (map (λ file. file.now) r.locators.now)

-- what was matched
abbrev pub rows_in : ArgMatches → List Row
rows_in m = rows_of (found_of m)

-- the words ask for the help
abbrev pub AskHelp : {Z : Type 0} → List (String Z) → Type 0
AskHelp words = wanted_of (map string_bytes words) ≡ Some help

-- the words ask for the version
abbrev pub AskVersion : {Z : Type 0} → List (String Z) → Type 0
AskVersion words = wanted_of (map string_bytes words) ≡ Some version

-- what was matched asks for this
abbrev pub wanted_by : ArgMatches → Option Wanted
wanted_by m = wanted_in (rows_in m)

-- it asks for the help, for the version, or for nothing
abbrev pub WantsHelp : ArgMatches → Type 0
WantsHelp m = wanted_by m ≡ Some help

abbrev pub WantsVersion : ArgMatches → Type 0
WantsVersion m = wanted_by m ≡ Some version

abbrev pub WantsNothing : ArgMatches → Type 0
WantsNothing m = wanted_by m ≡ None

-- it asks for payloads: P of what is asked and of the result
abbrev pub Asks : {R E : Type 0} → ArgMatches → Result R E → (Asked → R → Type 0) → Type 0
Asks m r P = (a : Asked) → wanted_by m ≡ Some (payloads a) → IfOk r (P a)

-- the words ask for payloads: P of what is asked and of the result
abbrev pub AskRun : {Z R E : Type 0} → List (String Z) → Result R E → (Asked → R → Type 0) → Type 0
AskRun words r P = (a : Asked) → wanted_of (map string_bytes words) ≡ Some (payloads a) → IfOk r (P a)

-- they ask for nothing
abbrev pub AskNothing : {Z : Type 0} → List (String Z) → Type 0
AskNothing words = wanted_of (map string_bytes words) ≡ None
