-- What is wrong with words that ask for nothing: what is wrong first, from the left.
use Rattle.std.specs.Prelude.{ℕ, nat_eq, nat_lt, ◌+◌, ◌-◌, ◌&&◌, ◌||◌, not, Bool, true, false, if◌then◌else◌}
use Rattle.std.specs.Prelude.{List, [], ◌∷◌, ◌++◌, length, drop, codes, bytes_eq, unwrap_or, slice_get}
use Rattle.std.specs.Prelude.{Option, Some, None, is_some}
use Rattle.std.specs.List.{list_any, starts_with}
use Rattle.rpkivalid.specs.Request.{form_named}
use Rattle.rpkivalid.specs.Words.{usage_text}

-- ---- what is said

-- of a word, between two texts
abbrev pub said : (front word behind : List ℕ) → List ℕ
said front word behind = front ++ word ++ behind

abbrev pub unknown : List ℕ → List ℕ
unknown word = said (codes "unknown option: ") word []

abbrev pub no_option : List ℕ → List ℕ
no_option word = said (codes "not an option: ") word []

abbrev pub no_value : List ℕ → List ℕ
no_value option = said [] option (codes " takes a value")

abbrev pub a_value : List ℕ → List ℕ
a_value option = said [] option (codes " takes no value")

abbrev pub twice : List ℕ → List ℕ
twice option = said [] option (codes " is given twice")

abbrev pub no_form : List ℕ → List ℕ
no_form word =
    said (codes "--form takes csv, json, stayrtr, rpki-client, openbgpd, openbgpd-origins or bird, not ") word []

abbrev pub no_cache : List ℕ
no_cache = said (codes "no --cache") [] []

abbrev pub no_locator : List ℕ
no_locator = said (codes "no --tal") [] []

-- ---- the options

-- nothing remains of a word, or `=` and a value
abbrev pub is_end : List ℕ → Bool
is_end [] = true
is_end (octet ∷ octets) = nat_eq octet 61

-- the word is this option, or this option, `=` and a value
abbrev pub is_of : (option word : List ℕ) → Bool
is_of option word = starts_with nat_eq word option && is_end (drop (length option) word)

-- the flag that a word names
abbrev pub flag_in : List ℕ → Option (List ℕ)
flag_in word =
    if bytes_eq word (codes "-h") || is_of (codes "--help") word then Some (codes "--help")
    else if is_of (codes "--version") word then Some (codes "--version")
    else if is_of (codes "--strict") word then Some (codes "--strict")
    else if is_of (codes "--quiet") word then Some (codes "--quiet")
    else None

-- the option with a file or a folder
abbrev pub file_option_in : List ℕ → Option (List ℕ)
file_option_in word =
    if is_of (codes "--tal") word then Some (codes "--tal")
    else if is_of (codes "--cache") word then Some (codes "--cache")
    else if is_of (codes "--output") word then Some (codes "--output")
    else if is_of (codes "--log") word then Some (codes "--log")
    else if is_of (codes "--exceptions") word then Some (codes "--exceptions")
    else if is_of (codes "--metrics") word then Some (codes "--metrics")
    else if is_of (codes "--compare") word then Some (codes "--compare")
    else None

-- the option with another value
abbrev pub value_option_in : List ℕ → Option (List ℕ)
value_option_in word =
    if is_of (codes "--at") word then Some (codes "--at")
    else if is_of (codes "--form") word then Some (codes "--form")
    else if is_of (codes "--depth") word then Some (codes "--depth")
    else if is_of (codes "--explain") word then Some (codes "--explain")
    else if is_of (codes "--as") word then Some (codes "--as")
    else if is_of (codes "--least") word then Some (codes "--least")
    else None

abbrev pub or_option : Option (List ℕ) → Option (List ℕ) → Option (List ℕ)
or_option None other = other
or_option (Some option) other = Some option

-- the option with a value that a word names
abbrev pub valued_in : List ℕ → Option (List ℕ)
valued_in word = or_option (file_option_in word) (value_option_in word)

-- the option that a word names
abbrev pub option_in : List ℕ → Option (List ℕ)
option_in word = or_option (flag_in word) (valued_in word)

-- the word is an option, alone, that takes a value
abbrev pub is_named_so : Option (List ℕ) → List ℕ → Bool
is_named_so None word = false
is_named_so (Some option) word = bytes_eq option word

abbrev pub takes_value : (option : List ℕ) → Bool
takes_value option = is_named_so (valued_in option) option

-- the word names the option
abbrev pub names : (option word : List ℕ) → Bool
names option word = bytes_eq (unwrap_or (option_in word) []) option

-- the option is among the words
abbrev pub is_among : List (List ℕ) → (option : List ℕ) → Bool
is_among words option = list_any (names option) words

-- a word that begins with a hyphen, and isn't only that (POSIX, Base Definitions 12.2)
abbrev pub is_option : List ℕ → Bool
is_option word = starts_with nat_eq word (45 ∷ []) && nat_lt 1 (length word)

-- an option that may be given several times, and with several files
abbrev pub takes_files : (option : List ℕ) → Bool
takes_files option = bytes_eq option (codes "--tal") || bytes_eq option (codes "--exceptions")

-- after one of these, alone, files are named until the next option
abbrev pub in_files_after : Bool → List ℕ → Bool
in_files_after in_files word = if is_option word then takes_files word else in_files

-- ---- what is wrong

-- the last of the words, where it is an option that takes the next word as its value
abbrev pub awaiting : Option (List ℕ) → Option (List ℕ)
awaiting None = None
awaiting (Some word) = if takes_value word then Some word else None

abbrev pub awaited : List (List ℕ) → Option (List ℕ)
awaited words = awaiting (slice_get words (length words - 1))

-- of a value of this option
abbrev pub wrong_value : (option value : List ℕ) → Option (List ℕ)
wrong_value option value =
    if bytes_eq option (codes "--form") && not (is_some (form_named value)) then Some (no_form value) else None

-- the option is among these words, and may be given once alone
abbrev pub is_twice : List (List ℕ) → (option : List ℕ) → Bool
is_twice before option = is_among before option && not (takes_files option)

-- of a word that is this option, `=` and a value
unfoldable pub wrong_given : (option word : List ℕ) → Option (List ℕ)
wrong_given option word =
    if takes_value option then wrong_value option (drop (length option + 1) word) else Some (a_value option)

-- of a word that names this option, after these words
abbrev pub wrong_named : (before : List (List ℕ)) → (option word : List ℕ) → Option (List ℕ)
wrong_named before option word =
    if is_twice before option then Some (twice option)
    else if not (nat_lt (length option) (length word)) then None
    else wrong_given option word

-- of a word that is an option, after these words
abbrev pub wrong_option : (before : List (List ℕ)) → (word : List ℕ) → Option (List ℕ) → Option (List ℕ)
wrong_option before word None = Some (unknown word)
wrong_option before word (Some option) = wrong_named before option word

-- of a word that is no option, and no first value of one: only files are named by several words
abbrev pub wrong_plain : (in_files : Bool) → (word : List ℕ) → Option (List ℕ)
wrong_plain in_files word = if in_files then None else Some (no_option word)

-- of a word after these words, of which the last may await it
abbrev pub wrong_next : (before : List (List ℕ)) → Bool → (word : List ℕ) → Option (List ℕ) → Option (List ℕ)
wrong_next before in_files word None =
    if is_option word then wrong_option before word (option_in word) else wrong_plain in_files word
wrong_next before in_files word (Some option) =
    if is_option word then Some (no_value option) else wrong_value option word

-- of these words alone, of which none is wrong: there is no locator, or no folder
abbrev pub wrong_last : (words : List (List ℕ)) → Option (List ℕ) → List ℕ
wrong_last words (Some option) = no_value option
wrong_last words None = if is_among words (codes "--tal") then no_cache else no_locator

abbrev pub wrong_at_end : List (List ℕ) → List ℕ
wrong_at_end words = wrong_last words (awaited words)

-- of words after these
unfoldable pub wrong_behind : (before : List (List ℕ)) → Bool → (words : List (List ℕ)) → List ℕ
wrong_behind before in_files [] = wrong_at_end before
wrong_behind before in_files (word ∷ words) =
    unwrap_or (wrong_next before in_files word (awaited before))
    (wrong_behind (before ++ word ∷ []) (in_files_after in_files word) words)

-- what the program says of words that ask for nothing: what is wrong first, and how it is used
abbrev pub complaint_text : List (List ℕ) → List ℕ
complaint_text words = codes "rpkivalid: " ++ wrong_behind [] false words ++ 10 ∷ [] ++ usage_text
