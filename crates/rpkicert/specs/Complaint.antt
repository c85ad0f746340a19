-- What is wrong with words that ask for nothing: what is wrong first, from the left.
use Rattle.std.specs.Prelude.{ℕ, nat_eq, nat_lt, ◌+◌, ◌-◌, ◌&&◌, ◌||◌, not, Bool, true, if◌then◌else◌}
use Rattle.std.specs.Prelude.{List, [], ◌∷◌, ◌++◌, length, drop, codes, bytes_eq, unwrap_or, slice_get}
use Rattle.std.specs.Prelude.{Option, Some, None, is_some}
use Rattle.std.specs.List.{list_any, starts_with}
use Rattle.rpkicert.specs.Request.{choice_of}
use Rattle.rpkicert.specs.Output.{visible}
use Rattle.rpkicert.specs.Words.{usage_text}

-- ---- what is said

-- of a word, between two texts
abbrev pub said : (front word behind : List ℕ) → List ℕ
said front word behind = front ++ visible word ++ behind

abbrev pub unknown : List ℕ → List ℕ
unknown word = said (codes "unknown option: ") word []

abbrev pub no_value : List ℕ → List ℕ
no_value option = said [] option (codes " takes a value")

abbrev pub a_value : List ℕ → List ℕ
a_value option = said [] option (codes " takes no value")

abbrev pub twice : List ℕ → List ℕ
twice option = said [] option (codes " is given twice")

abbrev pub no_profile : List ℕ → List ℕ
no_profile word = said (codes "--profile takes auto, ta, ca, ee, detached or router, not ") word []

abbrev pub lax_alone : List ℕ
lax_alone = said (codes "--lax is for --check and --profile") [] []

abbrev pub list_alone : List ℕ
list_alone = said (codes "--crl is for --issuer") [] []

abbrev pub no_file : List ℕ
no_file = said (codes "no file") [] []

-- ---- the options

-- nothing remains of a word, or `=` and a value
abbrev pub is_end : List ℕ → Bool
is_end [] = true
is_end (octet ∷ octets) = nat_eq octet 61

-- the word is this option, or this option, `=` and a value
abbrev pub is_of : (option word : List ℕ) → Bool
is_of option word = starts_with nat_eq word option && is_end (drop (length option) word)

-- the option that a word names
abbrev pub option_in : List ℕ → Option (List ℕ)
option_in word =
    if bytes_eq word (codes "-h") || is_of (codes "--help") word then Some (codes "--help")
    else if is_of (codes "--version") word then Some (codes "--version")
    else if is_of (codes "--json") word then Some (codes "--json")
    else if is_of (codes "--check") word then Some (codes "--check")
    else if is_of (codes "--lax") word then Some (codes "--lax")
    else if bytes_eq word (codes "-r") || is_of (codes "--recursive") word then Some (codes "--recursive")
    else if is_of (codes "--profile") word then Some (codes "--profile")
    else if is_of (codes "--issuer") word then Some (codes "--issuer")
    else if is_of (codes "--crl") word then Some (codes "--crl")
    else if is_of (codes "--at") word then Some (codes "--at")
    else None

abbrev pub takes_value : (option : List ℕ) → Bool
takes_value option =
    bytes_eq option (codes "--profile") || bytes_eq option (codes "--issuer") || bytes_eq option (codes "--crl")
    || bytes_eq option (codes "--at")

-- the word names the option
abbrev pub names : (option word : List ℕ) → Bool
names option word = bytes_eq (unwrap_or (option_in word) []) option

-- the option is among the words
abbrev pub is_among : List (List ℕ) → (option : List ℕ) → Bool
is_among words option = list_any (names option) words

-- a word that begins with a hyphen, and isn't only that (POSIX, Base Definitions 12.2)
abbrev pub is_option : List ℕ → Bool
is_option word = starts_with nat_eq word (45 ∷ []) && nat_lt 1 (length word)

-- ---- what is wrong

-- the last of the words, where it is an option that takes the next word as its value
abbrev pub awaiting : Option (List ℕ) → Option (List ℕ)
awaiting None = None
awaiting (Some word) = if takes_value word then Some word else None

abbrev pub awaited : List (List ℕ) → Option (List ℕ)
awaited words = awaiting (slice_get words (length words - 1))

-- of a value of this option
abbrev pub wrong_value : (option value : List ℕ) → Option (List ℕ)
wrong_value option value =
    if bytes_eq option (codes "--profile") && not (is_some (choice_of value)) then Some (no_profile value) else None

-- of a word that names this option, after these words
abbrev pub wrong_named : (before : List (List ℕ)) → (option word : List ℕ) → Option (List ℕ)
wrong_named before option word =
    if is_among before option then Some (twice option)
    else if not (nat_lt (length option) (length word)) then None
    else if takes_value option then wrong_value option (drop (length option + 1) word)
    else Some (a_value option)

-- of a word that is an option, after these words
abbrev pub wrong_option : (before : List (List ℕ)) → (word : List ℕ) → Option (List ℕ) → Option (List ℕ)
wrong_option before word None = Some (unknown word)
wrong_option before word (Some option) = wrong_named before option word

-- of a word after these words, of which the last may await it
abbrev pub wrong_next : (before : List (List ℕ)) → (word : List ℕ) → Option (List ℕ) → Option (List ℕ)
wrong_next before word None = if is_option word then wrong_option before word (option_in word) else None
wrong_next before word (Some option) = if is_option word then Some (no_value option) else wrong_value option word

-- of these words alone, of which none is wrong: there is no profile for names, no issuer for a list, or no file
abbrev pub wrong_last : (words : List (List ℕ)) → Option (List ℕ) → List ℕ
wrong_last words (Some option) = no_value option
wrong_last words None =
    if is_among words (codes "--lax") && not (is_among words (codes "--check") || is_among words (codes "--profile"))
    then lax_alone
    else if is_among words (codes "--crl") && not (is_among words (codes "--issuer")) then list_alone
    else no_file

abbrev pub wrong_at_end : List (List ℕ) → List ℕ
wrong_at_end words = wrong_last words (awaited words)

-- of words after these; after `--` are files alone (POSIX, Base Definitions 12.2, guideline 10)
unfoldable pub wrong_behind : (before words : List (List ℕ)) → List ℕ
wrong_behind before [] = wrong_at_end before
wrong_behind before (word ∷ words) =
    if bytes_eq word (codes "--") then wrong_at_end before
    else unwrap_or (wrong_next before word (awaited before)) (wrong_behind (before ++ word ∷ []) words)

-- what the program says of words that ask for nothing: what is wrong first, and how it is used
abbrev pub complaint_text : List (List ℕ) → List ℕ
complaint_text words = codes "rpkicert: " ++ wrong_behind [] words ++ 10 ∷ [] ++ usage_text
