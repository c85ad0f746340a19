-- Words with the files in a folder in place of the folder.
use Rattle.std.specs.Prelude.{ℕ, nat_eq, nat_lt, ◌&&◌, ◌||◌, not, Bool, if◌then◌else◌, List, [], ◌∷◌, ◌++◌, length}
use Rattle.std.specs.Prelude.{bytes_eq}
use Rattle.std.specs.List.{starts_with}

-- the paths of the files in a folder whose names end so, in order; none of what is no folder
abbrev pub Listed : Type 0
Listed = (ending folder : List ℕ) → List (List ℕ)

-- a word that begins with a hyphen, and isn't only that (POSIX, Base Definitions 12.2)
abbrev pub is_option : List ℕ → Bool
is_option word = starts_with nat_eq word (45 ∷ []) && nat_lt 1 (length word)

-- the files that there are; without any the word as it is
abbrev pub or_itself : (files : List (List ℕ)) → (word : List ℕ) → List (List ℕ)
or_itself [] word = word ∷ []
or_itself (file ∷ files) word = file ∷ files

-- a word that is a value: the files in the folder of this name, or itself
abbrev pub spread_word : (files : List ℕ → List (List ℕ)) → (value : Bool) → (word : List ℕ) → List (List ℕ)
spread_word files value word = if value then or_itself (files word) word else word ∷ []

-- the words, of which the values of this option, up to the next one, are spread; the first may be one after it
unfoldable pub spread : (files : List ℕ → List (List ℕ)) → (option : List ℕ) → (behind : Bool) → List (List ℕ)
    → List (List ℕ)
spread files option behind [] = []
spread files option behind (word ∷ words) =
    spread_word files (behind && not (is_option word)) word
    ++ spread files option ((behind && not (is_option word)) || bytes_eq word option) words
