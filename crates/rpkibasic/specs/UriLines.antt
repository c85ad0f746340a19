-- What is written of a URI.
use Rattle.std.specs.Prelude.{ℕ, ◌-◌, Bool, List, [], ◌∷◌, ◌++◌, length, take, drop, codes, bytes_eq, if◌then◌else◌}
use Rattle.std.specs.Prelude.{Option}
use Rattle.rpki_text.specs.declared.uri.error.Error.{Error}
use Rattle.rpki_text.specs.UriText.{lowercase}
use Rattle.rpki_text.specs.HttpsText.{https_refusal, https_authority, https_path}
use Rattle.rpki_text.specs.RsyncText.{rsync_refusal, authority_of, module_name_of, path_of}

-- the text without one line feed at its end
abbrev pub without_last_line_feed : List ℕ → List ℕ
without_last_line_feed text = if bytes_eq (drop (length text - 1) text) (10 ∷ []) then take (length text - 1) text
    else text

-- the text is an https URI, if any
abbrev pub is_https_text : List ℕ → Bool
is_https_text text = bytes_eq (lowercase (take 8 text)) (codes "https://")

-- what is wrong with the text first, as an https URI or as an rsync URI
abbrev pub uri_refusal_of : List ℕ → Option Error
uri_refusal_of text = if is_https_text text then https_refusal text else rsync_refusal text

-- a word, a value and a line feed
abbrev pub line_of : List ℕ → List ℕ → List ℕ
line_of word value = word ++ value ++ 10 ∷ []

-- the lines of an https URI, of an rsync URI, and of either
abbrev pub https_lines : List ℕ → List ℕ
https_lines text = line_of (codes "scheme ") (codes "https")
    ++ line_of (codes "authority ") (lowercase (https_authority text)) ++ line_of (codes "path ") (https_path text)

abbrev pub rsync_lines : List ℕ → List ℕ
rsync_lines text = line_of (codes "scheme ") (codes "rsync")
    ++ line_of (codes "authority ") (lowercase (authority_of text)) ++ line_of (codes "module ") (module_name_of text)
    ++ line_of (codes "path ") (path_of text)

abbrev pub uri_lines : List ℕ → List ℕ
uri_lines text = if is_https_text text then https_lines text else rsync_lines text
