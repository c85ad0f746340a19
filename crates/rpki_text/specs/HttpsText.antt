-- The text of an https URI (RFC 9110 section 4.2.2): its parts, the first thing that is wrong with it, what it stands
-- for.
use Rattle.std.specs.Prelude.{ℕ, ◌≡◌, ◌+◌, ◌-◌, ◌&&◌, not, Bool, false, List, [], ◌++◌, length, take, drop, codes}
use Rattle.std.specs.Prelude.{flat_map, if◌then◌else◌, nat_le, nat_lt, bytes_eq, Option, Some, None}
use Rattle.std.specs.List.{list_all, list_any, before_first, suffix_len}
use Rattle.std.specs.Option.{option_map}
use Rattle.std.specs.Ordering.{on, eq_of_both}
use Rattle.std.specs.Hash as fed
use Rattle.rpki_text.specs.declared.uri.error.Error.{Error}
use Rattle.rpki_text.specs.declared.uri.error.Error.TheVariants.{InvalidCharacters, BadUri, BadScheme}
use Rattle.rpki_text.specs.Segments.{is_slash, is_dir}
use Rattle.rpki_text.specs.UriText.{lowercase, is_uri_byte, same_text}

-- the authority, up to the first slash after the scheme; it may be empty (RFC 3986 section 3.2)
unfoldable pub https_authority : List ℕ → List ℕ
https_authority text = before_first is_slash (drop 8 text)

-- the rest from its first slash, or nothing
unfoldable pub https_path : List ℕ → List ℕ
https_path text = drop (8 + length (https_authority text)) text

-- what is wrong with the text, by the first of the three conditions
unfoldable pub https_refusal : List ℕ → Option Error
https_refusal text =
    if not (list_all is_uri_byte text) then Some InvalidCharacters
    else if not (bytes_eq (lowercase (take 8 text)) (codes "https://")) then Some BadScheme
    else if nat_le 256 (length (https_authority text)) then Some BadUri
    else None

-- a text with which nothing is wrong, with the place where its path begins
pub record IsHttpsCut (text : List ℕ) (path_start : ℕ) : Type 0 where
  pub passes : https_refusal text ≡ None
  pub path_starts : path_start ≡ 8 + length (https_authority text)

-- what a text stands for: the authority in lower case, and the rest as it is
pub record HttpsUri : Type 0 where
  pub authority : List ℕ
  pub path : List ℕ

unfoldable pub https_uri_of : List ℕ → HttpsUri
https_uri_of text = record { authority = lowercase (https_authority text); path = https_path text }

-- what is an https URI: the authority in lower case and without a slash, the path empty or beginning with a slash
pub record IsHttpsUri (u : HttpsUri) : Type 0 where
  pub lower : lowercase u.authority ≡ u.authority
  pub one_part : list_any is_slash u.authority ≡ false
  pub path : before_first is_slash u.path ≡ []

-- a text stands for the URI: the scheme and the authority are spelled in any case
pub record SpellsHttps (text : List ℕ) (u : HttpsUri) : Type 0 where
  pub scheme : List ℕ
  pub authority : List ℕ
  pub any_case : (lowercase scheme ≡ codes "https://") × (lowercase authority ≡ u.authority)
  pub is : text ≡ scheme ++ authority ++ u.path

-- two URIs are the same where their two parts are
abbrev pub same_https : HttpsUri → HttpsUri → Bool
same_https = eq_of_both (on (λ u. u.authority) bytes_eq) (on (λ u. u.path) bytes_eq)

-- what is hashed of a text: the scheme and the authority in lower case, octet by octet, and all the rest
abbrev pub https_hashed : List ℕ → List (List ℕ)
https_hashed text = flat_map fed.u8 (codes "https://" ++ lowercase (https_authority text))
    ++ fed.slice fed.u8 (https_path text)

-- other octets are the text but for the case of its scheme and its authority
unfoldable pub eq_https_bytes : List ℕ → List ℕ → Bool
eq_https_bytes text bytes = same_text (8 + length (https_authority text)) text bytes

-- the path is not empty, and ends with a slash
abbrev pub ends_in_slash : List ℕ → Bool
ends_in_slash path = nat_lt 0 (length path) && is_dir path

-- the path with a slash last, also if it is empty
abbrev pub closed_path : List ℕ → List ℕ
closed_path path = if ends_in_slash path then path else path ++ codes "/"

-- the URI with a path appended to its own, a slash between
unfoldable pub https_joined_uri : HttpsUri → List ℕ → HttpsUri
https_joined_uri u path = record { authority = u.authority; path = closed_path u.path ++ path }

-- the text with a path joined to it
unfoldable pub https_joined : List ℕ → List ℕ → List ℕ
https_joined text path = (if ends_in_slash (https_path text) then text else text ++ codes "/") ++ path

-- what is wrong with joining the path
unfoldable pub https_join_refusal : List ℕ → Option Error
https_join_refusal path = if list_all is_uri_byte path then None else Some InvalidCharacters

-- the text as a directory: an empty path is one
unfoldable pub https_into_dir : List ℕ → List ℕ
https_into_dir text = if is_dir (https_path text) then text else text ++ codes "/"

-- the path without one last slash
abbrev pub without_slash : List ℕ → List ℕ
without_slash path = if ends_in_slash path then take (length path - 1) path else path

-- the path up to its last slash, with it
abbrev pub up_to_slash : List ℕ → List ℕ
up_to_slash path = take (length path - suffix_len (λ b. not (is_slash b)) path) path

-- the path above: one last slash dropped, and then everything after the last remaining slash; none where nothing
-- remains
unfoldable pub path_above : List ℕ → Option (List ℕ)
path_above path = if nat_lt 0 (length (without_slash path)) then Some (up_to_slash (without_slash path)) else None

unfoldable pub https_parent_uri : HttpsUri → Option HttpsUri
https_parent_uri u = option_map (λ path. record { authority = u.authority; path = path }) (path_above u.path)

unfoldable pub https_parent_of : List ℕ → Option (List ℕ)
https_parent_of text = option_map (λ path. take (8 + length (https_authority text)) text ++ path)
    (path_above (https_path text))

-- the parent of a text ends there: what is before the path, and so much of the path as is above it
pub record IsHttpsParentEnd (text : List ℕ) (end : ℕ) : Type 0 where
  pub len : ℕ
  pub at : end ≡ 8 + length (https_authority text) + len
  pub path : path_above (https_path text) ≡ Some (take len (https_path text))
