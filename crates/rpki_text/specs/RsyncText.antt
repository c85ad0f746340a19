-- The text of an rsync URI (RFC 5781 section 2): its parts, the first thing that is wrong with it, what it stands for.
use Rattle.std.specs.Prelude.{ℕ, ◌==◌, ◌≡◌, ◌+◌, ◌-◌, ◌||◌, ◌&&◌, not, Bool, true, List, [], ◌∷◌, ◌++◌, length, take}
use Rattle.std.specs.Prelude.{drop, codes, flat_map, if◌then◌else◌, nat_le, nat_lt, bytes_eq, Option, Some, None}
use Rattle.std.specs.List.{list_all, list_any, before_first, after_first, position_or_len}
use Rattle.std.specs.Option.{option_or, option_map, is_some}
use Rattle.std.specs.Ordering.{on, eq_of_both}
use Rattle.std.specs.Cmp.Lexicographic.{pointwise}
use Rattle.std.specs.Hash as fed
use mathlib.Core.Bool.{beq}
use Rattle.rpki_text.specs.declared.uri.error.Error.{Error}
use Rattle.rpki_text.specs.declared.uri.error.Error.TheVariants.{InvalidCharacters, BadUri, LongUri, BadScheme}
use Rattle.rpki_text.specs.declared.uri.error.Error.TheVariants.{DotSegments, EmptySegments, LongSegments}
use Rattle.rpki_text.specs.UriText.{lowercase, is_uri_byte, same_text}
use Rattle.rpki_text.specs.Segments.{is_slash, segments, is_dir, path_text, with_slash, IsParentLen}

-- what is wrong with a segment by itself
abbrev pub piece_refusal : List ℕ → Option Error
piece_refusal piece =
    if length piece == 0 then Some EmptySegments
    else if bytes_eq piece (codes ".") || bytes_eq piece (codes "..") then Some DotSegments
    else if nat_le 256 (length piece) then Some LongSegments
    else None

-- what is wrong with the leftmost of them that has something wrong
abbrev pub names_refusal : List (List ℕ) → Option Error
names_refusal [] = None
names_refusal (name ∷ more) = option_or (piece_refusal name) (names_refusal more)

-- what is wrong with what is after the scheme, or with a path that is joined
unfoldable pub path_refusal : List ℕ → Option Error
path_refusal path = if nat_le 3072 (length path) then Some LongUri else names_refusal (segments path)

-- the text is `rsync://` in any case
abbrev pub has_scheme : List ℕ → Bool
has_scheme text = bytes_eq (lowercase (take 8 text)) (codes "rsync://")

-- the authority, up to the first slash after the scheme
unfoldable pub authority_of : List ℕ → List ℕ
authority_of text = before_first is_slash (drop 8 text)

-- the module name, up to the next slash
unfoldable pub module_name_of : List ℕ → List ℕ
module_name_of text = before_first is_slash (after_first is_slash (drop 8 text))

-- the path, after that slash
unfoldable pub path_of : List ℕ → List ℕ
path_of text = after_first is_slash (after_first is_slash (drop 8 text))

-- an authority, a module name and the slash after it
unfoldable pub has_module : List ℕ → Bool
has_module text =
    nat_lt 0 (length (authority_of text)) && nat_lt 0 (length (module_name_of text))
    && list_any is_slash (after_first is_slash (drop 8 text))

-- what is wrong with the text, by the first of the five conditions
unfoldable pub rsync_refusal : List ℕ → Option Error
rsync_refusal text =
    if not (list_all is_uri_byte text) then Some InvalidCharacters
    else if not (has_scheme text) then Some BadScheme
    else option_or (path_refusal (drop 8 text)) (if has_module text then None else Some BadUri)

-- nothing is wrong with the text but perhaps its length
pub record IsRsync (text : List ℕ) : Type 0 where
  pub characters : list_all is_uri_byte text ≡ true
  pub scheme : has_scheme text ≡ true
  pub names : names_refusal (segments (drop 8 text)) ≡ None
  pub full : has_module text ≡ true

-- such a text, with the places where its module name and its path begin
pub record IsCut (text : List ℕ) (module_start path_start : ℕ) : Type 0 where
  pub form : IsRsync text
  pub module_starts : module_start ≡ 9 + position_or_len is_slash (drop 8 text)
  pub path_starts : path_start ≡ module_start + position_or_len is_slash (drop module_start text) + 1

-- what a text stands for
pub record RsyncUri : Type 0 where
  pub authority : List ℕ
  pub module_name : List ℕ
  pub segments : List (List ℕ)
  pub is_dir : Bool

unfoldable pub uri_of : List ℕ → RsyncUri
uri_of text = record {
  authority = lowercase (authority_of text);
  module_name = module_name_of text;
  segments = segments (path_of text);
  is_dir = is_dir (path_of text);
}

-- a part of a URI: not empty, and without a slash
abbrev pub is_part : List ℕ → Bool
is_part part = nat_lt 0 (length part) && not (list_any is_slash part)

-- what is a URI: the authority in lower case, each part filled and without a slash, the mark set where there is no
-- segment
pub record IsRsyncUri (u : RsyncUri) : Type 0 where
  pub lower : lowercase u.authority ≡ u.authority
  pub parts : list_all is_part (u.authority ∷ u.module_name ∷ u.segments) ≡ true
  pub root : u.segments ≡ [] → u.is_dir ≡ true

-- a text stands for the URI: the scheme and the authority are spelled in any case (RFC 5781 section 2, RFC 3986 section
-- 6.2.2.1)
pub record Spells (text : List ℕ) (u : RsyncUri) : Type 0 where
  pub scheme : List ℕ
  pub authority : List ℕ
  pub any_case : (lowercase scheme ≡ codes "rsync://") × (lowercase authority ≡ u.authority)
  pub is : text ≡ scheme ++ authority ++ codes "/" ++ u.module_name ++ codes "/" ++ path_text u.segments u.is_dir

-- what follows the second list in the first, where it begins with the second
abbrev pub strip_prefix : List (List ℕ) → List (List ℕ) → Option (List (List ℕ))
strip_prefix us [] = Some us
strip_prefix [] (v ∷ vs) = None
strip_prefix (u ∷ us) (v ∷ vs) = if bytes_eq u v then strip_prefix us vs else None

-- the remaining path of a path after these segments, if it begins with them
unfoldable pub path_left : List ℕ → List (List ℕ) → Option (List ℕ)
path_left path names = option_map (λ left. path_text left (is_dir path)) (strip_prefix (segments path) names)

-- the same authority and the same module
abbrev pub same_module : RsyncUri → RsyncUri → Bool
same_module u v = bytes_eq u.authority v.authority && bytes_eq u.module_name v.module_name

-- the path from v to u
unfoldable pub relative : RsyncUri → RsyncUri → Option (List ℕ)
relative u v =
    if same_module u v
    then option_map (λ left. path_text left u.is_dir) (strip_prefix u.segments v.segments)
    else None

-- the text with a path joined to it: an empty one changes nothing
unfoldable pub joined : List ℕ → List ℕ → List ℕ
joined base [] = base
joined base (b ∷ path) = with_slash base ++ b ∷ path

-- what is wrong with joining the path
unfoldable pub join_refusal : List ℕ → List ℕ → Option Error
join_refusal base [] = None
join_refusal base (b ∷ path) =
    if not (list_all is_uri_byte (b ∷ path)) then Some InvalidCharacters
    else option_or (path_refusal (b ∷ path)) (if nat_le 3072 (length (joined base (b ∷ path))) then Some LongUri
    else None)

-- two URIs are the same where their four parts are
abbrev pub same_uri : RsyncUri → RsyncUri → Bool
same_uri =
    eq_of_both (eq_of_both (on (λ u. u.authority) bytes_eq) (on (λ u. u.module_name) bytes_eq))
    (eq_of_both (on (λ u. u.segments) (pointwise bytes_eq)) (on (λ u. u.is_dir) beq))

-- what is hashed of a text: the scheme and the authority in lower case, octet by octet, and all the rest
abbrev pub hashed : List ℕ → List (List ℕ)
hashed text = flat_map fed.u8 (codes "rsync://" ++ lowercase (authority_of text) ++ codes "/")
    ++ fed.slice fed.u8 (module_name_of text ++ codes "/" ++ path_of text)

-- the list without its last element, if it has one
abbrev pub without_last : List (List ℕ) → Option (List (List ℕ))
without_last [] = None
without_last (name ∷ more) = Some (take (length more) (name ∷ more))

-- the text without its last segment, a slash last
unfoldable pub parent_of : List ℕ → Option (List ℕ)
parent_of text =
    option_map (λ names. take (length text - length (path_of text)) text ++ path_text names true)
    (without_last (segments (path_of text)))

-- the URI without its last segment, marked as a directory, if it has a segment
unfoldable pub parent_uri : RsyncUri → Option RsyncUri
parent_uri u =
    option_map (λ names. record {
      authority = u.authority;
      module_name = u.module_name;
      segments = names;
      is_dir = true;
    }) (without_last u.segments)

-- the URI's segments are a strict beginning of the other's
unfoldable pub is_parent : RsyncUri → RsyncUri → Bool
is_parent u v = is_some (relative v u) && nat_lt (length u.segments) (length v.segments)

-- what the second is above, the first is above too
abbrev pub IsAboveAllBelow : RsyncUri → RsyncUri → Type 0
IsAboveAllBelow u v = (w : RsyncUri) → is_parent u v ≡ true → is_parent v w ≡ true → is_parent u w ≡ true

-- the same module and the same segments, with any marks
unfoldable pub is_identical : RsyncUri → RsyncUri → Bool
is_identical u v = same_module u v && pointwise bytes_eq u.segments v.segments

-- the URI with a path's segments appended to its own, and the path's mark: an empty path changes nothing
unfoldable pub joined_uri : RsyncUri → List ℕ → RsyncUri
joined_uri u [] = u
joined_uri u (b ∷ path) =
    record {
      authority = u.authority;
      module_name = u.module_name;
      segments = u.segments ++ segments (b ∷ path);
      is_dir = is_dir (b ∷ path);
    }

-- the path that leads from v to u: joined to v it gives u, or is too long where u is
pub record IsWayBack (u v path : List ℕ) : Type 0 where
  pub refusal : join_refusal v path ≡ (if nat_lt (length u) 3072 then None else Some LongUri)
  pub uri : uri_of (joined v path) ≡ uri_of u

-- the parent of a text: a beginning of it, with one segment fewer, above it
pub record IsParentText (parent child : List ℕ) : Type 0 where
  pub beginning : take (length parent) child ≡ parent
  pub one_fewer : length (uri_of parent).segments + 1 ≡ length (uri_of child).segments
  pub above : is_parent (uri_of parent) (uri_of child) ≡ true

-- all up to the path
unfoldable pub module_of : List ℕ → List ℕ
module_of text = take (length text - length (path_of text)) text

-- the parent of a text ends there: the module, and so much of the path that its last segment alone is left out
pub record IsParentEnd (text : List ℕ) (end : ℕ) : Type 0 where
  pub len : ℕ
  pub at : end ≡ length (module_of text) + len
  pub path : IsParentLen (path_of text) len

-- the module, its scheme and authority in lower case
unfoldable pub canonical_module_of : List ℕ → List ℕ
canonical_module_of text = codes "rsync://" ++ lowercase (authority_of text) ++ codes "/" ++ module_name_of text
    ++ codes "/"

-- other octets are the text but for the case of its scheme and its authority
unfoldable pub eq_rsync_bytes : List ℕ → List ℕ → Bool
eq_rsync_bytes text bytes = same_text (8 + length (authority_of text)) text bytes

-- the text, perhaps a slash, and the path
abbrev pub joined_by : Bool → List ℕ → List ℕ → List ℕ
joined_by slash base path = (if slash then base ++ 47 ∷ [] else base) ++ path

abbrev pub size_joined_by : Bool → List ℕ → List ℕ → ℕ
size_joined_by slash base path = length base + (if slash then 1 else 0) + length path

-- two texts have the same authority, ignoring case, and the same module
abbrev pub same_module_of : List ℕ → List ℕ → Bool
same_module_of s t =
    bytes_eq (lowercase (authority_of s)) (lowercase (authority_of t)) && bytes_eq (module_name_of s) (module_name_of t)

-- the module name begins there, after the authority, and the path after the module name
abbrev pub StartAt : List ℕ → ℕ → ℕ → Type 0
StartAt text name path = (name ≡ 9 + position_or_len is_slash (drop 8 text))
    × (path ≡ name + position_or_len is_slash (drop name text) + 1)
