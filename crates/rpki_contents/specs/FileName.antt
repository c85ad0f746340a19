-- Names of files on manifests (RFC 9286 4.2.2).
use Rattle.std.specs.Prelude.{◌-◌, ◌&&◌, ◌||◌, ℕ, Bool, false, List, [], ◌∷◌, length, take, drop, eqb, nat_lt}
use Rattle.std.specs.List.{list_all}
use Rattle.std.specs.Char.{is_ascii_alphanumeric, is_ascii_lowercase}

-- a letter, a digit, '-' or '_'
abbrev pub is_name_octet : ℕ → Bool
is_name_octet x = is_ascii_alphanumeric x || (eqb x 45 || eqb x 95)

abbrev pub are_name_octets : List ℕ → Bool
are_name_octets xs = list_all is_name_octet xs

abbrev pub are_small_letters : List ℕ → Bool
are_small_letters xs = list_all is_ascii_lowercase xs

-- a dot, and small letters
abbrev pub is_extension : List ℕ → Bool
is_extension [] = false
is_extension (x ∷ xs) = eqb x 46 && are_small_letters xs

-- one or more of these characters; then, as the last four, a dot and three small letters. Which three is for IANA's
-- registry to say ("RPKI Repository Name Schemes"), whose extensions are all of small letters.
abbrev pub is_file_name : List ℕ → Bool
is_file_name name =
    nat_lt 4 (length name)
    && (are_name_octets (take (length name - 4) name) && is_extension (drop (length name - 4) name))
