-- The characters of URIs (RFC 3986 section 2), and texts whose front is read without regard to case (section 6.2.2.1).
use Rattle.std.specs.Prelude.{ℕ, ◌==◌, ◌||◌, ◌&&◌, Bool, List, take, drop, map, bytes_eq}
use Rattle.std.specs.Int.{is_in_range}
use Rattle.std.specs.Char.{to_ascii_lowercase}

-- the text with its ASCII letters in lower case
abbrev pub lowercase : List ℕ → List ℕ
lowercase text = map to_ascii_lowercase text

-- `!`, `$` to `;`, `=`, `A` to `Z`, `_`, `a` to `z`, `~`
unfoldable pub is_uri_byte : ℕ → Bool
is_uri_byte b =
    (b == 33) || is_in_range 36 59 b || (b == 61) || is_in_range 65 90 b || (b == 95) || is_in_range 97 122 b ||
    (b == 126)

-- the same length, the first n octets without regard to case, the rest exactly
unfoldable pub same_text : ℕ → List ℕ → List ℕ → Bool
same_text n a b = bytes_eq (lowercase (take n a)) (lowercase (take n b)) && bytes_eq (drop n a) (drop n b)
