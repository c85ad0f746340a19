-- A path as its segments (RFC 3986 section 3.3): what lies between slashes, without an empty last piece.
use Rattle.std.specs.Prelude.{ℕ, ◌==◌, ◌≡◌, Bool, true, false, List, [], ◌∷◌, ◌++◌, codes, length, take, ◌≤◌}
use Rattle.std.specs.Prelude.{if◌then◌else◌}
use Rattle.std.specs.List.{slice_split, join_with_byte}

abbrev pub is_slash : ℕ → Bool
is_slash b = b == 47

-- the pieces between slashes, one more than there are slashes
abbrev pub pieces : List ℕ → List (List ℕ)
pieces text = slice_split is_slash text

-- the pieces without an empty last one
abbrev pub names_of : List (List ℕ) → List (List ℕ)
names_of [] = []
names_of ([] ∷ []) = []
names_of ((b ∷ bs) ∷ []) = (b ∷ bs) ∷ []
names_of (piece ∷ next ∷ more) = piece ∷ names_of (next ∷ more)

-- the last piece is empty: the path is empty or ends with a slash
abbrev pub has_empty_last : List (List ℕ) → Bool
has_empty_last [] = true
has_empty_last ([] ∷ []) = true
has_empty_last ((b ∷ bs) ∷ []) = false
has_empty_last (piece ∷ next ∷ more) = has_empty_last (next ∷ more)

unfoldable pub segments : List ℕ → List (List ℕ)
segments path = names_of (pieces path)

unfoldable pub is_dir : List ℕ → Bool
is_dir path = has_empty_last (pieces path)

-- the path with a slash last, unless it is empty or has one
unfoldable pub with_slash : List ℕ → List ℕ
with_slash text = if is_dir text then text else text ++ codes "/"

-- the path with these segments: a slash between each two, and one last where it is marked
unfoldable pub path_text : List (List ℕ) → Bool → List ℕ
path_text names dir = join_with_byte 47 (names ++ (if dir then [] ∷ [] else []))

-- the path up to n has every segment but the last, and a slash last unless it is empty
pub record IsParentLen (path : List ℕ) (n : ℕ) : Type 0 where
  pub within : n ≤ length path
  pub closed : is_dir (take n path) ≡ true
  pub name : List ℕ
  pub last : segments path ≡ segments (take n path) ++ name ∷ []
