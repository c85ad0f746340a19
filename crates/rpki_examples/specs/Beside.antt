-- An object in the directory of another.
use Rattle.std.specs.Prelude.{◌≡◌, ◌⊎◌, ℕ, List, Option, Some, None}
use Rattle.rpki_text.specs.declared.uri.error.Error.{Error}
use Rattle.rpki_text.specs.declared.uri.error.Error.TheVariants.{OutOfMemory}
use Rattle.rpki_text.specs.RsyncText.{uri_of, parent_of, joined, join_refusal, relative}

-- The URI is the name joined to the directory of the other, and the name leads to it from there; or the other has no
-- directory.
abbrev pub IsBeside : List ℕ → List ℕ → Option (List ℕ) → Type 0
IsBeside other name None = parent_of other ≡ None
IsBeside other name (Some uri) =
    (directory : List ℕ) × (parent_of other ≡ Some directory) × (uri ≡ joined directory name)
    × (relative (uri_of uri) (uri_of directory) ≡ Some name)

-- the name can't be joined to the directory, or allocation failed
abbrev pub IsNotBeside : List ℕ → List ℕ → Error → Type 0
IsNotBeside other name e =
    (e ≡ OutOfMemory) ⊎ ((directory : List ℕ) × (parent_of other ≡ Some directory)
    × (join_refusal directory name ≡ Some e))
