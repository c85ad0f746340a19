-- What an inspection of a name has seen, attribute by attribute.
use Rattle.std.specs.Prelude.{◌≡◌, ◌<◌, ℕ, Bool, false, List, length, slice_index_or, cond}
use Rattle.std.specs.List.{All}
use Rattle.rpki.specs.Name.{Attribute}
use Rattle.rpki.specs.NameTable.{Row, row_at}
use Rattle.rpki.specs.StrictName.{count_of, IsPermitted}

-- Of these attributes the table permits each; of each row one was there if `found` says so at its number, and none
-- else.
pub record IsFound (table : List Row) (IsString : List ℕ → Type 0) (found : List Bool) (xs : List Attribute) : Type 0
  where
    pub counted : (n : ℕ) → n < length table
        → count_of (row_at table n).identifier xs ≡ cond (slice_index_or found n false) 1 0
    pub permitted : All (IsPermitted table IsString) xs
