-- The rows of a table, as they are kept and as their octets.
use Rattle.std.proofs.Common.{◌≡◌, ℕ, List, [], ◌∷◌, refl, ap}
use Rattle.std.specs.Prelude.{◌||◌, Vec}
use Rattle.std.specs.List.{list_any}
use Rattle.rpkibasic.specs.Table.{row_of, rows_of, is_row, stands}

-- what is in the rows is found in what is kept
pub stands-kept : {X Y Z : Type 0} (bits message signature : List ℕ) (table : List (Vec ℕ X × Vec ℕ Y × Vec ℕ Z))
    → list_any (λ row. is_row bits message signature (row_of row)) table ≡ stands (rows_of table) bits message signature
stands-kept bits message signature [] = refl
stands-kept bits message signature (row ∷ table) =
    ap (λ rest. is_row bits message signature (row_of row) || rest) (stands-kept bits message signature table)
