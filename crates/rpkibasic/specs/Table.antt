-- A table of signatures: the bits of a key, a message, and its signature.
use Rattle.std.specs.Prelude.{ℕ, Bool, ◌&&◌, List, Vec, map, bytes_eq}
use Rattle.std.specs.List.{list_any}

-- a row: the bits, the message and the signature, each as its octets
abbrev pub Row : Type 0
Row = List ℕ × List ℕ × List ℕ

-- the rows that are kept, as their octets
abbrev pub row_of : {X Y Z : Type 0} → (Vec ℕ X × Vec ℕ Y × Vec ℕ Z) → Row
row_of row = (row.0.items, row.1.items, row.2.items)

abbrev pub rows_of : {X Y Z : Type 0} → List (Vec ℕ X × Vec ℕ Y × Vec ℕ Z) → List Row
rows_of table = map row_of table

-- the row is these three
abbrev pub is_row : (bits message signature : List ℕ) → Row → Bool
is_row bits message signature row = bytes_eq row.0 bits && bytes_eq row.1 message && bytes_eq row.2 signature

-- the three are in a row of the table
abbrev pub stands : List Row → (bits message signature : List ℕ) → Bool
stands table bits message signature = list_any (is_row bits message signature) table
