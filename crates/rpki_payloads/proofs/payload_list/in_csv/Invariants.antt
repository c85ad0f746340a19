use Rattle.std.proofs.Common.{◌≡◌, ◌<◌, ℕ, List, Some, true}
use Rattle.csv.specs.Reading.{Reached, Ready, default_config, source_of, strip_bom}
use Rattle.csv.specs.declared.parser.State.TheVariants as st
use Rattle.csv.specs.declared.reader.Trim.TheVariants as trim
use Rattle.rpki_payloads.specs.Listed.{AreRows}
use Rattle.rpki_payloads.proofs.payload_list.in_csv.Given as goal

-- the rows that are read, from the rest on, and their payloads
abbrev pub invariant-rows : goal.invariant-rows
invariant-rows l =
    (l.row-iterator.rdr.trim ≡ trim.None) × Ready l.row-iterator.rdr × (0 < l.row-iterator.left)
    × (l.row-iterator.rdr.config ≡ default_config) × (l.row-iterator.rdr.flexible ≡ true)
    × (y : List ℕ) × (rows : List (List (List ℕ)))
    × (source_of (λ s. Some s.now) l.row-iterator.rdr ≡ Some y)
    × Reached default_config st.StartRecord (strip_bom l.fn.text) rows l.row-iterator.rdr.state y
    × AreRows rows l.all.items
