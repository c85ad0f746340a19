-- What clauses see of parts of certificates of any algorithms that the library holds.
use Rattle.std.specs.Prelude.{ℕ, List, Option}

-- octets that are there
abbrev pub octets_if : Option (List ℕ) → Option (List ℕ)
octets_if o = o
