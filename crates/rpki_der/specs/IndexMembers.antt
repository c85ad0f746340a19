-- The members of a value, by the numbers of their entries in an index. The first entry of an index has the number 0.
use Rattle.std.specs.Prelude.{ℕ, ◌+◌, ◌<◌, List, [], ◌∷◌, length, Option, nat_eq, if◌then◌else◌}
use Rattle.std.specs.Option.{option_eq}
use Rattle.rpki_der.specs.Index.{Entry, IsIndex}

-- the numbers of those of the entries that have this parent, in order, where the first has the number n
abbrev pub numbers_from : ℕ → Option ℕ → List Entry → List ℕ
numbers_from n parent [] = []
numbers_from n parent (e ∷ es) =
    if option_eq nat_eq e.parent parent then n ∷ numbers_from (n + 1) parent es else numbers_from (n + 1) parent es

-- the same of a whole index
abbrev pub member_numbers : Option ℕ → List Entry → List ℕ
member_numbers parent index = numbers_from 0 parent index

-- the index of these octets has an entry of this number
pub record HasEntry (octets : List ℕ) (number : ℕ) : Type 0 where
  pub index : List Entry
  pub is : IsIndex octets index
  pub within : number < length index
