-- The serial numbers of a revocation list, kept as a set.
use Rattle.std.specs.Prelude.{◌≡◌, ℕ, Bool, List, Option, None, Some}
use Rattle.std.specs.Ordering.{nat_cmp}
use Rattle.std.specs.BTreeSet as tree
use Rattle.rpki.specs.Prelude.{SignedParts}
use Rattle.rpki_crl.specs.Crl.{Entry, listed, is_revoked, CrlParts, IsListIn}

-- a number is in the set exactly if one of the entries has it
abbrev pub AreSerials : tree.BTreeSet ℕ → List Entry → Type 0
AreSerials set xs = (n : ℕ) → tree.contains nat_cmp set n ≡ is_revoked n xs

-- what is kept of the entries, if anything is
abbrev pub AreKept : Option (tree.BTreeSet ℕ) → List Entry → Type 0
AreKept None xs = Unit {0}
AreKept (Some set) xs = AreSerials set xs

-- the signed octets are such a list, whose serial numbers are kept
pub record IsKeptList (x : CrlParts) (signed : SignedParts Bool) (serials : Option (tree.BTreeSet ℕ)) : Type 0 where
  pub list : IsListIn x signed
  pub kept : AreKept serials (listed x.list.revoked)
