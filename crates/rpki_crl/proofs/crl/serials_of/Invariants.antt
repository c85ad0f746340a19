use Rattle.std.proofs.Common.{◌≡◌, ℕ, drop}
use Rattle.std.specs.Prelude.{◌||◌}
use Rattle.std.specs.Ordering.{nat_cmp}
use Rattle.std.specs.BTreeSet as tree
use Rattle.rpki_crl.specs.Crl.{entries_in, is_revoked}
use Rattle.rpki_crl.proofs.crl.serials_of.Given as goal

abbrev pub invariant-entries : goal.invariant-entries
invariant-entries l =
    (n : ℕ) → (tree.contains nat_cmp l.serials n || is_revoked n (entries_in (drop l.entry-index l.entries)))
    ≡ is_revoked n (entries_in l.entries)
